-- The fields of printed lines: definitions, and statements of them.
pub mod Fields
pub mod Paper
