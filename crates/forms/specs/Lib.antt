-- A line's fields: definitions, and statements of them.
pub mod Forms
pub mod Texts
pub mod Paper
