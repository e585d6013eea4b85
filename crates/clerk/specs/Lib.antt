-- The clerk's own way: definitions, promises, and statements.
pub mod Clerk
pub mod Paper
