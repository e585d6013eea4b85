-- A drawer of days: definitions, promise, and the paper's sentences as statements.
pub mod Drawer
pub mod Shared
pub mod Paper
