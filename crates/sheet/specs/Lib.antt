-- The sheet: definitions, faults, promises, and what the inner functions ask.
pub mod Sheet
pub mod Faults
pub mod Promises
pub mod Steps
