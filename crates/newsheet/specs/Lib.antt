-- The new form of the sheet: definitions, faults, promises.
pub mod New
pub mod Faults
pub mod Promises
