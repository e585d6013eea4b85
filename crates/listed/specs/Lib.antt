-- The listing of a sheet: what is stated of it. Its definition is in `penned`.
pub mod Paper
