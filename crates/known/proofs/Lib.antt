-- The proof of the known dates.
pub mod Known
