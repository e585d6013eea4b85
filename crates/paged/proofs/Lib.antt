-- Laws of a loop over a local reader.
pub mod Turns
