-- Numbers in bytes: definitions.
pub mod Bytes
