-- Small cases, laws of numbers in bytes, and of loops that read, fill and lay them.
pub mod Cases
pub mod Numbers
pub mod Filling
