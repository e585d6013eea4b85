-- Laws of the sum.
pub mod Sums
