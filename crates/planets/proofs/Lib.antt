-- Laws of the conjunctions and of the common divisor, what holds of the five, and the proofs of the statements.
pub mod Cases
pub mod Computing
pub mod Moments
pub mod Divisors
pub mod Five
pub mod Literal
pub mod Refusing
pub mod Reducing
pub mod Made
pub mod Paper
