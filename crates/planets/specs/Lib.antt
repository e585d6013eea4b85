-- The five planets: definitions, the common divisor, promises, statements, and the table of checks.
pub mod Planets
pub mod Five
pub mod Divisors
pub mod Promises
pub mod Paper
pub mod Table
