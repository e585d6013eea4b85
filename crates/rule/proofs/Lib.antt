-- The laws of the rule by topic, the laws of answers and lists, and the proofs of the paper's sentences.
pub mod Cases
pub mod Computing
pub mod Lists
pub mod Stores
pub mod Calendar
pub mod Counts
pub mod Months
pub mod Terms
pub mod Years
pub mod Leap
pub mod CivilYears
pub mod Last
pub mod Eclipses
pub mod Answers
pub mod Pairs
pub mod Paper
pub mod Civil
