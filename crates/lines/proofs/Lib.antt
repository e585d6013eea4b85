-- Laws of runs of months.
pub mod Runs
