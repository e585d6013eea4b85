-- Laws of the report.
pub mod Reporting
pub mod Paper
