-- What the verdicts program prints: definitions and statements.
pub mod Report
pub mod Paper
