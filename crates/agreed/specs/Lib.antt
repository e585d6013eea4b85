-- The statements over the promises of several calls.
pub mod Paper
