-- The statements about numbers too large for their type, proved.
pub mod Paper
