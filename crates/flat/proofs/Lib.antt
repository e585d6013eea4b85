-- A date laid flat, from that of another day of its month.
pub mod Sharing
