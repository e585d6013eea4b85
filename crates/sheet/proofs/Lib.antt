-- Laws of what decides an answer, of reading, laying and writing.
pub mod Deciding
pub mod Reading
pub mod Laying
pub mod Writing
pub mod Sheets
pub mod Places
