-- What is asked with capped numbers is answered as of the numbers themselves.
pub mod Asked
pub mod Figured
