-- Laws of the eight numbers of a reading, of checking and filling the fourth section, and of the calls.
pub mod Eights
pub mod Fourth
pub mod Calls
