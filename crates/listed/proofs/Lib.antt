-- Laws of a sheet that was read, of the items of its lists and puts of them, of the front of a sheet, and the proof of the statement.
pub mod Items
pub mod Reading
pub mod Fronts
pub mod Paper
pub mod Puts
