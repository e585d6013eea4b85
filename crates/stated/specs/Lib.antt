-- The statements of the sheet.
pub mod Paper
