-- The paper's known dates as one table.
pub mod Known
