-- A text judged through a reader, for tests.
pub mod Paged
