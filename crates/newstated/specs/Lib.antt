-- The request's sentences on the new form.
pub mod Paper
