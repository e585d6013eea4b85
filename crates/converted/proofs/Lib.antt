-- Laws of the front of an input, for the converting programs.
pub mod Paper
