-- How much of an input the converting programs need.
pub mod Paper
