-- What C is offered: answers laid flat, what the calls promise, and statements of both.
pub mod Flat
pub mod Structs
pub mod Promises
pub mod Yearbook
pub mod Renewed
pub mod Paper
