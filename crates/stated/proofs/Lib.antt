-- Laws of bytes both ways, of a sheet's end, of places; and the proofs of the statements.
pub mod Cases
pub mod RoundTrip
pub mod Ends
pub mod Items
pub mod Paper
