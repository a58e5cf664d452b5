-- Laws that the proofs of this crate and of the crates above it share.
pub mod Digits
pub mod Front
pub mod Halves
pub mod RoundTrip
