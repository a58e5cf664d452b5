-- Laws that the proofs of this crate share.
pub mod Scanning
pub mod Splitting
pub mod Digits
pub mod Filling
pub mod Inputs
pub mod Good
pub mod Examples
