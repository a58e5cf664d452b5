-- Laws that the proofs of this crate share.
pub mod Requests
pub mod Changing
pub mod WorkedCases
