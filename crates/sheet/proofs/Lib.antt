-- Laws that the proofs of this crate share.
pub mod Placing
pub mod Lines
pub mod Patterns
pub mod WellFormed
pub mod Residues
pub mod Answers
