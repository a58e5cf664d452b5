-- Laws that the proofs of this crate share, and that coefficients and their bytes go one to one.
pub mod Sizes
pub mod Reading
pub mod Patterns
pub mod Places
pub mod OneToOne
