-- Words and coefficients as bytes.
pub mod Patterns
pub mod LittleEndian
pub mod OneToOne
