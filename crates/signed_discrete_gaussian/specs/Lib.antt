-- The lent tables of a Gaussian draw.
pub mod Lent
