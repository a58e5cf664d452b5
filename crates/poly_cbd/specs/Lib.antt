-- The byte form of FIPS 203: what its inner functions speak of, and cases worked by hand. Its definition is SamplePolyCbd of `distr`.
pub mod Coefficient
pub mod Worked
