pub mod Tails
pub mod Reached
pub mod Polynomials
pub mod Certificate
pub mod Instances
