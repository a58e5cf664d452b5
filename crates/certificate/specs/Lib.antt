-- Demand 3, and the contracts that it is about.
pub mod Polynomials
pub mod CallPromises
pub mod Certificate
