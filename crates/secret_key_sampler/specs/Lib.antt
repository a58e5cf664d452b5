-- Making a secret-key sampler, and which samplers making gives.
pub mod Sampler
