-- Making an error sampler, which samplers making gives, and its standard deviation.
pub mod Sampler
