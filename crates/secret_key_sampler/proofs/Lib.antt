-- Laws on making a secret-key sampler, and on which samplers making gives.
pub mod Made
pub mod SamplerFloats
