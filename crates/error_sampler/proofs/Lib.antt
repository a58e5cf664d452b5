-- Laws on making an error sampler, and on which samplers making gives.
pub mod Made
pub mod SamplerFloats
