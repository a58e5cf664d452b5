-- Laws of making the two samplers of the library's face.
pub mod Making
