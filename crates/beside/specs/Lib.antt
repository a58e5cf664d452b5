-- What the calls beside the Rust answer, by the definitions.
pub mod Calls
