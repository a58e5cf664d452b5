-- What making a Gaussian hands back.
pub mod Made
