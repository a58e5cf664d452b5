-- Laws on cutting a float, on scaling it by a power of two, and on thresholds.
pub mod Truncating
pub mod Scaling
pub mod Thresholds
pub mod Made
