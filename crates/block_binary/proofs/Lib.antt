pub mod Filling
pub mod Refusals
