-- What is prepared for an error distribution.
pub mod Method
