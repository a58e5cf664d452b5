-- Laws on the method that is prepared for an error distribution.
pub mod Prepared
