-- Laws on preparing the method of a secret-key distribution, and on the method that is prepared.
pub mod Preparing
pub mod Prepared
