-- What is prepared for a secret-key distribution, and which family it is of.
pub mod Method
pub mod Family
