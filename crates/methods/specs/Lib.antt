-- A prepared method, and its key.
pub mod Method
pub mod Keys
