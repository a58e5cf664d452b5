pub mod Places
pub mod Runs
pub mod Taking
pub mod Choosing
