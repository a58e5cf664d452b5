-- Laws of the draws by one threshold.
pub mod Halves
pub mod Values
