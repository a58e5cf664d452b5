-- Laws of the draws by two thresholds.
pub mod Sampling
pub mod Plans
