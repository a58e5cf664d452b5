-- Laws of the centered binomial: its parameters, its counts of ones, and its deviations.
pub mod Made
pub mod Counting
pub mod Deviations
pub mod Drawing
