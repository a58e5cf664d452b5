-- What the centered binomial prepares, the whole answer of its draws, and its standard deviation.
pub mod Binomial
pub mod Deviation
