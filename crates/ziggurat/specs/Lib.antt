-- What the layered draw's functions hand back, in the words of document 01's definitions.
pub mod Tables
pub mod Sampling
