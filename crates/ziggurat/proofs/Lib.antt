-- The laws of the tables that passed their test, of a try by them, and of the filling loops.
pub mod Floats
pub mod LayerTables
pub mod Trying
pub mod Proposing
pub mod Passing
pub mod ZeroThreshold
pub mod Filling
pub mod Turning
