-- What the test of the layer tables hands back, and what it says of them.
pub mod Fault
pub mod Lent
pub mod Which
