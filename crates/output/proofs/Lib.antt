-- Laws on what an output holds.
pub mod Naturals
