-- The acceptance test over one layer, and over the tables.
pub mod Accepting
