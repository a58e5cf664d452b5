-- What the functions that draw into each output type say of their tables, of their draws and of where they stopped. Their public draws cite
-- the rules alone.
pub mod Pairs
pub mod Cutting
pub mod Tabled
pub mod TritTable
pub mod Tables
pub mod Trits
