-- What the functions of the CRT layout compute.
pub mod Rows
pub mod Parts
