pub mod Bits
pub mod Numbers
pub mod WorkedCases
