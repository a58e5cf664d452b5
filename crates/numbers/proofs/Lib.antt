-- Laws of the numbers that refuse a draw, and of the draws of one 64-bit word a coefficient.
pub mod Refusing
pub mod WideNumbers
pub mod WideDraws
pub mod WideStores
