-- Document 01, "The sheet": what a sheet says and the text that answers it.
pub mod Argument
pub mod Text
pub mod Written
pub mod Sheet
