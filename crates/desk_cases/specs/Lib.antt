-- Bytes in hexadecimal, and what is printed of an answer.
pub mod Hexadecimal
pub mod Printed
pub mod RoundTrip
