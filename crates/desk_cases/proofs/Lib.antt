-- Laws of bytes in hexadecimal.
pub mod Hexadecimal
pub mod Fields
pub mod RoundTrip
