-- Laws of a question by numbers, which the proofs of this crate, of the sheet and of the desk share.
pub mod Requests
pub mod Encoding
pub mod Values
pub mod Held
pub mod Idle
