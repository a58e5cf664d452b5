-- Laws that the proofs of the packed draws share, over the element type of the output.
pub mod Pairing
pub mod Storing
pub mod TritTable
pub mod Packing
pub mod Deciding
pub mod Rejecting
pub mod TritLoop
