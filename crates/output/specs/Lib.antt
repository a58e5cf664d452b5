-- What an output holds, signed and as residues, and how large an element is.
pub mod Signed
pub mod Residues
pub mod Size
