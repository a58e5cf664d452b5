-- What a prepared method draws, signed, as residues of one modulus and of several.
pub mod Drawing
