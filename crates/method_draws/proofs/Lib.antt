-- What a prepared method draws, against what its distribution draws.
pub mod Drawing
