-- Laws on what is made of a distribution of either kind and drawn by it.
pub mod Making
pub mod Drawing
