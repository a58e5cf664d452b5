-- What making a threshold hands back.
pub mod Made
