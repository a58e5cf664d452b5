-- What the comparison of an answer with the stored one says.
pub mod Answer
