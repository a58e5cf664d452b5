-- Laws on the draws by a prepared method: what they answer, and that they are the draws of the distribution for which it was prepared.
pub mod Answers
pub mod Rows
pub mod Skips
pub mod Served
pub mod Families
pub mod Residues
pub mod Calls
