-- Document 02 [2], a report over residues.
pub mod Centered
pub mod Report
pub mod Worked
pub mod Exact
pub mod Sums
