-- The laws of a test of a whole list and of a search for its first wrong entry, and the claim of which list is bad.
pub mod Judging
pub mod Searching
pub mod Faults
pub mod Which
