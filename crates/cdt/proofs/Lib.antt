-- Laws of the search of a cumulative table, and of the draws by it.
pub mod Climbing
pub mod Drawing
