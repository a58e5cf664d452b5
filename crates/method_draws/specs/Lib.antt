-- The methods that making prepares, and what each draws.
pub mod Drawing
