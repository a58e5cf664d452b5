-- Document 01, "The sheet": what a kind with its parameters asks for.
pub mod Request
