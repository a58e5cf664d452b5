-- The three samplers that the library's face declares.
pub mod Views
