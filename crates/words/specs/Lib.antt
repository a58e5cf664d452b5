-- What the functions over lent words hand back.
pub mod Reading
