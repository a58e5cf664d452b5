-- The page of trits.
pub mod Page
