-- The proof that the table draw and the division draw agree.
pub mod Agreement
