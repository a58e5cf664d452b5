-- 02 [5]: the claim that the table draw and the division draw agree.
pub mod Agreement
