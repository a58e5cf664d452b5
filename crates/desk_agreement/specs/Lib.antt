-- 02 [4]: the claim that the desk and the library agree.
pub mod Agreement
