-- The proof that the desk and the library agree.
pub mod Agreement
