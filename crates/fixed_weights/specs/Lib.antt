-- What the functions that insert say of their plans and readings, and of where they stopped. The public draws cite the rules alone.
pub mod Plans
pub mod Inserting
