-- A case worked by hand: what a definition gives, and what it is stated to be.
pub record Case (A : Type 0) : Type 0 where
  pub given : A
  pub stated : A
