-- Decimal text of a modulus, limits and residues: its lines and tokens, the numbers they stand for, and what a reading of them hands back.
pub mod Tokens
pub mod Numbers
pub mod Input
