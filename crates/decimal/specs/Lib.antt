-- Decimal text.
pub mod Decimal
