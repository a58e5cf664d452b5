-- Laws on the support of a deviation, on what making a Gaussian hands back, on equal floats, on the bits of a signed integer, and on the test of
-- a table that never falls.
pub mod Support
pub mod Made
pub mod SameFloat
pub mod Signs
pub mod Tables
