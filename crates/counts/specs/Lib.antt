-- What demand 3 counts: a request's draw lists, which coefficient lists lie inside a distribution, and the formula for each.
pub mod DrawLists
pub mod Inside
pub mod Formula
