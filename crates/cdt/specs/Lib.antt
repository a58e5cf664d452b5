-- What a draw by a cumulative table goes by: the search of its intervals, and its guide; and the draw's whole answer.
pub mod Drawn
pub mod Guided
