-- What a draw of one 64-bit word a coefficient reads and answers.
pub mod Answering
