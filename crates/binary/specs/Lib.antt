-- What the draws by one threshold are: the value of a word.
pub mod Below
