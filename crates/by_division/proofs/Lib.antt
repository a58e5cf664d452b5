-- That the rule's draw of trits is the draw of its distribution.
pub mod Answering
