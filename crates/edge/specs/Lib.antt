-- One layer of the lent tables, and the acceptance test over it.
pub mod Edge
