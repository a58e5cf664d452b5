-- A distribution of either kind: making its sampler, and drawing at once.
pub mod Either
