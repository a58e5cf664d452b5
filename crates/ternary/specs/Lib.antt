-- What the draws by two thresholds are: the rule of a prepared sampler, and the plan that the loops go by.
pub mod Sampler
