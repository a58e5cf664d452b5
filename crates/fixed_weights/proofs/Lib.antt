-- Laws that the proofs of the draws with weights share, over the element type of the output.
pub mod Inserting
pub mod Turns
pub mod Judging
pub mod Signs
pub mod PlanRules
pub mod SignTurns
pub mod Counting
pub mod Settling
pub mod Planning
pub mod Weighing
