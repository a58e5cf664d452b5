-- 02 [4], the exam desk: what its entry answers, what it may change, and cases worked by hand.
pub mod Desk
pub mod Changes
pub mod Worked
