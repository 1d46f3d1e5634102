-- The laws of a class among its parent's children.
pub mod RestingSteps
pub mod RestingFair
pub mod RestingLift
pub mod WakingChildren
pub mod WakingFair
pub mod WakingCells
pub mod WakingTurn
pub mod One
