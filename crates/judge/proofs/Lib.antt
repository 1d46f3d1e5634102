-- The laws of judging.
pub mod Replaying
pub mod Judging
pub mod One
pub mod Parts
pub mod Own
