-- A module for each matter. The layers above cite these and never the text of the definitions.
pub mod Answers
pub mod Order
pub mod Limits
pub mod Amount
pub mod Division
pub mod Sum
pub mod Fit
pub mod Pieces
pub mod Lists
pub mod Kept
pub mod Leaf
pub mod Times
pub mod Codec
