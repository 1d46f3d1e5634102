pub mod Stores
pub mod Digits
pub mod Rows
pub mod One
pub mod Split
pub mod Back
pub mod LineOne
