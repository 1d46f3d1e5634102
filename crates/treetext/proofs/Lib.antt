pub mod Examples
pub mod Named
pub mod TextLines
pub mod Spaced
pub mod ClassLine
pub mod ReadBack
pub mod One
