pub mod Spans
pub mod Sames
pub mod Digits
pub mod One
pub mod Decimals
pub mod Plain
pub mod ReadBack
