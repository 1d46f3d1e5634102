-- The laws of the tree layer, which the layers above cite.
pub mod Children
pub mod Classes
pub mod Curves
pub mod Depths
pub mod Made
pub mod Numbers
pub mod One
pub mod Right
pub mod Rule
pub mod Same
pub mod Stores
pub mod Verdicts
pub mod Some
