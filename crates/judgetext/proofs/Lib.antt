-- The laws of a log's text.
pub mod Steps
pub mod Onward
pub mod Turns
pub mod One
pub mod Meaning
pub mod OwnText
