-- The laws of a log judged over a file.
pub mod One
