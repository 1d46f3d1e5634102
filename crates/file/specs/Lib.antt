-- The definitions of the class-tree file, in document 01's words.
pub mod Format
pub mod Writing
pub mod Smallest
pub mod Fronts
pub mod Theorems
pub mod Steps
