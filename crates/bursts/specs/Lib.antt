-- Document 02, 1, in its words: a reader that takes a class-tree file in bursts.
pub mod Bursts
pub mod Theorems
