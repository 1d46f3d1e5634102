-- The definitions of the tree layer, in document 01's words.
pub mod Numbers
pub mod Rules
pub mod Trees
pub mod Verdicts
