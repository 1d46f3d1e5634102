-- The laws of the writer: runs of stores, words, bodies, checks in a row; what a file spells and says; and trees of equal leaves.
pub mod Stores
pub mod Words
pub mod Bodies
pub mod Checks
pub mod Spelled
pub mod Said
pub mod Stars
