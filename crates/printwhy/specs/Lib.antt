-- The words of a sheet's lines, the lines, what a print of them promises, and a theorem.
pub mod Spelled
pub mod Lines
pub mod Promises
pub mod Theorems
