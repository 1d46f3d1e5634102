pub mod Entries
pub mod Texts
pub mod Theorems
