pub mod Scans
pub mod Texts
pub mod Theorems
