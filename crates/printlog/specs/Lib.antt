pub mod Spelled
pub mod Lines
pub mod Promises
pub mod Theorems
