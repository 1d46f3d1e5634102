pub mod Examples
pub mod Named
pub mod One
