pub mod One
pub mod LogBack
pub mod LogLineOne
