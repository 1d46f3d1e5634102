-- Laws of reading.
pub mod Bodies
pub mod Judging
pub mod KindTable
pub mod Orders
pub mod Places
pub mod Prefix
pub mod Fronts
