-- The laws of a sheet's lines.
pub mod Lines
pub mod One
