-- The reasons of request 5, by number and values, and the line of a sheet.
pub mod Reasons
pub mod Lines
