-- The laws of the sheet.
pub mod Ways
pub mod Deadlines
pub mod Shares
pub mod Sheets
pub mod Calls
pub mod Reasons
pub mod One
