-- The text of a log, judged as it comes: its progress byte by byte, what the functions promise, and what that comes to for a whole text.
pub mod Texts
pub mod Promises
pub mod Theorems
