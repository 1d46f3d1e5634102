-- How a log is judged, in request 4's words, what the functions promise, and what is proved of it.
pub mod Kinds
pub mod Judging
pub mod Promises
pub mod Theorems
