-- The records of a log, in request 4's words.
pub mod Records
