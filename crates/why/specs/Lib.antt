-- Why a departure would take from a leaf or not, what the sheet promises, and theorems.
pub mod Why
pub mod Promises
pub mod Theorems
-- What the inner steps promise one another: no public promise cites these.
pub mod Steps
