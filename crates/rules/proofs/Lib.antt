-- The table of document 01's rows, and the laws of its rules.
pub mod Examples
pub mod Rows
pub mod Tests
pub mod Over
pub mod Trees
pub mod Queues
pub mod Allowed
pub mod Active
pub mod Choice
pub mod Answers
pub mod Made
pub mod Virtual
pub mod Sent
pub mod Leaves
pub mod Fair
pub mod One
pub mod Link
