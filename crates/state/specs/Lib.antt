-- The state's table, and what the arrays hold for a history.
pub mod Table
pub mod Columns
pub mod State
pub mod Heads
-- What the steps promise to the scheduler and one another: no host's promise cites these.
pub mod Kinds
pub mod Steps
pub mod Planting
pub mod StepsChoosing
