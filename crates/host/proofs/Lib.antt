-- The laws of the exported face: the tree that words say, the state that a tree file starts, answers that their numbers tell apart, one result for each
-- call, what a written file is good for, a file that comes in bursts, and runs of exported calls.
pub mod Saying
pub mod Starting
pub mod Told
pub mod One
pub mod Writing
pub mod Bursts
pub mod Running
