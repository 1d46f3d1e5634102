-- The guarantee's proof, and the runs that show that its premises can be met and that its number can't be smaller.
pub mod Sums
pub mod Leaves
pub mod Invariant
pub mod Guarantee
pub mod Told
pub mod Runs
