-- The laws of the scheduler's state.
pub mod Cells
pub mod Resting
pub mod LeafCells
pub mod LeafCalls
pub mod LeafTimes
pub mod NextTimes
pub mod Chain
pub mod Choosing
pub mod ChoosingDown
pub mod Zeros
pub mod One
pub mod Starting
pub mod StartingLinks
pub mod Fresh
pub mod ShowsOne
pub mod Shown
