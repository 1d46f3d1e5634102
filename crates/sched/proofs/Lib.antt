-- The laws of the scheduler's calls.
pub mod Asking
pub mod Starting
pub mod ArrivingSlots
pub mod ArrivingTimes
pub mod Arriving
pub mod One
pub mod Departing
pub mod DepartingNext
pub mod DepartingTake
pub mod DepartingCall
pub mod RunLaws
