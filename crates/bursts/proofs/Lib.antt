-- Laws of a file that comes in bursts, and the theorems on it.
pub mod Held
pub mod Offers
pub mod One
pub mod Cuts
