-- Laws of the class-tree file, and the theorems on reading and writing it.
pub mod ReadLaws
pub mod ReadOne
pub mod WriteLaws
pub mod WriteOne
pub mod Written
pub mod RoundTrip
pub mod OneFile
pub mod Longest
pub mod Examples
