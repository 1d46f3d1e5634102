-- The definitions of the curve layer, in document 01's words: what its promises cite.
pub mod Answers
pub mod Curves
pub mod Fit
pub mod Pieces
-- What the functions tell one another and the layers above of kept pieces, and a curve's kind and numbers.
pub mod Keeping
pub mod Codec
-- The names that stand in the heads.
pub mod Promises
