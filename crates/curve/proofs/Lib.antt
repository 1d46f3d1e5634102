-- The laws of the curve layer, for its own proofs and for the layers above; that each public function's promise allows one answer.
pub mod Laws
pub mod One
