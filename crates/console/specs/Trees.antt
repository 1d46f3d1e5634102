-- What is told of a class-tree file.
-- Assumes nothing.
use Rattle.std.specs.Prelude.{ℕ, List}
use Rattle.bursts.specs.declared.Taken.{Taken}
use Rattle.bursts.specs.Bursts.{Answers}

-- Where its end was told, what some file reads as: which bytes it has, no promise can say. Where it was not, nothing, and no tree.
pub record ToldOfSome (told : Taken) : Type 0 where
  pub file : List ℕ
  pub answers : Answers told.seen.ended file told.answer
