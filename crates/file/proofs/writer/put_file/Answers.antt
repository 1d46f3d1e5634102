-- `file::writer::put_file` meets its contract: a right tree leaves the verdict to the room; header, contents and bodies are one run of the file's bytes.
-- Assumes nothing.
use borrow.Author.Rules.{rules}
use Prim.Native.Nat.{ℕ}
use mathlib.Core.Path.{refl, ap, ◌∙◌}
use mathlib.Core.List.{◌++◌}
use native.Mathlib.Omega.{arith}
use lib.ListN.{drop, length-append}
use Rattle.tree.specs.declared.Refusal.TheVariants.{SmallBuffer}
use Rattle.std.specs.Prelude.{Ok}
use Rattle.tree.specs.Verdicts.{all_right, refused}
use Rattle.tree.specs.Rules.Checking.{broken, kept}
use Rattle.tree.proofs.Verdicts.{passes}
use Rattle.file.specs.Format.{entry_at}
use Rattle.file.specs.declared.Order.TheVariants.{Big}
use Rattle.file.specs.Writing.{header_words, contents_words, bodies_words, file_words, file_in, file_of}
use Rattle.file.proofs.WriteLaws.Stores.{sets_front}
use Rattle.file.proofs.WriteLaws.Words.{words_on}
use Rattle.file.proofs.WriteLaws.Bodies.{contents_within, contents_length, file_length}
use Rattle.file.proofs.writer.put_file.Goals as goal

pub returns-then-out-total : goal.returns-then-out-total
returns-then-out-total c =
    record {
      verdict = refused SmallBuffer 0;
      judged = passes _ _ (refused SmallBuffer 0) (search rules) (broken refl (record { zero = refl; fault = λ room. omega arith }));
      answered = refl;
      buffer = refl;
    }

-- clauses: total_value header_bytes_in_bounds
pub put_header-requires : goal.put_header-requires
put_header-requires c = omega (arith, contents_within c.args.tree)

-- clauses: right_count count_in_bounds
pub put_contents-requires : goal.put_contents-requires
put_contents-requires c = omega (arith, contents_within c.args.tree)

pub returns : goal.returns
unfolding file_in file_words
returns c =
    let start = c in
    let tree = start.args.tree in
    let old = start.args.out.now in
    let total = c.total_bytes-total in
    let header = c.put_header in
    let contents = c.put_contents in
    let bodies = c.put_bodies in
    record {
      verdict = all_right;
      judged = passes tree _ all_right start.requires (kept (omega arith) refl);
      answered = ap Ok total.ensures;
      buffer =
          words_on Big old 0 (header_words tree ++ contents_words tree tree.count) (bodies_words tree tree.count) _ _ (entry_at tree.count)
          (simp length-append (omega (arith, contents_length tree tree.count)))
          (words_on Big old 0 (header_words tree) (contents_words tree tree.count) _ _ 16 refl header.ensures contents.ensures)
          bodies.ensures
          ∙ sets_front old (file_of tree) (omega (arith, file_length tree Big))
          ∙ ap (λ (n : ℕ). file_of tree ++ drop n old) (file_length tree Big);
    }
