-- `file::writer::write` meets its contract: a tree that the checks refuse is refused here; a right one is `put_file`'s.
-- Assumes nothing.
use borrow.Author.Rules.{rules}
use mathlib.Core.Path.{◌≡◌, refl}
use Rattle.std.specs.Prelude.{Err}
use Rattle.tree.proofs.Verdicts.{judged_right}
use Rattle.file.proofs.WriteLaws.Checks.{refused_on}
use Rattle.file.proofs.writer.write.Goals as goal

pub put_file-requires : goal.put_file-requires
put_file-requires c = judged_right c.args.tree c.in_ok-check.ensures

pub returns-in_err-check : goal.returns-in_err-check
returns-in_err-check c =
    let said : c.from_residual.result ≡ Err c.in_err-check.field-0.0 = search rules in
    record { verdict = Err c.in_err-check.field-0.0; judged = refused_on c.args.tree _ _ _ c.in_err-check.ensures; answered = said; buffer = refl }
