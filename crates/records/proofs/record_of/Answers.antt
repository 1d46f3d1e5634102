-- `records::record_of` meets its contract: each arm is one of the definition's.
-- Assumes nothing.
use mathlib.Core.Path.{◌≡◌, refl}
use borrow.Author.Tests.{eq-eqb, ne_eqb}
use Rattle.records.specs.Records.{record_of}
use Rattle.records.proofs.record_of.Goals as goal

pub returns-in-1-default-default : goal.returns-in-1-default-default
unfolding record_of
returns-in-1-default-default c = rw (eq-eqb _ _ c.in-1-default-default.is-0) refl

pub returns-in-2-default-default : goal.returns-in-2-default-default
unfolding record_of
returns-in-2-default-default c = rw c.in-2-default-default.is-0 refl

pub returns-in-3-eq0-eq0 : goal.returns-in-3-eq0-eq0
unfolding record_of
returns-in-3-eq0-eq0 c =
    let no_class : c.args.class ≡ 0 = c.in-3-eq0-eq0.is-1 in
    rw (c.in-3-eq0-eq0.is-0, no_class, c.in-3-eq0-eq0.is-2) refl

pub returns-in_default : goal.returns-in_default
unfolding record_of
returns-in_default c = rw (c.in_default.is-0, c.in_default.is-1, ne_eqb _ _ c.in_default.is-2.1) refl

pub returns-in_default-2 : goal.returns-in_default-2
unfolding record_of
returns-in_default-2 c = rw (c.in_default.is-0, ne_eqb _ _ c.in_default.is-1.1) refl

pub returns-in_default-3 : goal.returns-in_default-3
unfolding record_of
returns-in_default-3 c = let other = c.in_default.is-0 in rw (ne_eqb _ _ other.0.0.1, ne_eqb _ _ other.0.1, ne_eqb _ _ other.1) refl
