-- Each public function's promise allows one answer: two results that it allows for the same input are equal. Each theorem is about the name that
-- stands in the function's head.
-- Assumes nothing.
use Prim.Native.Nat.{ℕ}
use mathlib.Core.Path.{◌≡◌, refl, sym, ap, ◌∙◌}
use native.Mathlib.Omega.{arith}
use mathlib.Core.Bool.{Bool}
use mathlib.Core.List.{List}
use Rattle.curve.specs.Curves.{RightCurve}
use Rattle.curve.specs.Fit.{CurvesFit}
use Rattle.curve.specs.Keeping.{early}
use Rattle.curve.specs.Promises.{TellsRight, TellsFit, Encodes, Decodes, Converts, TellsUndelayed, LowerPiece, ArrivesAt, KeptAfter, DueAt, EligibleAt}
use Rattle.curve.specs.declared.Curve.{Curve}
use Rattle.curve.specs.declared.Piece.{Piece}
use Rattle.curve.specs.declared.Kept.{Kept}
use Rattle.curve.specs.declared.codec.Code.{Code}
use Rattle.curve.specs.declared.codec.UnknownKind.{UnknownKind}
use Rattle.std.specs.Prelude.{Result, Ok, Err}
use Rattle.curve.proofs.Laws.Answers.{exactly_one, least_one}
use Rattle.curve.proofs.Laws.Codec.{said_code, code_kind, kind_known}

pub right_one : (S : Curve) (r s : Bool) → TellsRight S r → TellsRight S s → r ≡ s
right_one S r s = exactly_one r s (RightCurve S)

pub fits_one : (Ss : List Curve) (r s : Bool) → TellsFit Ss r → TellsFit Ss s → r ≡ s
fits_one Ss r s = exactly_one r s (CurvesFit Ss)

pub encode_one : (S : Curve) (r s : Code) → Encodes S r → Encodes S s → r ≡ s
encode_one S r s h k = h ∙ sym k

pub decode_one : (kind x y z : ℕ) (r s : Curve) → Decodes kind x y z r → Decodes kind x y z s → r ≡ s
decode_one kind x y z r s h k = h ∙ sym k

pub converts_one : (c : Code) (r s : Result Curve UnknownKind) → Converts c r → Converts c s → r ≡ s
converts_one c (Ok S) (Ok S') h k = ap Ok (h.1 ∙ sym k.1)
converts_one c (Ok S) (Err e) h k = absurd (omega arith)
converts_one c (Err e) (Ok S) h k = absurd (omega arith)
converts_one c (Err e) (Err e') h k = refl

-- and what is encoded converts back to the same curve
pub decoded_back : (S : Curve) (c : Code) (r : Result Curve UnknownKind) → Encodes S c → Converts c r → r ≡ Ok S
decoded_back S c r h k =
    let said : Converts c (Ok S) = rw h (rw (code_kind S) (kind_known S), sym (said_code S)) in
    converts_one c r (Ok S) k said

pub is_undelayed_one : (S : Curve) (r s : Bool) → TellsUndelayed S r → TellsUndelayed S s → r ≡ s
is_undelayed_one S r s = exactly_one r s (early S ≡ S)

pub lower_one : (m : ℕ) (old new r s : Piece) → LowerPiece m old new r → LowerPiece m old new s → r ≡ s
lower_one m old new r s h k = h ∙ sym k

pub arrival_one : (S : Curve) (p : Piece) (bytes r s : ℕ) → ArrivesAt S p bytes r → ArrivesAt S p bytes s → r ≡ s
arrival_one S p bytes r s = least_one

pub with_one : (S : Curve) (k : Kept) (p : Piece) (r s : Kept) → KeptAfter S k p r → KeptAfter S k p s → r ≡ s
with_one S k p r s h l = h ∙ sym l

pub deadline_one : (S : Curve) (k : Kept) (bytes r s : ℕ) → DueAt S k bytes r → DueAt S k bytes s → r ≡ s
deadline_one S k bytes r s = least_one

pub eligible_one : (S : Curve) (k : Kept) (bytes r s : ℕ) → EligibleAt S k bytes r → EligibleAt S k bytes s → r ≡ s
eligible_one S k bytes r s = least_one
