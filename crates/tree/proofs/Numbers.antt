-- Document 01's numbers tell the refusals apart.
-- Assumes nothing.
use Prim.Native.Nat.{ℕ}
use mathlib.Core.Path.{◌≡◌, refl, sym, ap, ◌∙◌}
use mathlib.Core.List.{List, [], ◌∷◌}
use lib.ListN.{get_or}
use Rattle.tree.specs.Numbers.{number_of}
use Rattle.tree.specs.declared.Refusal.{Refusal}
use Rattle.tree.specs.declared.Refusal.TheVariants.{ShortFile, NoMark, OtherVersion, WrongCount, WrongTotal, WrongPlace, WrongBody, TooDeep, CurveAboveChildren, CurvesDontFit, NoSuchLeaf, WrongLength, LeafFull, StampTooFar, ClockFull, BytesFull, SmallBuffer}

-- the refusals by their numbers; number 0 is nobody's
refusals : List Refusal
refusals =
    ShortFile ∷ ShortFile ∷ NoMark ∷ OtherVersion ∷ WrongCount ∷ WrongTotal ∷ WrongPlace ∷ WrongBody ∷ TooDeep ∷ CurveAboveChildren ∷ CurvesDontFit ∷ NoSuchLeaf ∷ WrongLength ∷ LeafFull ∷ StampTooFar ∷ ClockFull ∷ BytesFull ∷ SmallBuffer ∷ []

refusal_of : ℕ → Refusal
refusal_of n = get_or refusals n ShortFile

refusal_back : (why : Refusal) → refusal_of (number_of why) ≡ why
unfolding refusal_of refusals
refusal_back ShortFile = refl
refusal_back NoMark = refl
refusal_back OtherVersion = refl
refusal_back WrongCount = refl
refusal_back WrongTotal = refl
refusal_back WrongPlace = refl
refusal_back WrongBody = refl
refusal_back TooDeep = refl
refusal_back CurveAboveChildren = refl
refusal_back CurvesDontFit = refl
refusal_back NoSuchLeaf = refl
refusal_back WrongLength = refl
refusal_back LeafFull = refl
refusal_back StampTooFar = refl
refusal_back ClockFull = refl
refusal_back BytesFull = refl
refusal_back SmallBuffer = refl

pub refusal_by_number : (a b : Refusal) → number_of a ≡ number_of b → a ≡ b
refusal_by_number a b e = sym (refusal_back a) ∙ ap refusal_of e ∙ refusal_back b
