-- Document 01, "Numbers of refusal": each refusal's number.
-- Assumes nothing.
use Rattle.std.specs.Prelude.{ℕ}
use Rattle.tree.specs.declared.Refusal.{Refusal}
use Rattle.tree.specs.declared.Refusal.TheVariants.{ShortFile, NoMark, OtherVersion, WrongCount, WrongTotal, WrongPlace, WrongBody, TooDeep, CurveAboveChildren, CurvesDontFit, NoSuchLeaf, WrongLength, LeafFull, StampTooFar, ClockFull, BytesFull, SmallBuffer}

abbrev pub number_of : Refusal → ℕ
number_of ShortFile = 1
number_of NoMark = 2
number_of OtherVersion = 3
number_of WrongCount = 4
number_of WrongTotal = 5
number_of WrongPlace = 6
number_of WrongBody = 7
number_of TooDeep = 8
number_of CurveAboveChildren = 9
number_of CurvesDontFit = 10
number_of NoSuchLeaf = 11
number_of WrongLength = 12
number_of LeafFull = 13
number_of StampTooFar = 14
number_of ClockFull = 15
number_of BytesFull = 16
number_of SmallBuffer = 17
