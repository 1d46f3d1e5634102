-- Request 4, "Judge the competitor's box from its log": what the four numbers of a record say, and the record that a call leaves in a log.
-- Assumes nothing.
use Rattle.rules.specs.Kinds.{Arrival, Departure}
use Rattle.std.specs.Prelude.{ℕ, cond, ◌&&◌, List, [], ◌∷◌, eqb, Some, None, Ok, Err, Option}
use Rattle.records.specs.declared.Record.{Record}
use Rattle.records.specs.declared.Record.TheVariants.{Arrived, Departed, FoundEmpty, Malformed}
use Rattle.records.specs.declared.Numbers.{Numbers}

-- "four to a record: kind (1 arrival, 2 departure, 3 found empty), stamp, class, length"
abbrev pub arrival_kind : ℕ
arrival_kind = 1

abbrev pub departure_kind : ℕ
departure_kind = 2

abbrev pub empty_kind : ℕ
empty_kind = 3

-- "A record is malformed if its kind is unknown or a kind 3 record has a nonzero class or length"
unfoldable pub record_of : (kind stamp class length : ℕ) → Record
record_of kind stamp class length =
    cond (eqb kind arrival_kind)
    (Arrived stamp class length)
    (cond (eqb kind departure_kind) (Departed stamp class length) (cond (eqb kind empty_kind && (eqb class 0 && eqb length 0)) (FoundEmpty stamp) Malformed))

-- what a call leaves in the log: the numbers of a record, or nothing
abbrev pub Entry : Type 0
Entry = Option Numbers

abbrev pub numbers : (kind stamp class length : ℕ) → Entry
numbers kind stamp class length = Some (record { kind = kind; stamp = stamp; class = class; length = length })

-- what an arrival and a departure leave in the log of their run. "A refusal there gives back the same state", so that a refused call leaves nothing.
abbrev pub arrival_entry : (stamp class length : ℕ) → Arrival → Entry
arrival_entry stamp class length (Ok number) = numbers arrival_kind stamp class length
arrival_entry stamp class length (Err why) = None

-- "kind 3 has zero for class and length"
abbrev pub departure_entry : (stamp : ℕ) → Departure → Entry
departure_entry stamp (Ok (Some packet)) = numbers departure_kind stamp packet.class packet.length
departure_entry stamp (Ok None) = numbers empty_kind stamp 0 0
departure_entry stamp (Err why) = None

-- the numbers of an entry, in the log
abbrev pub entry_numbers : Entry → List ℕ
entry_numbers None = []
entry_numbers (Some n) = n.kind ∷ n.stamp ∷ n.class ∷ n.length ∷ []
