-- The log of a run of our own calls is accepted.
-- Assumes nothing.
use Rattle.std.specs.Prelude.{Some, None, Ok, Err}
use Rattle.rules.specs.Kinds.{Arrival, Departure}
use Prim.Native.Nat.{ℕ, ◌+◌, ◌*◌}
use native.Mathlib.Omega.{arith}
use mathlib.Core.Path.{◌≡◌, refl, sym, ap, subst, ◌∙◌}
use mathlib.Core.Bool.{Bool, true}
use mathlib.Core.List.{List, [], ◌++◌}
use lib.ListN.{length, length-append}
use Rattle.tree.specs.declared.Tree.{Tree}
use Rattle.tree.specs.Verdicts.{all_right}
use Rattle.rules.specs.declared.Packet.{Packet}
use Rattle.rules.specs.Calls.{History}
use Rattle.rules.specs.Answers.{Starts, Arrives, Departs}
use Rattle.records.specs.Records.{arrival_kind, departure_kind, empty_kind, record_of, arrival_entry, departure_entry, entry_numbers}
use Rattle.judge.specs.Kinds.{no_flaw, accepted}
use borrow.Author.Tests.{eq-eqb}
use Rattle.judge.specs.Judging.{is_that, same_or, departure_finding, empty_finding, ArrivalReplayed, DepartureReplayed, Judges, ended, right, replayed}
use Rattle.judge.specs.Theorems.{Logs, started, arrived, departed, OwnLogAccepted}
use Rattle.judge.proofs.Parts.{parts_judged}

same_packet : (packet : Packet) → is_that packet.class packet.length packet ≡ true
same_packet packet = rw (eq-eqb packet.class packet.class refl, eq-eqb packet.length packet.length refl) refl

abbrev WholeRecords : List ℕ → Type 0
WholeRecords log = (r : ℕ) × (length log ≡ 4 * r)

-- what a call leaves in the log is right, and a refused call leaves nothing and the same history
module _ {h next : History} (stamp k : ℕ) where
  arrival_own : (class bytes : ℕ) (answer : Arrival) → Arrives h stamp class bytes answer next → Judges h k (entry_numbers (arrival_entry stamp class bytes answer)) accepted next
  unfolding record_of
  arrival_own class bytes (Ok number) p =
      let held : ArrivalReplayed h stamp class bytes no_flaw next = record { answer = Ok number; arrives = p; finds = refl } in
      right {after = next} {kind = arrival_kind} {stamp = stamp} {class = class} {bytes = bytes} held ended
  arrival_own class bytes (Err why) p = subst (λ (x : History). Judges h k [] accepted x) (sym p.after) ended

  departure_own : (answer : Departure) → Departs h stamp answer next → Judges h k (entry_numbers (departure_entry stamp answer)) accepted next
  unfolding record_of
  departure_own (Ok (Some packet)) p =
      let same = sym (ap (λ (b : Bool). same_or b (Ok (Some packet))) (same_packet packet)) in
      let held : DepartureReplayed h stamp (departure_finding packet.class packet.length) no_flaw next = record { answer = Ok (Some packet); departs = p; finds = same } in
      right {after = next} {kind = departure_kind} {stamp = stamp} {class = packet.class} {bytes = packet.length} held ended
  departure_own (Ok None) p =
      let held : DepartureReplayed h stamp empty_finding no_flaw next = record { answer = (Ok None); departs = p; finds = refl } in
      right {after = next} {kind = empty_kind} {stamp = stamp} {class = 0} {bytes = 0} held ended
  departure_own (Err why) p = subst (λ (x : History). Judges h k [] accepted x) (sym p.after) ended

-- whole records
whole_arrival : (stamp class bytes : ℕ) (answer : Arrival) → WholeRecords (entry_numbers (arrival_entry stamp class bytes answer))
whole_arrival stamp class bytes (Ok number) = (1, refl)
whole_arrival stamp class bytes (Err why) = (0, refl)

whole_departure : (stamp : ℕ) (answer : Departure) → WholeRecords (entry_numbers (departure_entry stamp answer))
whole_departure stamp (Ok (Some packet)) = (1, refl)
whole_departure stamp (Ok None) = (1, refl)
whole_departure stamp (Err why) = (0, refl)

-- how far a log of our own calls has come
record Own (tree : Tree) (first : ℕ) (log : List ℕ) (h : History) : Type 0 where
  start : History
  starts : Starts tree first all_right start
  records : ℕ
  size : length log ≡ 4 * records
  judges : Judges start 0 log accepted h

own_next : {tree : Tree} {first : ℕ} {log entry : List ℕ} {h next : History} → WholeRecords entry → ((k : ℕ) → Judges h k entry accepted next)
    → Own tree first log h → Own tree first (log ++ entry) next
own_next {log = log} {entry = entry} {h = h} {next = next} whole judges own =
    record {
      start = own.start;
      starts = own.starts;
      records = own.records + whole.0;
      size = length-append log entry ∙ omega (arith, own.size, whole.1);
      judges = parts_judged own.start 0 own.records log entry accepted next own.size (record { between = h; first = own.judges; second = judges (0 + own.records) });
    }

own : {tree : Tree} {first : ℕ} {log m l : List ℕ} {h : History} → Logs tree first log m l h → Own tree first log h
own (started first) = record { start = first.next; starts = first.starts; records = 0; size = refl; judges = ended }
own (arrived {stamp = s} {class = j} {bytes = n} {answer = a} logs next) = own_next (whole_arrival s j n a) (λ k. arrival_own s k j n a next.arrives) (own logs)
own (departed {stamp = s} {answer = a} logs next) = own_next (whole_departure s a) (λ k. departure_own s k a next.departs) (own logs)

pub own_log_accepted : OwnLogAccepted
own_log_accepted tree first log m l h logs = replayed (own logs).starts (own logs).judges
