-- A text judged from its first byte on: what it comes to.
-- Assumes nothing.
use Rattle.std.proofs.Common.{◌≡◌, ℕ, ◌+◌, ◌*◌, ◌^◌, ◌<◌, ◌≤◌, true, false, List, None, Some, Ok, Err, [], ◌∷◌, ◌++◌, length, sym, refl, ap, ◌∙◌, subst, append_assoc, append-nil, zero-add, arith, length-append}
use Rattle.rules.specs.Calls.{History}
use Rattle.rules.proofs.Tests.{never}
use Rattle.records.specs.Records.{record_of}
use Rattle.judge.specs.Kinds.{Finding, no_flaw, Judgement, accepted}
use Rattle.judge.specs.Judging.{RecordReplayed, holds, judgement_at, Judges, ended, right, wrong, short}
use Rattle.judge.proofs.Parts.{parts_judged, first_part_judged, wrong_named}
use Rattle.logtext.specs.declared.Scan.{Scan}
use Rattle.logtext.specs.Scans.{Seen, not_a_number, before_text, seen_at, stepped}
use Rattle.logtext.specs.Texts.{with_seen, is_no_error, numbers_of, scan_over, is_well}
use Rattle.logtext.proofs.Turns.{in_turns}
use Rattle.judgetext.specs.declared.Held.{Held}
use Rattle.judgetext.specs.declared.Held.TheVariants.{Nothing, Kind, Stamp, Class}
use Rattle.judgetext.specs.declared.Standing.{Standing}
use Rattle.judgetext.specs.declared.Standing.TheVariants.{Right}
use Rattle.judgetext.specs.declared.Progress.{Progress}
use Rattle.judgetext.specs.Texts as texts
use Rattle.judgetext.specs.Texts.{before_log, is_right, held_numbers, moved, holding, one_more, completed, wrong_at, stuck, TakesTo, ReadsSeen, TextFollows, whole_or, judgement_of}
use Rattle.judgetext.specs.Theorems.{UpTo, Means, TextJudged}
use Rattle.judgetext.proofs.Turns.{over_stays}

-- the bytes so far are well and their records right
record Sofar (h : History) (front : List ℕ) (at : Progress) (now : History) : Type 0 where
  stands : at.standing ≡ Right
  scans : at.scan ≡ scan_over before_text front
  well : is_well before_text front ≡ true
  whole : List ℕ
  numbers : numbers_of before_text front ≡ whole ++ held_numbers at.held
  size : length whole ≡ 4 * at.records
  judges : Judges h 0 whole accepted now
  few : at.records ≤ length front

-- the record after so many is numbered so
from_zero : {x y : History} {k : ℕ} {log : List ℕ} {v : Judgement} → Judges x k log v y → Judges x (0 + k) log v y
from_zero {x} {y} {k} {log} {v} judges = subst (λ (i : ℕ). Judges x i log v y) (sym (zero-add k)) judges

-- one byte more: the scan, whether all is well, and the numbers
module _ (front : List ℕ) (b : ℕ) where
  abbrev more : List ℕ
  more = front ++ (b ∷ [])

  scans_more : scan_over before_text more ≡ stepped (scan_over before_text front) b
  unfolding scan_over
  scans_more = (in_turns before_text front (b ∷ [])).over

  module _ (well : is_well before_text front ≡ true) (s : Seen) (e : seen_at (scan_over before_text front) b ≡ s) where
    well_more : is_no_error s ≡ true → is_well before_text more ≡ true
    unfolding is_well
    well_more fine = (in_turns before_text front (b ∷ [])).well ∙ rw (well, e, fine) refl

    numbers_more : numbers_of before_text more ≡ numbers_of before_text front ++ with_seen s []
    unfolding numbers_of
    numbers_more = (in_turns before_text front (b ∷ [])).numbers well ∙ ap (λ (x : Seen). numbers_of before_text front ++ with_seen x []) e

-- a byte more of a text that is right so far
module _ {h now : History} {front : List ℕ} {at : Progress} (o : Sofar h front at now) (b : ℕ) where
  abbrev on : List ℕ
  on = more front b

  longer_by_one : length on ≡ length front + 1
  longer_by_one = length-append front (b ∷ [])

  scans_on : stepped at.scan b ≡ scan_over before_text on
  scans_on = ap (λ (x : Scan). stepped x b) o.scans ∙ sym (scans_more front b)

  module _ (s : Seen) (e : seen_at at.scan b ≡ s) where
    seen_here : seen_at (scan_over before_text front) b ≡ s
    seen_here = subst (λ (x : Scan). seen_at x b ≡ s) o.scans e

    well_on : is_no_error s ≡ true → is_well before_text on ≡ true
    well_on fine = well_more front b o.well s seen_here fine

    -- all numbers so far: those of the whole records, those that are held, and what the byte shows
    numbers_on : numbers_of before_text on ≡ o.whole ++ (held_numbers at.held ++ with_seen s [])
    numbers_on =
        numbers_more front b o.well s seen_here
        ∙ ap (λ (x : List ℕ). x ++ with_seen s []) o.numbers
        ∙ append_assoc o.whole (held_numbers at.held) (with_seen s [])

  -- it shows nothing
  on_nothing : seen_at at.scan b ≡ (Ok None) → Sofar h on (moved at b) now
  on_nothing e =
      record {
        stands = o.stands;
        scans = scans_on;
        well = well_on (Ok None) e refl;
        whole = o.whole;
        numbers = numbers_on (Ok None) e ∙ ap (λ (x : List ℕ). o.whole ++ x) (append-nil (held_numbers at.held));
        size = o.size;
        judges = o.judges;
        few = omega (arith, o.few, longer_by_one);
      }

  module _ (n : ℕ) (e : seen_at at.scan b ≡ Ok (Some n)) where
    -- it ends a number, which is held
    on_held : (held : Held) → held_numbers held ≡ held_numbers at.held ++ (n ∷ []) → Sofar h on (holding (moved at b) held) now
    on_held held same =
        record {
          stands = o.stands;
          scans = scans_on;
          well = well_on (Ok (Some n)) e refl;
          whole = o.whole;
          numbers = numbers_on (Ok (Some n)) e ∙ ap (λ (x : List ℕ). o.whole ++ x) (sym same);
          size = o.size;
          judges = o.judges;
          few = omega (arith, o.few, longer_by_one);
        }

    -- it ends the last number of a record
    module _ (kind stamp class : ℕ) (held : at.held ≡ Class kind stamp class) where
      abbrev last : List ℕ
      last = kind ∷ stamp ∷ class ∷ n ∷ []

      numbers_whole : numbers_of before_text on ≡ o.whole ++ last
      numbers_whole = numbers_on (Ok (Some n)) e ∙ ap (λ (x : Held). o.whole ++ (held_numbers x ++ (n ∷ []))) held

      on_right : (next : History) → length on < 2 ^ 64 → RecordReplayed now (record_of kind stamp class n) no_flaw next → Sofar h on (completed (moved at b) no_flaw) next
      on_right next small replayed =
          let one : one_more at.records ≡ at.records + 1 = omega (arith, o.few, longer_by_one) in
          let judged : Judges now (0 + at.records) last accepted next = right {after = next} {kind = kind} {stamp = stamp} {class = class} {bytes = n} replayed ended in
          record {
            stands = refl;
            scans = scans_on;
            well = well_on (Ok (Some n)) e refl;
            whole = o.whole ++ last;
            numbers = numbers_whole ∙ sym (append-nil (o.whole ++ last));
            size = length-append o.whole last ∙ omega (arith, o.size, one);
            judges = parts_judged h 0 at.records o.whole last accepted next o.size (record { between = now; first = o.judges; second = judged });
            few = omega (arith, o.few, longer_by_one, one);
          }

      on_wrong : (next : History) (f : Finding) → RecordReplayed now (record_of kind stamp class n) f next → holds f ≡ false → (rest : List ℕ)
          → Judges h 0 (numbers_of before_text (on ++ rest)) (judgement_at at.records f) next
      on_wrong next f replayed bad rest =
          let judged : Judges now at.records last (judgement_at at.records f) next = wrong {kind = kind} {stamp = stamp} {class = class} {bytes = n} f replayed bad in
          let here = parts_judged h 0 at.records o.whole last (judgement_at at.records f) next o.size (record { between = now; first = o.judges; second = from_zero judged }) in
          let size : length (o.whole ++ last) ≡ 4 * (at.records + 1) = length-append o.whole last ∙ omega (arith, o.size) in
          let all = numbers_of (scan_over before_text on) rest in
          let longer = first_part_judged h 0 (at.records + 1) (o.whole ++ last) all (judgement_at at.records f) next size (λ a. wrong_named at.records f bad a) here in
          subst (λ (x : List ℕ). Judges h 0 x (judgement_at at.records f) next)
          (ap (λ (x : List ℕ). x ++ all) (sym numbers_whole) ∙ sym ((in_turns before_text on rest).numbers (well_on (Ok (Some n)) e refl)))
          longer

-- how a text that is right ends
held_short : (held : Held) (k : ℕ) (x : History) → Judges x k (held_numbers held) (whole_or held k) x
held_short Nothing k x = ended
held_short (Kind kind) k x = short {log = kind ∷ []} (omega arith) (omega arith)
held_short (Stamp kind stamp) k x = short {log = kind ∷ stamp ∷ []} (omega arith) (omega arith)
held_short (Class kind stamp class) k x = short {log = kind ∷ stamp ∷ class ∷ []} (omega arith) (omega arith)

held_few : (held : Held) → length (held_numbers held) < 4
held_few Nothing = omega arith
held_few (Kind kind) = omega arith
held_few (Stamp kind stamp) = omega arith
held_few (Class kind stamp class) = omega arith

-- what a text comes to, by a standing that is known
means_as : (h next : History) (text : List ℕ) (at : Progress) (s : Standing) → at.standing ≡ s → Means h text s at next → Means h text at.standing at next
means_as h next text at s e means = subst (λ (x : Standing). Means h text x at next) (sym e) means

module _ {h : History} where
  means_ended : {now : History} (front : List ℕ) (at : Progress) → Sofar h front at now → Means h front at.standing at now
  means_ended {now} front at o =
      let whole = parts_judged h 0 at.records o.whole (held_numbers at.held) (whole_or at.held at.records) now o.size
      (record { between = now; first = o.judges; second = from_zero (held_short at.held at.records now) }) in
      let judged : Judges h 0 (numbers_of before_text front) (judgement_of at) now = rw (o.numbers, o.stands) whole in
      let counted = ap length o.numbers ∙ length-append o.whole (held_numbers at.held) ∙ ap (λ (n : ℕ). n + length (held_numbers at.held)) o.size in
      means_as h now front at Right o.stands (o.well, judged, counted)

  -- a byte more, and then what is left: `rest-means` says what that comes to where all is right with the byte too
  module _ {now : History} (front : List ℕ) (at : Progress) (o : Sofar h front at now) (b : ℕ) (rest : List ℕ) (small : length (front ++ (b ∷ rest)) < 2 ^ 64)
      {mid after : Progress} {between next : History} (follows : TextFollows between mid rest after next)
      (rest-means : Sofar h (more front b) mid between → Means h (more front b ++ rest) after.standing after next) where
    apart : more front b ++ rest ≡ front ++ (b ∷ rest)
    apart = append_assoc front (b ∷ []) rest

    small_more : length (more front b) < 2 ^ 64
    small_more = omega (arith, small, length-append front (b ∷ rest), length-append front (b ∷ []))

    means_rest : Sofar h (more front b) mid between → Means h (front ++ (b ∷ rest)) after.standing after next
    means_rest p = subst (λ (x : List ℕ). Means h x after.standing after next) apart (rest-means p)

    means_wrong : (n kind stamp class : ℕ) → seen_at at.scan b ≡ Ok (Some n) → at.held ≡ Class kind stamp class → (f : Finding)
        → RecordReplayed now (record_of kind stamp class n) f between → holds f ≡ false → mid ≡ wrong_at (moved at b) f → Means h (front ++ (b ∷ rest)) after.standing after next
    means_wrong n kind stamp class e held f replayed bad is =
        let same = over_stays rest (ap (λ (x : Progress). is_right x.standing) is) follows in
        let at_end = same.0 ∙ is in
        rw (same.1, at_end) (subst (λ (x : List ℕ). Judges h 0 (numbers_of before_text x) (judgement_at at.records f) between) apart (on_wrong o b n e kind stamp class held between f replayed bad rest))

    completes : (n kind stamp class : ℕ) → seen_at at.scan b ≡ Ok (Some n) → at.held ≡ Class kind stamp class → (f : Finding)
        → RecordReplayed now (record_of kind stamp class n) f between → mid ≡ completed (moved at b) f → Means h (front ++ (b ∷ rest)) after.standing after next
    completes n kind stamp class e held (Ok _) replayed is = means_rest (rw is (on_right o b n e kind stamp class held between small_more replayed))
    completes n kind stamp class e held (Err flaw) replayed is = means_wrong n kind stamp class e held (Err flaw) replayed refl is

    takes : (n : ℕ) → seen_at at.scan b ≡ Ok (Some n) → (held : Held) → at.held ≡ held → TakesTo now held (moved at b) n mid between
        → Means h (front ++ (b ∷ rest)) after.standing after next
    takes n e Nothing held p = means_rest (rw (p.0, p.1) (on_held o b n e (Kind n) (rw held refl)))
    takes n e (Kind kind) held p = means_rest (rw (p.0, p.1) (on_held o b n e (Stamp kind n) (rw held refl)))
    takes n e (Stamp kind stamp) held p = means_rest (rw (p.0, p.1) (on_held o b n e (Class kind stamp n) (rw held refl)))
    takes n e (Class kind stamp class) held p = completes n kind stamp class e held p.found p.replayed p.stands

    reads : (s : Seen) → seen_at at.scan b ≡ s → ReadsSeen now s at b mid between → Means h (front ++ (b ∷ rest)) after.standing after next
    reads (Ok None) e p = means_rest (rw (p.0, p.1) (on_nothing o b e))
    reads (Ok (Some n)) e p = takes n e at.held refl p
    reads (Err why) e p =
        let same = over_stays rest (ap (λ (x : Progress). is_right x.standing) p.0) follows in
        let stuck-here : after ≡ stuck at at.scan.line = same.0 ∙ p.0 in
        let up : UpTo h (front ++ (b ∷ rest)) at.scan.line now =
        record {
          front = front;
          byte = b;
          rest = rest;
          text_is = refl;
          well = o.well;
          no_number = seen_here o b not_a_number e;
          line_is = ap (λ (x : Scan). x.line) o.scans;
          whole = o.whole;
          begun = held_numbers at.held;
          numbers = o.numbers;
          short = held_few at.held;
          judges = o.judges;
        }
        in
        rw (stuck-here, same.1, p.1) up

  means : {now next : History} {at after : Progress} {rest : List ℕ} (front : List ℕ) → length (front ++ rest) < 2 ^ 64 → Sofar h front at now → TextFollows now at rest after next
      → Means h (front ++ rest) after.standing after next
  means {now} {at = at} front small o texts.ended = rw (append-nil front) (means_ended front at o)
  means front small o (texts.stopped over) = never (ap is_right o.stands) over
  means {at = at} front small o (texts.read {b = b} {text = rest} going byte follows) =
      reads front at o b rest small follows
      (λ p. means (more front b) (subst (λ (x : List ℕ). length x < 2 ^ 64) (sym (append_assoc front (b ∷ []) rest)) small) p follows)
      (seen_at at.scan b) refl byte

pub text_judged : TextJudged
unfolding is_well scan_over numbers_of
text_judged h text at next small follows =
    means []
    small
    (record { stands = refl; scans = refl; well = refl; whole = []; numbers = refl; size = refl; judges = ended; few = omega arith })
    follows
