-- A text judged from the front: how far it has come, and each way in which it goes on or ends.
-- Assumes nothing.
use Rattle.std.proofs.Common.{◌≡◌, ℕ, ◌+◌, ◌<◌, true, false, List, None, Some, Ok, Err, length, get_or, drop, sym, subst, arith, length-drop}
use Rattle.rules.specs.Calls.{History}
use Rattle.rules.specs.Lawful.{Lawful}
use Rattle.state.specs.State.{Shows}
use Rattle.state.specs.Heads.{EveryHistory}
use Rattle.judge.proofs.Judging.{one_more_lem, none_left}
use Rattle.judge.proofs.Replaying.{replayed_lawful}
use Rattle.records.specs.Records.{record_of}
use Rattle.logtext.specs.Scans.{Seen, seen_at}
use Rattle.judgetext.specs.declared.Held.{Held}
use Rattle.judgetext.specs.declared.Held.TheVariants.{Nothing, Kind, Stamp, Class}
use Rattle.judgetext.specs.declared.Progress.{Progress}
use Rattle.judgetext.specs.Texts.{is_right, moved, TakesTo, ReadsSeen, TextFollows, ended, stopped, read}
use Rattle.judgetext.specs.Promises.{ByteRight, TextRight}

-- a lawful history stays lawful
module _ (h next : History) (law : Lawful h) where
  takes_lawful : (held : Held) (at : Progress) (n : ℕ) (after : Progress) → TakesTo h held at n after next → Lawful next
  takes_lawful Nothing at n after p = rw p.1 law
  takes_lawful (Kind kind) at n after p = rw p.1 law
  takes_lawful (Stamp kind stamp) at n after p = rw p.1 law
  takes_lawful (Class kind stamp class) at n after p = replayed_lawful h law (record_of kind stamp class n) p.found next p.replayed

  pub byte_lawful : (s : Seen) (at : Progress) (b : ℕ) (after : Progress) → ReadsSeen h s at b after next → Lawful next
  byte_lawful (Ok None) at b after p = rw p.1 law
  byte_lawful (Ok (Some n)) at b after p = takes_lawful at.held (moved at b) n after p
  byte_lawful (Err why) at b after p = rw p.1 law

-- the bytes before that place have led from h to the history that the arrays show: what is left decides
pub record Onward (h : History) (at : Progress) (text : List ℕ) (i : ℕ) (here : Progress) (m l : List ℕ) : Type 0 where
  pub now : History
  pub lawful : Lawful now
  pub shows : Shows m l now
  pub decides : (after : Progress) (next : History) → TextFollows now here (drop i text) after next → TextFollows h at text after next

pub onward_first : {h : History} {at : Progress} {text m l : List ℕ} → Lawful h → Shows m l h → Onward h at text 0 at m l
onward_first {h = h} law shows = record { now = h; lawful = law; shows = shows; decides = λ after next f. f }

module _ {h : History} {at : Progress} {text : List ℕ} {i : ℕ} {here : Progress} {m l : List ℕ} (o : Onward h at text i here m l) where
  pub onward_next : i < length text → is_right here.standing ≡ true → {mid : Progress} {m' l' : List ℕ}
      → EveryHistory m l (λ x. ByteRight x here (get_or text i 0) mid m' l') → Onward h at text (i + 1) mid m' l'
  onward_next fits going {mid} {m'} {l'} reads =
      let right = reads o.now o.lawful o.shows in
      let b = get_or text i 0 in
      record {
        now = right.next;
        lawful = byte_lawful o.now right.next o.lawful (seen_at here.scan b) here b mid right.reads;
        shows = right.shows;
        decides = λ after next f. o.decides after next (rw (one_more_lem text i fits) (read {between = right.next} {mid = mid} going right.reads f));
      }

  pub onward_stopped : i < length text → is_right here.standing ≡ false → TextRight h at text here m l
  onward_stopped fits over = record { next = o.now; follows = o.decides here o.now (rw (one_more_lem text i fits) (stopped over)); shows = o.shows }

  pub onward_ended : i ≡ length text → TextRight h at text here m l
  onward_ended e =
      let none = sym (none_left (drop i text) (omega (arith, length-drop i text))) in
      record { next = o.now; follows = o.decides here o.now (subst (λ (x : List ℕ). TextFollows o.now here x here o.now) none ended); shows = o.shows }
