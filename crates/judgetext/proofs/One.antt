-- A text allows one progress, and one history after it: so the promise allows one answer, and one content of the arrays.
-- Assumes nothing.
use Rattle.std.proofs.Common.{◌≡◌, ℕ, List, None, Some, Ok, Err, sym, refl, ap, ◌∙◌, subst}
use Rattle.rules.specs.Calls.{History}
use Rattle.rules.specs.Lawful.{Lawful}
use Rattle.rules.proofs.Tests.{never}
use Rattle.state.specs.State.{Shows, Reached}
use Rattle.state.specs.Heads.{EveryHistory}
use Rattle.state.proofs.ShowsOne.{shows_one}
use Rattle.records.specs.Records.{record_of}
use Rattle.judge.proofs.Replaying.{replayed_one}
use Rattle.logtext.specs.Scans.{Seen, seen_at}
use Rattle.judgetext.specs.declared.Held.{Held}
use Rattle.judgetext.specs.declared.Held.TheVariants.{Nothing, Kind, Stamp, Class}
use Rattle.judgetext.specs.declared.Progress.{Progress}
use Rattle.judgetext.specs.Texts.{moved, completed, TakesTo, ReadsSeen, TextFollows, ended, stopped, read}
use Rattle.judgetext.specs.Promises.{TextRight}
use Rattle.judgetext.proofs.Onward.{byte_lawful}

module _ (h : History) (law : Lawful h) (after after' : Progress) (x y : History) where
  known_one : {known : Progress} → (after ≡ known) × (x ≡ h) → (after' ≡ known) × (y ≡ h) → (after ≡ after') × (x ≡ y)
  known_one p q = (p.0 ∙ sym q.0, p.1 ∙ sym q.1)

  takes_one : (held : Held) (at : Progress) (n : ℕ) → TakesTo h held at n after x → TakesTo h held at n after' y → (after ≡ after') × (x ≡ y)
  takes_one Nothing at n p q = known_one p q
  takes_one (Kind kind) at n p q = known_one p q
  takes_one (Stamp kind stamp) at n p q = known_one p q
  takes_one (Class kind stamp class) at n p q =
      let one = replayed_one h law p.found q.found x y (record_of kind stamp class n) p.replayed q.replayed in
      (p.stands ∙ ap (completed at) one.0 ∙ sym q.stands, one.1)

  reads_one : (s : Seen) (at : Progress) (b : ℕ) → ReadsSeen h s at b after x → ReadsSeen h s at b after' y → (after ≡ after') × (x ≡ y)
  reads_one (Ok None) at b p q = known_one p q
  reads_one (Ok (Some n)) at b p q = takes_one at.held (moved at b) n p q
  reads_one (Err why) at b p q = known_one p q

follows_one : {h x y : History} {at after after' : Progress} {text : List ℕ} → Lawful h → TextFollows h at text after x → TextFollows h at text after' y → (after ≡ after') × (x ≡ y)
follows_one law ended ended = (refl, refl)
follows_one law (stopped over) (stopped over') = (refl, refl)
follows_one law (stopped over) (read going reads follows) = never going over
follows_one law (read going reads follows) (stopped over) = never going over
follows_one {h = h} {y = y} {at = at} {after' = after'} law (read {between = s} {mid = m} {b = b} {text = text} going reads follows) (read {between = t} {mid = n} going' reads' follows') =
    let one = reads_one h law m n s t (seen_at at.scan b) at b reads reads' in
    let same = subst (λ (z : History). TextFollows z n text after' y) (sym one.1) follows' in
    follows_one {y = y} {after' = after'} (byte_lawful h s law (seen_at at.scan b) at b m reads) follows (subst (λ (z : Progress). TextFollows s z text after' y) (sym one.0) same)

pub text_one : (m₀ l₀ : List ℕ) → Reached m₀ l₀ → (at : Progress) (text : List ℕ) (after after' : Progress) (m m' l l' : List ℕ)
    → EveryHistory m₀ l₀ (λ h. TextRight h at text after m l) → EveryHistory m₀ l₀ (λ h. TextRight h at text after' m' l') → (after ≡ after') × (m ≡ m') × (l ≡ l')
text_one m₀ l₀ reached at text after after' m m' l l' p q =
    let a = p reached.history reached.lawful reached.shows in
    let b = q reached.history reached.lawful reached.shows in
    let one = follows_one reached.lawful a.follows b.follows in
    let both = shows_one (subst (λ (z : History). Shows m l z) one.1 a.shows) b.shows in
    (one.0, both.0, both.1)
