-- Each exported function's promise allows one result: the number that it answers and all memory that it was lent.
-- Assumes nothing.
use Rattle.std.specs.Prelude.{Some, None, Ok, Err}
use Rattle.rules.specs.Kinds.{Arrival, Departure}
use Prim.Native.Nat.{ℕ}
use mathlib.Core.Path.{◌≡◌, sym, ap, ap₂, subst, ◌∙◌}
use mathlib.Core.List.{List}
use lib.ListN.{length}
use Rattle.tree.specs.declared.Tree.{Tree}
use Rattle.tree.specs.Verdicts.{Verdict}
use Rattle.file.specs.Writing.{Written}
use Rattle.file.proofs.ReadOne.{reads_one}
use Rattle.file.proofs.WriteOne.{write_one}
use Rattle.file.specs.Fronts.{most_file_bytes}
use Rattle.bursts.specs.declared.Taken.{Taken}
use Rattle.bursts.proofs.One.{holds_some, begun_one, offered_one, ended_one}
use Rattle.rules.specs.Calls.{History}
use Rattle.rules.specs.Answers.{started}
use Rattle.state.specs.State.{Shows, Reached}
use Rattle.state.proofs.ShowsOne.{shows_one}
use Rattle.state.specs.Heads.{EveryHistory}
use Rattle.sched.specs.Promises.{ArriveRight, DepartRight}
use Rattle.sched.proofs.One.{start_one, arrive_one, depart_one, arrive_refused, depart_refused}
use Rattle.sched.proofs.Asking.{head_times_one}
use Rattle.host.specs.Numbers.{verdict_number, verdict_class, written_verdict, written_total, arrival_number, packet_number, times_numbers, departure_number, departure_numbers}
use Rattle.host.specs.Words.{tree_said}
use Rattle.host.specs.Promises.{StartTold, StartFileTold, WriteTold, ArriveTold, DepartTold, HeadTold, ArriveToldRefused, DepartToldRefused}
use Rattle.host.specs.Bursts.{seen_said, seen_numbers, told_number, told_class, BeginTold, OfferTold, EndTold, StartBurstsTold}

-- two values, each the number of one of two answers that are equal
pub alike : {A B : Type 0} {x y : B} {a b : A} (f : A → B) → a ≡ b → x ≡ f a → y ≡ f b → x ≡ y
alike f same p q = p ∙ (ap f same ∙ sym q)

pub start_words_one : (words : List ℕ) (stamp said said' fault fault' : ℕ) (m m' l l' : List ℕ)
    → StartTold (tree_said words) stamp said fault m l → StartTold (tree_said words) stamp said' fault' m' l'
    → (said ≡ said') × (fault ≡ fault') × (m ≡ m') × (l ≡ l')
start_words_one words stamp said said' fault fault' m m' l l' p q =
    let one = start_one (tree_said words) stamp p.answer q.answer m m' l l' p.right q.right in
    (alike verdict_number one.0 p.number q.number, alike verdict_class one.0 p.class q.class, one.1, one.2)

pub start_file_one : (file : List ℕ) (stamp said said' fault fault' : ℕ) (m m' l l' : List ℕ)
    → StartFileTold file stamp said fault m l → StartFileTold file stamp said' fault' m' l'
    → (said ≡ said') × (fault ≡ fault') × (m ≡ m') × (l ≡ l')
start_file_one file stamp said said' fault fault' m m' l l' p q =
    let one = reads_one file p.answer q.answer p.tree q.tree p.reads q.reads in
    let begun : started p.tree stamp p.answer ≡ started q.tree stamp q.answer = ap₂ (λ (t : Tree) (v : Verdict). started t stamp v) one.1 one.0 in
    let both = shows_one (subst (λ (h : History). Shows m l h) begun p.shows) q.shows in
    (alike verdict_number one.0 p.number q.number, alike verdict_class one.0 p.class q.class, both.0, both.1)

pub write_told_one : (words old : List ℕ) (said said' total total' fault fault' : ℕ) (new new' : List ℕ)
    → WriteTold (tree_said words) old said total fault new → WriteTold (tree_said words) old said' total' fault' new'
    → (said ≡ said') × (total ≡ total') × (fault ≡ fault') × (new ≡ new')
write_told_one words old said said' total total' fault fault' new new' p q =
    let one = write_one (tree_said words) old p.answer q.answer new new' p.writes q.writes in (
      alike (λ (a : Written). verdict_number (written_verdict a)) one.0 p.number q.number,
      alike written_total one.0 p.bytes q.bytes,
      alike (λ (a : Written). verdict_class (written_verdict a)) one.0 p.class q.class,
      one.1,
    )

-- the numbers of what was seen, of what is told
abbrev pub seen_told : Taken → List ℕ
seen_told told = seen_numbers told.seen

pub begin_told_one : (kept kept' numbers numbers' : List ℕ) → BeginTold kept numbers → BeginTold kept' numbers' → (kept ≡ kept') × (numbers ≡ numbers')
begin_told_one kept kept' numbers numbers' p q =
    let one = begun_one p.seen q.seen kept kept' p.begun q.begun in
    (one.1, alike seen_numbers one.0 p.noted q.noted)

-- of a file that comes in bursts, with as many bytes lent as are kept
module _ (kept numbers : List ℕ) (room : length kept ≡ most_file_bytes) where
  pub offer_told_one : (burst : List ℕ) (said said' : ℕ) (new new' noted noted' : List ℕ)
      → OfferTold kept numbers burst said new noted → OfferTold kept numbers burst said' new' noted'
      → (said ≡ said') × (new ≡ new') × (noted ≡ noted')
  offer_told_one burst said said' new new' noted noted' p q =
      let one = offered_one kept (seen_said numbers) room burst p.told q.told new new' p.offered q.offered in
      (alike told_number one.0 p.number q.number, one.1, alike seen_told one.0 p.notes q.notes)

  pub end_told_one : (said said' fault fault' : ℕ) (noted noted' : List ℕ)
      → EndTold kept numbers said fault noted → EndTold kept numbers said' fault' noted'
      → (said ≡ said') × (fault ≡ fault') × (noted ≡ noted')
  end_told_one said said' fault fault' noted noted' p q =
      let one = ended_one kept (seen_said numbers) room p.told q.told p.end.ends q.end.ends in
      (alike told_number one p.number q.number, alike told_class one p.class q.class, alike seen_told one p.end.notes q.end.notes)

  pub start_bursts_one : (stamp said said' fault fault' : ℕ) (noted noted' m m' l l' : List ℕ)
      → StartBurstsTold kept numbers stamp said fault noted m l → StartBurstsTold kept numbers stamp said' fault' noted' m' l'
      → (said ≡ said') × (fault ≡ fault') × (noted ≡ noted') × (m ≡ m') × (l ≡ l')
  start_bursts_one stamp said said' fault fault' noted noted' m m' l l' p q =
      let some = holds_some kept (seen_said numbers).count room in
      let one = start_file_one some.file stamp said said' fault fault' m m' l l' (p.starts some.file some.holds) (q.starts some.file some.holds) in
      let ends = end_told_one said said' fault fault' noted noted' p.end q.end in
      (one.0, one.1, ends.2, one.2, one.3)

module _ (m₀ l₀ : List ℕ) (reached : Reached m₀ l₀) where
  pub arrive_told_one : (stamp class bytes said said' packet packet' : ℕ) (m m' l l' : List ℕ)
      → ArriveTold m₀ l₀ stamp class bytes said packet m l → ArriveTold m₀ l₀ stamp class bytes said' packet' m' l'
      → (said ≡ said') × (packet ≡ packet') × (m ≡ m') × (l ≡ l')
  arrive_told_one stamp class bytes said said' packet packet' m m' l l' p q =
      let one = arrive_one m₀ l₀ reached stamp class bytes p.answer q.answer m m' l l' p.right q.right in
      (alike arrival_number one.0 p.number q.number, alike packet_number one.0 p.written q.written, one.1, one.2)

  pub depart_told_one : (stamp said said' : ℕ) (out out' m m' l l' : List ℕ)
      → DepartTold m₀ l₀ stamp said out m l → DepartTold m₀ l₀ stamp said' out' m' l'
      → (said ≡ said') × (out ≡ out') × (m ≡ m') × (l ≡ l')
  depart_told_one stamp said said' out out' m m' l l' p q =
      let one = depart_one m₀ l₀ reached stamp p.answer q.answer m m' l l' p.right q.right in
      (alike departure_number one.0 p.number q.number, alike departure_numbers one.0 p.written q.written, one.1, one.2)

  pub head_told_one : (class : ℕ) (out out' : List ℕ) → HeadTold m₀ l₀ class out → HeadTold m₀ l₀ class out' → out ≡ out'
  head_told_one class out out' p q = alike times_numbers (head_times_one reached class p.times q.times p.right q.right) p.written q.written

-- a refused call leaves the state as it was
module _ (m₀ l₀ : List ℕ) (reached : Reached m₀ l₀) {m l : List ℕ} {said : ℕ} (some : said ≡ 0 → ⊥) where
  arrival_refused : (stamp class bytes : ℕ) (a : Arrival) → said ≡ arrival_number a → EveryHistory m₀ l₀ (λ h. ArriveRight h stamp class bytes a m l) → (m ≡ m₀) × (l ≡ l₀)
  arrival_refused stamp class bytes (Ok number) e f = absurd (some e)
  arrival_refused stamp class bytes (Err why) e f = arrive_refused m₀ l₀ reached stamp class bytes why m l f

  departure_refused : (stamp : ℕ) (a : Departure) → said ≡ departure_number a → EveryHistory m₀ l₀ (λ h. DepartRight h stamp a m l) → (m ≡ m₀) × (l ≡ l₀)
  departure_refused stamp (Ok (Some packet)) e f = absurd (some e)
  departure_refused stamp (Ok None) e f = absurd (some e)
  departure_refused stamp (Err why) e f = depart_refused m₀ l₀ reached stamp why m l f

pub arrive_told_refused : ArriveToldRefused
arrive_told_refused m₀ l₀ reached stamp class bytes said packet m l told some = arrival_refused m₀ l₀ reached some stamp class bytes told.answer told.number told.right

pub depart_told_refused : DepartToldRefused
depart_told_refused m₀ l₀ reached stamp said out m l told some = departure_refused m₀ l₀ reached some stamp told.answer told.number told.right
