-- What a pass does that only sees and learns.
use Rattle.std.proofs.Common.{ℕ, ◌≡◌, ◌<◌, inl, inr, Bool, true, false, cond, List, [], ◌∷◌, ◌++◌, map, refl, sym, ap, subst, ◌∙◌, append-nil, All, Contains}
use Rattle.std.specs.Prelude.{flat_map}
use Rattle.std.proofs.lemmas.Bool.{false≢true}
use Rattle.std.proofs.lemmas.List.{append_assoc, append_cancel_left}
use Rattle.std.proofs.lemmas.List.Elements.{All-nil, All-cons, All-head, All-append, All-contains, Contains-append_cases}
use Rattle.and_model.specs.Store.{JournalEntry, HungGoal, Setting, Known, Pass, Made, hangs, entries_by, is_free}
use Rattle.and_model.specs.declared.goal.Goal.{Goal}
use Rattle.and_model.specs.declared.reference.Ref.{Ref}
use Rattle.and_cells.specs.Ranges.{NamedProgram, CanHold}
use Rattle.and_overlay.specs.Overlaid.{IsKnownFit}
use Rattle.and_cells.specs.Seen.{OnlyReads}
use Rattle.and_model.specs.Store as store
use Rattle.and_store.specs.Calls.{Sees, LooksAt, FindsFailed, HangsGoal, MissesPlace, FindsSet, HandsOut, GetsNone}
use Rattle.and_store.specs.Passes.{PassSeen}
use Rattle.and_store.specs.Sight.{About}
use Rattle.and_store.specs.Worked.{CellStep, CellSteps, IsUsed, seen_by}
use Rattle.and_store_laws.proofs.Journal.{made_by, entries_of}
use Rattle.and_store_laws.proofs.Lists.{contains_first, contains_cases, contains_none, contains_map, map_contains, all_back}
use Rattle.and_store_laws.specs.Steps.{entry, setting, knows_place}
use Rattle.and_workers.proofs.Quiet.{HangOnly, Learns, OnlyLearnt, all_set_more}
use Rattle.and_handed.specs.Handed.{settings_from}

-- ---- Entries

abbrev just : JournalEntry → List JournalEntry
just e = e ∷ []

pub none_own : (p : Pass) (since : List JournalEntry) → entries_by p since ≡ [] → (e : JournalEntry) → Contains since e → e.pass ≡ p.number → ⊥
none_own p since nothing e among same =
    let there : Contains (flat_map just (entries_of e.pass since)) e = made_by just since e e among (contains_first e []) in
    contains_none e (subst (λ l. Contains (flat_map just l) e) (subst (λ n. entries_of n since ≡ []) (sym same) nothing) there)

pub others_hang : (p : Pass) (since : List JournalEntry) → entries_by p since ≡ [] → HangOnly p.number since
others_hang p since nothing e among same = absurd (none_own p since nothing e among same)

-- all of what was made are goals that were hung
abbrev AllHang : List Made → Type 0
AllHang made = (m : Made) → Contains made m → (g : HungGoal) × (m ≡ hangs g)

hang_both : (number : ℕ) (xs ys : List JournalEntry) → HangOnly number xs → HangOnly number ys → HangOnly number (xs ++ ys)
hang_both number xs ys h k e among same = elim (Contains-append_cases xs ys e among) [
  | inl i ↦ h e i same
  | inr i ↦ k e i same
]

made_hang : (number : ℕ) (made : List Made) → AllHang made → HangOnly number (map (entry number) made)
made_hang number made hang e among same =
    let m = map_contains (entry number) e made among in
    let g = hang m.0 m.1 in (g.0, ap (λ (e : JournalEntry). e.made) (sym m.2) ∙ g.1)

-- ---- Steps that learn nothing

learns_nothing : (first : List Ref) (made : List Made) (p q : Pass) → Sees made p q → AllHang made → q.number ≡ p.number → q.frames ≡ p.frames
    → q.fails ≡ p.fails
    → q.known ≡ p.known → Learns first p q
learns_nothing first made p q sees hang number frames fails known = record {
  number = number;
  since = sees.since ++ map (entry p.number) made;
  seen = sees.seen ∙ append_assoc p.seen sees.since (map (entry p.number) made);
  hang_only = hang_both p.number sees.since (map (entry p.number) made) (others_hang p sees.since sees.of_others) (made_hang p.number made hang);
  frames = frames;
  fails = fails;
  learnt = [];
  known = known ∙ sym (append-nil p.known);
  none_own = All-nil (λ (k : Known). k.is_own ≡ false);
  there = All-nil (λ (k : Known). Contains (settings_from first q.seen) k.setting);
}

nothing_made : AllHang []
nothing_made m among = absurd (contains_none m among)

pub failed_learns : (first : List Ref) (is_up : Bool) (p q : Pass) → FindsFailed is_up p q → Learns first p q
failed_learns first is_up p q f =
    learns_nothing first [] p q f.sees nothing_made (ap (λ (x : Pass). x.number) f.becomes) (ap (λ (x : Pass). x.frames) f.becomes)
    (ap (λ (x : Pass). x.fails) f.becomes) (ap (λ (x : Pass). x.known) f.becomes)

pub missed_learns : (first : List Ref) (cell : ℕ) (place : store.Waiting) (p q : Pass) → MissesPlace cell place p q → Learns first p q
missed_learns first cell place p q f =
    learns_nothing first [] p q f.sees nothing_made (ap (λ (x : Pass). x.number) f.becomes) (ap (λ (x : Pass). x.frames) f.becomes)
    (ap (λ (x : Pass). x.fails) f.becomes) (ap (λ (x : Pass). x.known) f.becomes)

pub hands_learns : (first : List Ref) (P : NamedProgram) (words : ℕ) (goal : Goal) (p q : PassSeen) → HandsOut P words goal p q → Learns first p.pass q.pass
hands_learns first P words goal p q f =
    learns_nothing first [] p.pass q.pass f.sees nothing_made (ap (λ (x : Pass). x.number) f.becomes) (ap (λ (x : Pass). x.frames) f.becomes)
    (ap (λ (x : Pass). x.fails) f.becomes) (ap (λ (x : Pass). x.known) f.becomes)

pub hung_learns : (first : List Ref) (waiters cell : ℕ) (goal : Goal) (p q : Pass) → HangsGoal waiters cell goal p q → Learns first p q
hung_learns first waiters cell goal p q f =
    let g : HungGoal = record { waiter = f.waiter; cell = cell; goal = goal } in
    learns_nothing first (hangs g ∷ []) p q f.sees
    (λ m among. elim (contains_cases (hangs g) m [] among) [ inl is ↦ (g, is) | inr more ↦ absurd (contains_none m more) ])
    (ap (λ (x : Pass). x.number) f.becomes) (ap (λ (x : Pass). x.frames) f.becomes) (ap (λ (x : Pass). x.fails) f.becomes)
    (ap (λ (x : Pass). x.known) f.becomes)

pub same_learns : (first : List Ref) (p q : Pass) → q ≡ p → Learns first p q
same_learns first p q same = record {
  number = ap (λ (x : Pass). x.number) same;
  since = [];
  seen = ap (λ (x : Pass). x.seen) same ∙ sym (append-nil p.seen);
  hang_only = λ e among. absurd (contains_none e among);
  frames = ap (λ (x : Pass). x.frames) same;
  fails = ap (λ (x : Pass). x.fails) same;
  learnt = [];
  known = ap (λ (x : Pass). x.known) same ∙ sym (append-nil p.known);
  none_own = All-nil (λ (k : Known). k.is_own ≡ false);
  there = All-nil (λ (k : Known). Contains (settings_from first q.seen) k.setting);
}

pub refused_learns : (first : List Ref) (words weight : ℕ) (p q : Pass) → GetsNone words weight p q → Learns first p q
refused_learns first words weight p q (inl same) = same_learns first p q same.1
refused_learns first words weight p q (inr r) =
    let f = r.1 in
    learns_nothing first [] p q f.sees nothing_made (ap (λ (x : Pass). x.number) f.becomes) (ap (λ (x : Pass). x.frames) f.becomes)
    (ap (λ (x : Pass). x.fails) f.becomes) (ap (λ (x : Pass). x.known) f.becomes)

-- ---- A look

-- what a look adds to what is known
record Adds (first : List Ref) (journal : List JournalEntry) (k : Known) (known after : List Known) : Type 0 where
  learnt : List Known
  gains : after ≡ known ++ learnt
  none_own : All (λ (k : Known). k.is_own ≡ false) learnt
  there : All (λ (k : Known). Contains (settings_from first journal) k.setting) learnt
  only : All (λ (l : Known). l ≡ k) learnt

adds_nothing : (first : List Ref) (journal : List JournalEntry) (k : Known) (known : List Known) → Adds first journal k known known
adds_nothing first journal k known = record {
  learnt = [];
  gains = sym (append-nil known);
  none_own = All-nil (λ (k : Known). k.is_own ≡ false);
  there = All-nil (λ (k : Known). Contains (settings_from first journal) k.setting);
  only = All-nil (λ (l : Known). l ≡ k);
}

learnt_adds : (first : List Ref) (journal : List JournalEntry) (known : List Known) (k : Known) (free knows : Bool) → k.is_own ≡ false
    → (free ≡ false → Contains (settings_from first journal) k.setting) → Adds first journal k known (cond free known (cond knows known (known ++ k ∷ [])))
learnt_adds first journal known k true knows own there = adds_nothing first journal k known
learnt_adds first journal known k false true own there = adds_nothing first journal k known
learnt_adds first journal known k false false own there = record {
  learnt = k ∷ [];
  gains = refl;
  none_own = All-cons (λ (k : Known). k.is_own ≡ false) k [] own (All-nil (λ (k : Known). k.is_own ≡ false));
  there = All-cons (λ (k : Known). Contains (settings_from first journal) k.setting) k [] (there refl)
      (All-nil (λ (k : Known). Contains (settings_from first journal) k.setting));
  only = All-cons (λ (l : Known). l ≡ k) k [] refl (All-nil (λ (l : Known). l ≡ k));
}

-- what a look at a cell adds
look_adds : (P : NamedProgram) (a : About) (cell : ℕ) (r : Ref) (p q : Pass) → LooksAt P a cell r p q
    → Adds a.first q.seen (record { setting = setting cell r; is_own = false }) p.known q.known
look_adds P a cell r p q f =
    let k : Known = record { setting = setting cell r; is_own = false } in
    let set : is_free r ≡ false → Contains (settings_from a.first q.seen) (setting cell r) =
    λ e. f.is_word.0 (λ free. false≢true (sym e ∙ ap is_free free)) in
    subst (Adds a.first q.seen k p.known) (sym (ap (λ (x : Pass). x.known) f.becomes)) (learnt_adds a.first q.seen p.known k (is_free r)
    (knows_place cell p.known) refl set)

pub looked_learns : (P : NamedProgram) (a : About) (cell : ℕ) (r : Ref) (p q : Pass) → LooksAt P a cell r p q → Learns a.first p q
looked_learns P a cell r p q f =
    let more = look_adds P a cell r p q f in
    let quiet = learns_nothing a.first [] p (record q { known = p.known })
    (record { since = f.sees.since; of_others = f.sees.of_others; seen = f.sees.seen }) nothing_made
    (ap (λ (x : Pass). x.number) f.becomes) (ap (λ (x : Pass). x.frames) f.becomes) (ap (λ (x : Pass). x.fails) f.becomes) refl in record {
      number = quiet.number;
      since = quiet.since;
      seen = quiet.seen;
      hang_only = quiet.hang_only;
      frames = quiet.frames;
      fails = quiet.fails;
      learnt = more.learnt;
      known = more.gains;
      none_own = more.none_own;
      there = more.there;
    }

-- ---- What is known fits

-- where nothing more is known
pub fits_same : (P : NamedProgram) (p q : PassSeen) → q.store ≡ p.store → q.pass.known ≡ p.pass.known → IsKnownFit P (seen_by p) → IsKnownFit P (seen_by q)
fits_same P p q store known fit place r knows =
    let was = fit place r (subst (λ (l : List Known). Contains (map (λ (k : Known). k.setting) l) (setting place r)) known knows) in
    subst (λ s. (place < s.about.words) × CanHold P s.about.words place r) (sym store) was

-- after a look at a cell of the row
pub fits_looked : (P : NamedProgram) (a : About) (cell : ℕ) (r : Ref) (p q : PassSeen) → a ≡ p.store.about → q.store ≡ p.store → cell < p.store.about.words
    → LooksAt P a cell r p.pass q.pass → IsKnownFit P (seen_by p) → IsKnownFit P (seen_by q)
fits_looked P a cell r p q about store below f fit place t knows =
    let adds = look_adds P a cell r p.pass q.pass f in
    let k = map_contains (λ (k : Known). k.setting) (setting place t) q.pass.known knows in
    let is : (place < p.store.about.words) × CanHold P p.store.about.words place t =
    elim (Contains-append_cases p.pass.known adds.learnt k.0 (subst (λ l. Contains l k.0) adds.gains k.1)) [
      | inl early ↦ fit place t (subst (Contains (map (λ (k : Known). k.setting) p.pass.known)) k.2 (contains_map (λ
          (k : Known). k.setting) k.0 p.pass.known early))
      | inr late ↦
          let same : k.0 ≡ record { setting = setting cell r; is_own = false } =
          All-contains (λ (l : Known). l ≡ record { setting = setting cell r; is_own = false }) adds.learnt k.0 adds.only late in
          let here : setting place t ≡ setting cell r = sym k.2 ∙ ap (λ (k : Known). k.setting) same in
          subst (λ (s : Setting). (s.place < p.store.about.words) × CanHold P p.store.about.words s.place s.value) (sym here)
          (below, subst (λ (b : About). CanHold P b.words cell r) about f.fits)
    ] in
    subst (λ s. (place < s.about.words) × CanHold P s.about.words place t) (sym store) is

-- ---- One after another

pub learns_on : (first : List Ref) (p q r : Pass) → Learns first p q → Learns first q r → Learns first p r
learns_on first p q r a b = record {
  number = b.number ∙ a.number;
  since = a.since ++ b.since;
  seen = b.seen ∙ ap (λ l. l ++ b.since) a.seen ∙ append_assoc p.seen a.since b.since;
  hang_only = hang_both p.number a.since b.since a.hang_only (subst (λ n. HangOnly n b.since) a.number b.hang_only);
  frames = b.frames ∙ a.frames;
  fails = b.fails ∙ a.fails;
  learnt = a.learnt ++ b.learnt;
  known = b.known ∙ ap (λ l. l ++ b.learnt) a.known ∙ append_assoc p.known a.learnt b.learnt;
  none_own = All-append (λ (k : Known). k.is_own ≡ false) a.learnt b.learnt a.none_own b.none_own;
  there = All-append (λ (k : Known). Contains (settings_from first r.seen) k.setting) a.learnt b.learnt
      (subst (λ l. All (λ (k : Known). Contains (settings_from first l) k.setting) a.learnt) (sym b.seen)
      (all_set_more first q.seen b.since a.learnt a.there)) b.there;
}

pub learnt_on : (p q r : PassSeen) → OnlyLearnt p q → OnlyLearnt q r → OnlyLearnt p r
learnt_on p q r a b = record {
  store = b.store ∙ a.store;
  learns = learns_on p.store.about.first p.pass q.pass r.pass a.learns
      (subst (λ s. Learns s.about.first q.pass r.pass) a.store b.learns);
}

pub set_found_learns : (P : NamedProgram) (a : About) (cell : ℕ) (r : Ref) (p q : Pass) → FindsSet P a cell r p q → Learns a.first p q
set_found_learns P a cell r p q f =
    learns_on a.first p f.between q (missed_learns a.first cell store.closed p f.between f.misses) (looked_learns P a cell r f.between q f.looks)

-- ---- What is used as cells, and reads only

abbrev own : (place : ℕ) → Ref → Known
own place r = record { setting = setting place r; is_own = true }

-- What is known after some steps begins with what was known.
known_grows : (P : NamedProgram) (a : About) (p q : PassSeen) → CellSteps P a p q → (more : List Known) × (q.pass.known ≡ p.pass.known ++ more)
known_grows P a p q (CellSteps.no_step x) = ([], sym (append-nil p.pass.known))
known_grows P a p q (CellSteps.step_first x y z step rest) =
    let one = step_grows P a p y step in
    let more = known_grows P a y q rest in
    (one.0 ++ more.0, more.1 ∙ ap (λ l. l ++ more.0) one.1 ∙ append_assoc p.pass.known one.0 more.0)
  where
    step_grows : (P : NamedProgram) (a : About) (p q : PassSeen) → CellStep P a p q → (more : List Known) × (q.pass.known ≡ p.pass.known ++ more)
    step_grows P a p q (CellStep.looks_at cell r low looks kept) = let l = looked_learns P a cell r p.pass q.pass looks in (l.learnt, l.known)
    step_grows P a p q (CellStep.fills place half low can set kept) = (own place half ∷ [], ap (λ (x : Pass). x.known) set.becomes)
    step_grows P a p q (CellStep.wins cell to low can wins) =
        (own cell to ∷ [], ap (λ (x : Pass). x.known) wins.closes.becomes ∙ ap (λ (x : Pass). x.known) wins.set.becomes)

-- where what became known begins with a setting of the pass's own, not all of it is others'
own_is_own : (known learnt more all : List Known) (place : ℕ) (r : Ref) → All (λ (k : Known). k.is_own ≡ false) learnt
    → all ≡ known ++ learnt → all ≡ (known ++ own place r ∷ []) ++ more → ⊥
own_is_own known learnt more all place r none is also =
    let e : learnt ≡ own place r ∷ more = append_cancel_left known learnt (own place r ∷ more) (sym is ∙ also ∙ append_assoc known (own place r ∷ []) more) in
    false≢true (sym (All-head (λ (k : Known). k.is_own ≡ false) (own place r) more (subst (All (λ (k : Known). k.is_own ≡ false)) e none)))

read_steps : (P : NamedProgram) (a : About) (p q : PassSeen) (learnt : List Known) → q.pass.known ≡ p.pass.known ++ learnt
    → All (λ (k : Known). k.is_own ≡ false) learnt → CellSteps P a p q → Learns a.first p.pass q.pass
read_steps P a p q learnt is none (CellSteps.no_step x) = same_learns a.first p.pass p.pass refl
read_steps P a p q learnt is none (CellSteps.step_first x y z (CellStep.looks_at cell r low looks kept) rest) =
    let one = looked_learns P a cell r p.pass y.pass looks in
    let more = known_grows P a y q rest in
    let e : learnt ≡ one.learnt ++ more.0 = append_cancel_left p.pass.known learnt (one.learnt ++ more.0)
    (sym is ∙ more.1 ∙ ap (λ l. l ++ more.0) one.known ∙ append_assoc p.pass.known one.learnt more.0) in
    let others = all_back (λ (k : Known). k.is_own ≡ false) one.learnt more.0 (subst (All (λ (k : Known). k.is_own ≡ false)) e none) in
    learns_on a.first p.pass y.pass q.pass one (read_steps P a y q more.0 more.1 others rest)
read_steps P a p q learnt is none (CellSteps.step_first x y z (CellStep.fills place half low can set kept) rest) =
    let more = known_grows P a y q rest in
    absurd (own_is_own p.pass.known learnt more.0 q.pass.known place half none is
    (more.1 ∙ ap (λ l. l ++ more.0) (ap (λ (x : Pass). x.known) set.becomes)))
read_steps P a p q learnt is none (CellSteps.step_first x y z (CellStep.wins cell to low can wins) rest) =
    let more = known_grows P a y q rest in
    absurd (own_is_own p.pass.known learnt more.0 q.pass.known cell to none is
    (more.1 ∙ ap (λ l. l ++ more.0) (ap (λ (x : Pass). x.known) wins.closes.becomes ∙ ap (λ (x : Pass). x.known) wins.set.becomes)))

pub reads_learnt : (P : NamedProgram) (p q : PassSeen) → IsUsed P p q → OnlyReads (seen_by p) (seen_by q) → OnlyLearnt p q
reads_learnt P p q used reads = record {
  store = used.store;
  learns = read_steps P p.store.about p q reads.learnt reads.gains reads.none_own used.steps;
}
