-- What the calls of a pass are to a worker, which is cells.
use Rattle.std.proofs.Common.{arith, ◌<◌, ℕ, suc, ◌≡◌, ◌≢◌, ◌⊎◌, inl, inr, true, false, cond, ne_eqb, true≢false, ℤ, FitsSigned, w64, List, [], ◌∷◌, ◌++◌}
use Rattle.std.proofs.Common.{map, refl, sym, ap, subst, ◌∙◌, append_assoc, append-nil, Contains}
use Rattle.std.proofs.lemmas.Bool.{cases_eq}
use Rattle.std.proofs.lemmas.List.Elements.{Contains-append_left, Contains-push, Contains-push_cases}
use Rattle.and_model.specs.Prefixes.{IsPrefix}
use Rattle.and_model.specs.Store.{Setting, Made, Known, Missed, word, Pass, is_free}
use Rattle.and_model.specs.declared.reference.Ref.{Ref}
use Rattle.and_model.specs.declared.reference.Ref.TheVariants.{Free, Cell, Node, Number, Half}
use Rattle.and_cells.specs.declared.cells.Bound.{Bound}
use Rattle.and_cells.specs.declared.cells.Bound.TheVariants.{Won, Already}
use Rattle.and_cells.specs.Numbers.{high_half, low_half}
use Rattle.and_cells.specs.Ranges.{NamedProgram, IsInRange, CanHold}
use Rattle.and_cells.specs.Seen.{Adds, Finds, Misses, Sets, Fills, OnlyReads, Keeps, IsKnownWritten, WritesNumber, ReadsNumber}
use Rattle.and_cells.proofs.Chains.{writes_number, reads_number, finds_reads, misses_reads, reads_more, sets_keeps, finds_keeps}
use Rattle.and_store_laws.specs.Grown.{Grew}
use Rattle.and_store_laws.specs.Growing.{grew_nothing, grew_on, same}
use Rattle.and_store_laws.specs.Steps.{setting, entry, knows_place, learnt, missing, KnowsWritten}
use Rattle.and_store_laws.proofs.Lists.{map_append, map_contains, contains_map, contains_first, contains_more}
use Rattle.and_store_laws.proofs.Words.{free_or, learnt_once, known_push}
use Rattle.and_store.specs.Calls.{Sees, LooksAt, SetsCell, ClosesPlace, Wins, FillsWord, WritesPair, ReadsPair}
use Rattle.and_store.specs.Passes.{PassSeen}
use Rattle.and_store.specs.Sight.{About}
use Rattle.and_store.specs.Worked.{IsOnce, shown, CellStep, CellSteps, IsUsed, steps_on}
use Rattle.and_store.proofs.Knowing.{learnt_is}

abbrev settings : List Known → List Setting
settings ks = map (λ (k : Known). k.setting) ks

-- ---- what is known grows by a setting

forth : (ks : List Known) (k : Known) (p : ℕ) (q : Ref) → Contains (settings (ks ++ k ∷ [])) (setting p q)
    → Contains (settings ks) (setting p q) ⊎ ((p ≡ k.setting.place) × (q ≡ k.setting.value))
forth ks k p q c =
    elim (Contains-push_cases (settings ks) k.setting (setting p q)
    (subst (λ xs. Contains xs (setting p q)) (map_append (λ (k : Known). k.setting) ks (k ∷ [])) c)) [
      | inl before ↦ inl before
      | inr is ↦ inr (sym (ap (λ (s : Setting). s.place) is), sym (ap (λ (s : Setting). s.value) is))
    ]

back : (ks : List Known) (k : Known) (p : ℕ) (q : Ref) → Contains (settings ks) (setting p q) ⊎ ((p ≡ k.setting.place) × (q ≡ k.setting.value))
    → Contains (settings (ks ++ k ∷ [])) (setting p q)
back ks k p q (inl before) = subst (λ xs. Contains xs (setting p q)) (sym (map_append (λ (k : Known). k.setting) ks (k ∷ [])))
    (Contains-append_left (settings ks) (k.setting ∷ []) (setting p q) before)
back ks k p q (inr is) =
    let here : k.setting ≡ setting p q = λ i. record { place = sym is.0 i; value = sym is.1 i } in
    subst (λ xs. Contains xs (setting p q)) (sym (map_append (λ (k : Known). k.setting) ks (k ∷ [])))
    (subst (Contains (settings ks ++ k.setting ∷ [])) here (Contains-push (settings ks) k.setting))

-- ---- sets and finds

pub sets_so : (a : About) (cell : ℕ) (to : Ref) (p q : Pass) → SetsCell a cell to p q → Sets cell to (shown a.words p) (shown a.words q)
sets_so a cell to p q s =
    let k : Known = record { setting = setting cell to; is_own = true } in
    subst (λ q. Sets cell to (shown a.words p) (shown a.words q)) (sym s.becomes) (record {
      not_known = λ r c. let x = map_contains (λ (k : Known). k.setting) (setting cell r) p.known c in s.not_known x.0 x.1 (ap (λ (s : Setting). s.place) x.2);
      free = tt;
      adds = λ n r. (forth p.known k n r, back p.known k n r);
      gains = inr refl;
      words = refl;
      told = refl;
      missed = inl refl;
    })

-- a place that is known has a setting
place_known : (place : ℕ) (ks : List Known) → knows_place place ks ≡ true → (k : Known) × Contains ks k × (k.setting.place ≡ place)
place_known place [] e = absurd (true≢false (sym e))
place_known place (k ∷ ks) e = elim (cases_eq k.setting.place place) [
  | inl here ↦ (k, contains_first k ks, here)
  | inr ne ↦ (let r = place_known place ks (ap (λ b. cond b true (knows_place place ks)) (sym (ne_eqb k.setting.place place ne)) ∙ e) in (
    r.0,
    contains_more k r.0 ks r.1,
    r.2,
  ))
]

finds_with : (P : NamedProgram) (a : About) (cell : ℕ) (r : Ref) (p q : Pass) → LooksAt P a cell r p q → r ≢ Free → (known : List Known)
    → learnt cell r p.known ≡ known → q ≡ record p { seen = q.seen; known = known; missed = p.missed }
    → Adds cell r (shown a.words p) (shown a.words (record p { known = known }))
    → (known ≡ p.known) ⊎ (known ≡ p.known ++ record { setting = setting cell r; is_own = false } ∷ [])
    → Finds P cell r (shown a.words p) (shown a.words q)
finds_with P a cell r p q l ne known is becomes adds gains =
    subst (λ q. Finds P cell r (shown a.words p) (shown a.words q)) (sym becomes) (record {
      is_set = ne;
      fits = l.fits;
      as_known = λ t c. let x = map_contains (λ (k : Known). k.setting) (setting cell t) p.known c in
          (l.as_known x.0 x.1 (ap (λ (s : Setting). s.place) x.2)).0 ∙ ap (λ (s : Setting). s.value) x.2;
      adds = adds;
      gains = gains;
      words = refl;
      told = refl;
      missed = refl;
    })

not_missing : (cell : ℕ) (r : Ref) → r ≢ Free → missing cell r ≡ []
not_missing cell r ne = elim (free_or r) [ inl f ↦ absurd (ne f.1) | inr f ↦ ap (λ b. cond {A = List Missed} b (word cell ∷ []) []) f.0 ]

pub finds_so : (P : NamedProgram) (a : About) (cell : ℕ) (r : Ref) (p q : Pass) → LooksAt P a cell r p q → r ≢ Free
    → Finds P cell r (shown a.words p) (shown a.words q)
finds_so P a cell r p q l ne =
    let k : Known = record { setting = setting cell r; is_own = false } in
    let full : is_free r ≡ false = elim (free_or r) [ inl f ↦ absurd (ne f.1) | inr f ↦ f.0 ] in
    let first : learnt cell r p.known ≡ cond (knows_place cell p.known) p.known (p.known ++ k ∷ []) =
    ap (λ b. cond b p.known (cond (knows_place cell p.known) p.known (p.known ++ k ∷ []))) full in
    let none : p.missed ++ missing cell r ≡ p.missed = ap (λ l. p.missed ++ l) (not_missing cell r ne) ∙ append-nil p.missed in
    let becomes = l.becomes ∙ ap (λ m. record p { seen = q.seen; known = learnt cell r p.known; missed = m }) none in
    (elim (knows_place cell p.known) as (λ b. knows_place cell p.known ≡ b → Finds P cell r (shown a.words p) (shown a.words q)) [
      | true ↦ λ e.
          let is : learnt cell r p.known ≡ p.known = first ∙ ap (λ b. cond b p.known (p.known ++ k ∷ [])) e in
          let x = place_known cell p.known e in
          let here : x.0.setting ≡ setting cell r = λ i. record { place = x.2 i; value = sym (l.as_known x.0 x.1 x.2).0 i } in
          finds_with P a cell r p q l ne p.known is (becomes ∙ ap (λ ks. record p { seen = q.seen; known = ks; missed = p.missed }) is)
          (λ n t. (
            inl,
            elim [
              | inl before ↦ before
              | inr is ↦
                  subst (Contains (settings p.known)) (λ i. record { place = sym is.0 i; value = sym is.1 i })
                  (subst (Contains (settings p.known)) here (contains_map (λ (k : Known). k.setting) x.0 p.known x.1))
            ],
          )) (inl refl)
      | false ↦ λ e.
          let is : learnt cell r p.known ≡ p.known ++ k ∷ [] = first ∙ ap (λ b. cond b p.known (p.known ++ k ∷ [])) e in
          finds_with P a cell r p q l ne (p.known ++ k ∷ []) is (becomes ∙ ap (λ ks. record p { seen = q.seen; known = ks; missed = p.missed }) is)
          (λ n t. (forth p.known k n t, back p.known k n t)) (inr refl)
    ]) refl

pub misses_so : (P : NamedProgram) (a : About) (cell : ℕ) (r : Ref) (p q : Pass) → LooksAt P a cell r p q → r ≡ Free
    → Misses a.words cell (shown a.words p) (shown a.words q)
misses_so P a cell r p q l free =
    let becomes = l.becomes ∙ ap (λ t. record p { seen = q.seen; known = learnt cell t p.known; missed = p.missed ++ missing cell t }) free in
    subst (λ q. Misses a.words cell (shown a.words p) (shown a.words q)) (sym becomes) (record {
      not_known = λ t c. let x =
          map_contains (λ (k : Known). k.setting) (setting cell t) p.known c in (l.as_known x.0 x.1 (ap (λ (s : Setting). s.place) x.2)).1 free;
      free = tt;
      known = refl;
      words = refl;
      told = refl;
      missed = inr refl;
      noted = λ _. Contains-push p.missed (word cell);
    })

pub looks_reads : (P : NamedProgram) (a : About) (cell : ℕ) (r : Ref) (p q : Pass) → LooksAt P a cell r p q → OnlyReads (shown a.words p) (shown a.words q)
looks_reads P a cell r p q l = elim (free_or r) [
  | inl f ↦ misses_reads a.words cell (shown a.words p) (shown a.words q) (misses_so P a cell r p q l f.1)
  | inr f ↦ finds_reads P cell r (shown a.words p) (shown a.words q) (finds_so P a cell r p q l f.1)
]

pub fills_so : (P : NamedProgram) (a : About) (place : ℕ) (half r : Ref) (p q : Pass) → FillsWord P a place half r p q
    → Fills P place half r (shown a.words p) (shown a.words q)
fills_so P a place half r p q (inl s) = inl (subst (λ t. Sets place t (shown a.words p) (shown a.words q)) (sym s.1) (sets_so a place half p q s.0), s.1)
fills_so P a place half r p q (inr l) = inr (finds_so P a place r p q l.0 l.1)

-- ---- nothing is known twice

pub looks_once : (P : NamedProgram) (a : About) (cell : ℕ) (r : Ref) (p q : Pass) → LooksAt P a cell r p q → IsOnce p.known → IsOnce q.known
looks_once P a cell r p q l once = subst IsOnce (sym (ap (λ (q : Pass). q.known) l.becomes)) (learnt_once cell r p.known once)

pub sets_once : (a : About) (cell : ℕ) (to : Ref) (p q : Pass) → SetsCell a cell to p q → IsOnce p.known → IsOnce q.known
sets_once a cell to p q s once =
    subst IsOnce (sym (ap (λ (q : Pass). q.known) s.becomes))
    (known_push p.known (record { setting = setting cell to; is_own = true }) once
    (λ c. let x = map_contains (λ (k : Known). k.setting.place) cell p.known c in s.not_known x.0 x.1 x.2))

pub fills_once : (P : NamedProgram) (a : About) (place : ℕ) (half r : Ref) (p q : Pass) → FillsWord P a place half r p q → IsOnce p.known → IsOnce q.known
fills_once P a place half r p q (inl s) once = sets_once a place half p q s.0 once
fills_once P a place half r p q (inr l) once = looks_once P a place r p q l.0 once

pub closes_once : (cell : ℕ) (p q : Pass) (kept after : List ℕ) → ClosesPlace cell p q kept after → IsOnce p.known → IsOnce q.known
closes_once cell p q kept after c once = subst IsOnce (sym (ap (λ (q : Pass). q.known) c.becomes)) once

-- ---- the pass grows

sees_more : (made : List Made) (p q : Pass) → Sees made p q → IsPrefix p.seen q.seen
sees_more made p q s = (s.since ++ map (entry p.number) made, s.seen ∙ append_assoc p.seen s.since (map (entry p.number) made))

pub looks_grew : (P : NamedProgram) (a : About) (cell : ℕ) (r : Ref) (p q : Pass) → LooksAt P a cell r p q → Grew p q
looks_grew P a cell r p q l =
    subst (Grew p) (sym l.becomes) (record {
      number = refl;
      seen = sees_more [] p q l.sees;
      known = learnt_is cell r p.known;
      mine = same p.mine;
      frames = refl;
      asked = refl;
      fails = refl;
      hung = refl;
      missed = (missing cell r, refl);
      took = same p.took;
      found = refl;
    })

pub sets_grew : (a : About) (cell : ℕ) (to : Ref) (p q : Pass) → SetsCell a cell to p q → Grew p q
sets_grew a cell to p q s =
    subst (Grew p) (sym s.becomes) (record {
      number = refl;
      seen = sees_more _ p q s.sees;
      known = (record { setting = setting cell to; is_own = true } ∷ [], refl);
      mine = (setting cell to ∷ [], refl);
      frames = refl;
      asked = refl;
      fails = refl;
      hung = refl;
      missed = same p.missed;
      took = same p.took;
      found = refl;
    })

pub closes_grew : (cell : ℕ) (p q : Pass) (kept after : List ℕ) → ClosesPlace cell p q kept after → Grew p q
closes_grew cell p q kept after c =
    subst (Grew p) (sym c.becomes) (record {
      number = refl;
      seen = sees_more [] p q c.sees;
      known = same p.known;
      mine = same p.mine;
      frames = refl;
      asked = refl;
      fails = refl;
      hung = refl;
      missed = same p.missed;
      took = (record { cell = cell; waiter = c.waiter } ∷ [], refl);
      found = refl;
    })

-- ---- a cell is won

pub wins_sets : (a : About) (cell : ℕ) (to : Ref) (p q : PassSeen) → Wins a cell to p q → Sets cell to (shown a.words p.pass) (shown a.words q.pass)
wins_sets a cell to p q w =
    subst (λ (q : Pass). Sets cell to (shown a.words p.pass) (shown a.words q)) (sym w.closes.becomes) (sets_so a cell to p.pass w.between w.set)

pub wins_grew : (a : About) (cell : ℕ) (to : Ref) (p q : PassSeen) → Wins a cell to p q → Grew p.pass q.pass
wins_grew a cell to p q w =
    grew_on p.pass w.between q.pass (sets_grew a cell to p.pass w.between w.set) (closes_grew cell w.between q.pass p.kept q.kept w.closes)

pub wins_once : (a : About) (cell : ℕ) (to : Ref) (p q : PassSeen) → Wins a cell to p q → IsOnce p.pass.known → IsOnce q.pass.known
wins_once a cell to p q w once = closes_once cell w.between q.pass p.kept q.kept w.closes (sets_once a cell to p.pass w.between w.set once)

-- ---- pairs

pub writes_so : (P : NamedProgram) (a : About) (pair : ℕ) (value result : ℤ) (p q : Pass) → WritesPair P a pair value result p q → FitsSigned w64 value
    → WritesNumber P pair value result (shown a.words p) (shown a.words q)
writes_so P a pair value result p q w fits =
    writes_number P pair value result w.high w.low (shown a.words p) (shown a.words w.between) (shown a.words q)
    (fills_so P a pair (high_half value) w.high p w.between w.first) (fills_so P a (suc pair) (low_half value) w.low w.between q w.second) w.holds fits

pub pair_once : (P : NamedProgram) (a : About) (pair : ℕ) (value result : ℤ) (p q : Pass) → WritesPair P a pair value result p q
    → IsOnce p.known → IsOnce q.known
pair_once P a pair value result p q w once =
    fills_once P a (suc pair) (low_half value) w.low w.between q w.second (fills_once P a pair (high_half value) w.high p w.between w.first once)

pub reads_so : (P : NamedProgram) (a : About) (pair : ℕ) (result : ℤ) (p q : Pass) → ReadsPair P a pair result p q
    → ReadsNumber P pair result (shown a.words p) (shown a.words q)
reads_so P a pair result p q r =
    reads_number P pair (suc pair) result r.high r.low (shown a.words p) (shown a.words r.between) (shown a.words q) refl
    (finds_so P a pair r.high p r.between r.first r.both.0) (finds_so P a (suc pair) r.low r.between q r.second r.both.1) r.holds

pub pair_reads : (P : NamedProgram) (a : About) (pair : ℕ) (result : ℤ) (p q : Pass) → ReadsPair P a pair result p q
    → OnlyReads (shown a.words p) (shown a.words q)
pair_reads P a pair result p q r =
    reads_more (shown a.words p) (shown a.words r.between) (shown a.words q) (looks_reads P a pair r.high p r.between r.first)
    (looks_reads P a (suc pair) r.low r.between q r.second)

pub read_once : (P : NamedProgram) (a : About) (pair : ℕ) (result : ℤ) (p q : Pass) → ReadsPair P a pair result p q → IsOnce p.known → IsOnce q.known
read_once P a pair result p q r once = looks_once P a (suc pair) r.low r.between q r.second (looks_once P a pair r.high p r.between r.first once)

-- ---- the same, step by step

module _ (P : NamedProgram) (p q : PassSeen) (store : q.store ≡ p.store) where
  abbrev about : About
  about = p.store.about

  pub one_step : CellStep P about p q → IsUsed P p q
  one_step step = record { store = store; steps = CellSteps.step_first p q q step (CellSteps.no_step q) }

  pub looks_used : (cell : ℕ) (r : Ref) → cell < about.words → LooksAt P about cell r p.pass q.pass → q.kept ≡ p.kept → IsUsed P p q
  looks_used cell r within l kept = one_step (CellStep.looks_at cell r within l kept)

  -- a word of a pair was set or looked at
  filled : (place : ℕ) (half r : Ref) (x y : PassSeen) → place < about.words → CanHold P about.words place half → y.kept ≡ x.kept
      → FillsWord P about place half r x.pass y.pass → CellStep P about x y
  filled place half r x y within fits kept (inl s) = CellStep.fills place half within fits s.0 kept
  filled place half r x y within fits kept (inr l) = CellStep.looks_at place r within l.0 kept

  -- the pass between two steps, which keeps what it kept
  between_of : Pass → PassSeen
  between_of b = record { store = p.store; pass = b; kept = p.kept }

  pub writes_used : (pair : ℕ) (value result : ℤ) → suc pair < about.words → WritesPair P about pair value result p.pass q.pass → q.kept ≡ p.kept → IsUsed P p q
  unfolding between_of
  writes_used pair value result within w kept = record {
    store = store;
    steps = CellSteps.step_first p (between_of w.between) q (filled pair (high_half value) w.high p (between_of w.between) (omega arith) tt refl w.first)
        (CellSteps.step_first (between_of w.between) q q (filled (suc pair) (low_half value) w.low (between_of w.between) q within tt kept w.second)
        (CellSteps.no_step q));
  }

  pub reads_used : (pair : ℕ) (result : ℤ) → suc pair < about.words → ReadsPair P about pair result p.pass q.pass → q.kept ≡ p.kept → IsUsed P p q
  unfolding between_of
  reads_used pair result within r kept = record {
    store = store;
    steps = CellSteps.step_first p (between_of r.between) q (CellStep.looks_at pair r.high (omega arith) r.first refl)
        (CellSteps.step_first (between_of r.between) q q (CellStep.looks_at (suc pair) r.low within r.second kept) (CellSteps.no_step q));
  }

step_grew : (P : NamedProgram) (a : About) (p q : PassSeen) → CellStep P a p q → Grew p.pass q.pass
step_grew P a p q (CellStep.looks_at cell r within l kept) = looks_grew P a cell r p.pass q.pass l
step_grew P a p q (CellStep.fills place half within fits s kept) = sets_grew a place half p.pass q.pass s
step_grew P a p q (CellStep.wins cell to within fits w) = wins_grew a cell to p q w

-- a pass that was used as cells grew
pub steps_grew : (P : NamedProgram) (a : About) (p q : PassSeen) → CellSteps P a p q → Grew p.pass q.pass
steps_grew P a p q (CellSteps.no_step x) = grew_nothing x.pass
steps_grew P a p q (CellSteps.step_first x y z step rest) = grew_on x.pass y.pass z.pass (step_grew P a x y step) (steps_grew P a y z rest)

-- a word of a pair that was filled is known, and what was known still is
fill_known : (P : NamedProgram) (a : About) (place : ℕ) (half r : Ref) (p q : Pass) → FillsWord P a place half r p q
    → ((t : Ref) × Contains (settings q.known) (setting place t))
    × ((n : ℕ) (t : Ref) → Contains (settings p.known) (setting n t) → Contains (settings q.known) (setting n t))
fill_known P a place half r p q (inl s) =
    let adds = (sets_so a place half p q s.0).adds in
    ((half, (adds place half).1 (inr (refl, refl))), λ n t c. (adds n t).1 (inl c))
fill_known P a place half r p q (inr l) =
    let adds = (finds_so P a place r p q l.0 l.1).adds in
    ((r, (adds place r).1 (inr (refl, refl))), λ n t c. (adds n t).1 (inl c))

-- a pair that was written is known to be
pub pair_known : (P : NamedProgram) (a : About) (pair : ℕ) (value result : ℤ) (p q : Pass) → WritesPair P a pair value result p q → KnowsWritten q.known pair
pair_known P a pair value result p q w =
    let one = fill_known P a pair (high_half value) w.high p w.between w.first in
    let other = fill_known P a (suc pair) (low_half value) w.low w.between q w.second in
    inl (
      contains_map (λ (s : Setting). s.place) (setting pair one.0.0) (settings q.known) (other.1 pair one.0.0 one.0.1),
      contains_map (λ (s : Setting). s.place) (setting (suc pair) other.0.0) (settings q.known) other.0.1,
    )

-- what a worker knows of a pair
pub knows_pair : (words : ℕ) (p : Pass) (pair : ℕ) → IsKnownWritten (shown words p) pair → KnowsWritten p.known pair
knows_pair words p pair (inl both) =
    inl (
      contains_map (λ (s : Setting). s.place) (setting pair both.0.0) (settings p.known) both.0.1,
      contains_map (λ (s : Setting). s.place) (setting (suc pair) both.1.0) (settings p.known) both.1.1,
    )
knows_pair words p pair (inr cell) = inr cell

-- What is in range may stand at a place, if it is no cell from there on.
pub may_stand : (P : NamedProgram) (words place : ℕ) (r : Ref) → IsInRange P words r → ((other : ℕ) → r ≡ Cell other → other < place) → CanHold P words place r
may_stand P words place Free fits falls = tt
may_stand P words place (Cell cell) fits falls = falls cell refl
may_stand P words place (Node node base) fits falls = fits
may_stand P words place (Number pair) fits falls = fits
may_stand P words place (Half bits) fits falls = tt

by_bound : (Q : Type 0) (b : Bound) → (b ≡ Won → Q) → ((r : Ref) → b ≡ Already r → Q) → Q
by_bound Q Won won already = won refl
by_bound Q (Already r) won already = already r refl

-- what holds of a wish to set a cell, however it ended
module _ (P : NamedProgram) (a : About) (cell : ℕ) (to : Ref) (b : Bound) (p q : PassSeen) (won : b ≡ Won → Wins a cell to p q)
    (already : (r : Ref) → b ≡ Already r → LooksAt P a cell r p.pass q.pass × (r ≢ Free) × (q.kept ≡ p.kept)) where
  pub bound_once : IsOnce p.pass.known → IsOnce q.pass.known
  bound_once once = by_bound (IsOnce q.pass.known) b (λ e. wins_once a cell to p q (won e) once)
      (λ r e. looks_once P a cell r p.pass q.pass (already r e).0 once)

  pub bound_used : cell < p.store.about.words → CanHold P p.store.about.words cell to → q.store ≡ p.store → p.store.about ≡ a → IsUsed P p q
  bound_used within fits store is = by_bound (IsUsed P p q) b
      (λ e. one_step P p q store (CellStep.wins cell to within fits (subst (λ (o : About). Wins o cell to p q) (sym is) (won e))))
      (λ r e. looks_used P p q store cell r within (subst (λ (o : About). LooksAt P o cell r p.pass q.pass) (sym is) (already r e).0) (already r e).2)

  pub bound_keeps : Keeps (shown a.words p.pass) (shown a.words q.pass)
  bound_keeps = by_bound (Keeps (shown a.words p.pass) (shown a.words q.pass)) b
      (λ e. sets_keeps cell to (shown a.words p.pass) (shown a.words q.pass) (wins_sets a cell to p q (won e)))
      (λ r e. finds_keeps P cell r (shown a.words p.pass) (shown a.words q.pass) (finds_so P a cell r p.pass q.pass (already r e).0 (already r e).1))

  pub bound_sets : b ≡ Won → Sets cell to (shown a.words p.pass) (shown a.words q.pass)
  bound_sets e = wins_sets a cell to p q (won e)

  pub bound_finds : (r : Ref) → b ≡ Already r → Finds P cell r (shown a.words p.pass) (shown a.words q.pass)
  bound_finds r e = finds_so P a cell r p.pass q.pass (already r e).0 (already r e).1
