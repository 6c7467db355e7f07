-- Modes, tried on two small programs.
use Rattle.std.proofs.Common.{ℕ, zero, suc, ◌≡◌, ◌<◌, ◌≤◌, List, [], ◌∷◌, refl, ap, ◌∙◌, inl, inr, arith, sym, subst}
use Rattle.std.specs.Prelude.{Contains, cond, nat_eq}
use Rattle.std.proofs.lemmas.List.Elements.{All-contains}
use Rattle.and_model.proofs.Tested.{of_one}
use Rattle.and_model.specs.Terms.{Terms, none, more}
use Rattle.and_model.specs.Programs.{Program, Clause, Item, call, equal, arithmetic, fail, clause_at, own_name}
use Rattle.and_modes.specs.Modes.{rank, name_of, arguments_of, count_of, IsAtLeast, Assignment, Environment, HaveLevels, CallsHaveLevels}
use Rattle.and_modes.specs.Modes.{at_entry, all_raised, after_item, after_items, WellModed, Greatest, WaitsFor, IsEarlier, IsSafe, WaitsFirst}
use Rattle.and_modes.specs.declared.level.Level.{Level}
use Rattle.and_modes.specs.declared.level.Level.TheVariants.{Any, Ground, Integer}
use Rattle.and_modes.specs.declared.level.Side.{Side}
use Rattle.and_modes.specs.declared.level.Side.TheVariants.{Called, Succeeded}
use Rattle.and_examples.specs.ModesExamples.{increment, safe, given_first, lowest, waiting, ground_first, x_in_body, one_line}

pub safe_is_well_moded : WellModed safe given_first
safe_is_well_moded zero below = (((omega arith, (omega arith, tt)), tt), tt)
safe_is_well_moded (suc zero) below = (tt, (omega arith, (omega arith, tt)))
safe_is_well_moded (suc (suc c)) below = absurd (omega arith)

top : (l : Level) → rank l ≤ 2
top Any = omega arith
top Ground = omega arith
top Integer = omega arith

only : (k : Clause) → Contains (increment ∷ []) k → increment ≡ k
only k c = All-contains (λ (k : Clause). increment ≡ k) (increment ∷ []) k (of_one (λ (k : Clause). increment ≡ k) increment refl) c

-- Nothing is above it: the query calls with a free variable in the second place.
above : (other : Assignment) → WellModed safe other → (place : ℕ) (side : Side) → place < 2
    → IsAtLeast (given_first (own_name 0) 2 place side) (other (own_name 0) 2 place side)
above other well zero Called below = top (other (own_name 0) 2 0 Called)
above other well zero Succeeded below = top (other (own_name 0) 2 0 Succeeded)
above other well (suc zero) Called below = (well 0 (omega arith)).0.0.1.0
above other well (suc zero) Succeeded below = top (other (own_name 0) 2 1 Succeeded)
above other well (suc (suc place)) side below = absurd (omega arith)

pub safe_greatest : Greatest safe given_first
safe_greatest = (
  safe_is_well_moded,
  λ other well name count place side has.
      let same = only has.0 has.1 in
      let is_name : own_name 0 ≡ name = ap (λ (k : Clause). name_of k.head) same ∙ has.2 in
      let is_count : 2 ≡ count = ap (λ (k : Clause). count_of (arguments_of k.head)) same ∙ has.3 in
      rw (← is_name, ← is_count) (above other well place side (rw is_count has.4)),
)

-- No variable waits: each right side is known to be an integer.
-- a goal with one variable waits for that alone
only_first : (k : ℕ) → Contains (0 ∷ []) k → k ≡ 0
only_first k (zero, lt, e) = sym e
only_first k (suc i, lt, e) = absurd (omega arith)

none_there : (k : ℕ) → Contains [] k → ⊥
none_there k (i, lt, e) = omega arith

not_waiting : (c i k : ℕ) → WaitsFor safe given_first (record { clause = c; item = i; variable = k }) → ⊥
not_waiting zero zero k waits = none_there k waits.1
not_waiting zero (suc zero) zero waits = let e = waits.2 in cc
not_waiting zero (suc zero) (suc k) waits = let e : suc k ≡ 0 = only_first (suc k) waits.1 in omega arith
not_waiting zero (suc (suc i)) k waits = none_there k waits.1
not_waiting (suc zero) zero zero waits = let e = waits.2 in cc
not_waiting (suc zero) zero (suc k) waits = let e : suc k ≡ 0 = only_first (suc k) waits.1 in omega arith
not_waiting (suc zero) (suc i) k waits = none_there k waits.1
not_waiting (suc (suc c)) i k waits = let below = waits.0 in omega arith

pub safe_is_safe : IsSafe safe given_first
safe_is_safe w waits = not_waiting w.clause w.item w.variable waits

have_lowest : (e : Environment) (i : ℕ) (ts : Terms) → HaveLevels e (λ place. Any) i ts
have_lowest e i none = tt
have_lowest e i (more t ts) = (omega arith, have_lowest e (suc i) ts)

calls_have_lowest : (e : Environment) (items : List Item) → CallsHaveLevels lowest e items
calls_have_lowest e [] = tt
calls_have_lowest e (call g ∷ items) = (have_lowest e 0 (arguments_of g), calls_have_lowest (after_item lowest e (call g)) items)
calls_have_lowest e (equal a b ∷ items) = calls_have_lowest (after_item lowest e (equal a b)) items
calls_have_lowest e (arithmetic a ∷ items) = calls_have_lowest (after_item lowest e (arithmetic a)) items
calls_have_lowest e (fail ∷ items) = calls_have_lowest (after_item lowest e fail) items

pub lowest_is_well_moded : (P : Program) → WellModed P lowest
lowest_is_well_moded P c below =
    let k : Clause = clause_at P c in
    (calls_have_lowest (at_entry lowest k) k.body, have_lowest (after_items lowest (at_entry lowest k) k.body) 0 (arguments_of k.head))

-- For ?- inc(A,Z). none is higher: the call has two free variables, and so nothing is known of X in the body, nor then of Y.
none_below : (l : Level) → rank l ≤ 0 → l ≡ Any
none_below Any low = refl
none_below Ground low = absurd (omega arith)
none_below Integer low = absurd (omega arith)

-- the levels of X and Y after the body, by those at the call
abbrev after_body : (x y : Level) → Environment
after_body x y = after_items lowest (all_raised (λ k. Any) (λ place. cond (nat_eq place 0) x y) 0 (arguments_of increment.head)) increment.body

nothing_above : (other : Assignment) → WellModed waiting other → (place : ℕ) (side : Side) → place < 2 → IsAtLeast Any (other (own_name 0) 2 place side)
nothing_above other well zero Called below = (well 0 (omega arith)).0.0.0
nothing_above other well (suc zero) Called below = (well 0 (omega arith)).0.0.1.0
nothing_above other well zero Succeeded below =
    let x : other (own_name 0) 2 0 Called ≡ Any = none_below (other (own_name 0) 2 0 Called) (well 0 (omega arith)).0.0.0 in
    let y : other (own_name 0) 2 1 Called ≡ Any = none_below (other (own_name 0) 2 1 Called) (well 0 (omega arith)).0.0.1.0 in
    let after : IsAtLeast (after_body (other (own_name 0) 2 0 Called) (other (own_name 0) 2 1 Called) 0) (other (own_name 0) 2 0 Succeeded) =
    (well 1 (omega arith)).1.0 in
    let with_x : IsAtLeast (after_body Any (other (own_name 0) 2 1 Called) 0) (other (own_name 0) 2 0 Succeeded) =
    subst (λ (l : Level). IsAtLeast (after_body l (other (own_name 0) 2 1 Called) 0) (other (own_name 0) 2 0 Succeeded)) x after in
    subst (λ (l : Level). IsAtLeast (after_body Any l 0) (other (own_name 0) 2 0 Succeeded)) y with_x
nothing_above other well (suc zero) Succeeded below =
    let x : other (own_name 0) 2 0 Called ≡ Any = none_below (other (own_name 0) 2 0 Called) (well 0 (omega arith)).0.0.0 in
    let y : other (own_name 0) 2 1 Called ≡ Any = none_below (other (own_name 0) 2 1 Called) (well 0 (omega arith)).0.0.1.0 in
    let after : IsAtLeast (after_body (other (own_name 0) 2 0 Called) (other (own_name 0) 2 1 Called) 1) (other (own_name 0) 2 1 Succeeded) =
    (well 1 (omega arith)).1.1.0 in
    let with_x : IsAtLeast (after_body Any (other (own_name 0) 2 1 Called) 1) (other (own_name 0) 2 1 Succeeded) =
    subst (λ (l : Level). IsAtLeast (after_body l (other (own_name 0) 2 1 Called) 1) (other (own_name 0) 2 1 Succeeded)) x after in
    subst (λ (l : Level). IsAtLeast (after_body Any l 1) (other (own_name 0) 2 1 Succeeded)) y with_x
nothing_above other well (suc (suc place)) side below = absurd (omega arith)

pub lowest_greatest : Greatest waiting lowest
lowest_greatest = (
  lowest_is_well_moded waiting,
  λ other well name count place side has.
      let same = only has.0 has.1 in
      let is_name : own_name 0 ≡ name = ap (λ (k : Clause). name_of k.head) same ∙ has.2 in
      let is_count : 2 ≡ count = ap (λ (k : Clause). count_of (arguments_of k.head)) same ∙ has.3 in
      rw (← is_name, ← is_count) (nothing_above other well place side (rw is_count has.4)),
)

pub higher_is_not : WellModed waiting ground_first → ⊥
higher_is_not well = let h = (well 0 (omega arith)).0.0.0 in omega arith

alone : (c i k : ℕ) → WaitsFor waiting lowest (record { clause = c; item = i; variable = k }) → record { clause = c; item = i; variable = k } ≡ x_in_body
alone zero zero k waits = absurd (none_there k waits.1)
alone zero (suc i) k waits = absurd (none_there k waits.1)
alone (suc zero) zero zero waits = refl
alone (suc zero) zero (suc k) waits = let e : suc k ≡ 0 = only_first (suc k) waits.1 in absurd (omega arith)
alone (suc zero) (suc i) k waits = absurd (none_there k waits.1)
alone (suc (suc c)) i k waits = let below = waits.0 in absurd (omega arith)

pub x_waits_first : WaitsFirst waiting lowest x_in_body
x_waits_first = ((omega arith, (0, omega arith, refl), refl), λ w waits. inl (alone w.clause w.item w.variable waits))

pub z_is_earlier : IsEarlier one_line (record { clause = 1; item = 0; variable = 0 }) (record { clause = 0; item = 0; variable = 1 })
z_is_earlier = inr (inl (refl, omega arith))
