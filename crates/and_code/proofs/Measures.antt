-- How many turns the visits take at most.
use Rattle.std.proofs.Common.{ℕ, zero, suc, ◌+◌, ◌-◌, ◌≡◌, ◌<◌, ◌≤◌, Bool, true, false, true≢false, cond, List, [], ◌∷◌, length, get_or}
use Rattle.std.proofs.Common.{refl, sym, ap, ◌∙◌, subst, arith}
use Rattle.std.specs.Prelude.{sum_by, Contains}
use Rattle.std.proofs.lemmas.Bool.Decides.{nat_tests}
use Rattle.std.proofs.lemmas.List.Elements.{All-contains}
use Rattle.std.proofs.lemmas.List.Sums.{sum_by-cons, get_or-le-sum_by}
use Rattle.and_model.specs.Reductions.{Reduction}
use Rattle.and_code.specs.Visiting.{AreBehind, takes_from, turns_below, above_all}

-- ---- Sums

sum_le : {X : Type 0} (h g : X → ℕ) (xs : List X) → ((x : X) → h x ≤ g x) → sum_by h xs ≤ sum_by g xs
sum_le h g [] le = omega arith
sum_le h g (x ∷ xs) le =
    let one = sum_by-cons h x xs in
    let other = sum_by-cons g x xs in
    let first = le x in
    let rest = sum_le h g xs le in
    omega arith

-- where one of them is left out
sum_gap : {X : Type 0} (h g : X → ℕ) (xs : List X) → ((x : X) → h x ≤ g x) → (k : ℕ) (d : X) → k < length xs → h (get_or xs k d) ≡ 0
    → sum_by h xs + g (get_or xs k d) ≤ sum_by g xs
sum_gap h g [] le k d low none = absurd (omega arith)
sum_gap h g (x ∷ xs) le zero d low none =
    let one = sum_by-cons h x xs in
    let other = sum_by-cons g x xs in
    let rest = sum_le h g xs le in
    omega arith
sum_gap h g (x ∷ xs) le (suc k) d low none =
    let one = sum_by-cons h x xs in
    let other = sum_by-cons g x xs in
    let first = le x in
    let rest = sum_gap h g xs le k d (omega arith) none in
    omega arith

-- ---- Turns

-- what is counted under a test
counted_le : (b c : Bool) (m n : ℕ) → (b ≡ true → c ≡ true) → m ≤ n → cond b m 0 ≤ cond c n 0
counted_le false c m n to le = omega arith
counted_le true false m n to le = absurd (true≢false (sym (to refl)))
counted_le true true m n to le = le

later_takes : (n i : ℕ) (r : Reduction) → takes_from n (i + 1) r ≡ true → takes_from n i r ≡ true
later_takes n i r e = grind (arith, nat_tests)

module _ (rs : List Reduction) where
  -- More fuel counts no less,
  more_fuel : (f g n i : ℕ) → f ≤ g → turns_below rs f n i ≤ turns_below rs g n i
  more_fuel zero g n i le = omega arith
  more_fuel (suc f) zero n i le = absurd (omega arith)
  more_fuel (suc f) (suc g) n i le =
      sum_le (λ (r : Reduction). cond (takes_from n i r) (1 + turns_below rs f r.node 0) 0)
      (λ (r : Reduction). cond (takes_from n i r) (1 + turns_below rs g r.node 0) 0) rs
      (λ r. counted_le (takes_from n i r) (takes_from n i r) (1 + turns_below rs f r.node 0) (1 + turns_below rs g r.node 0) (λ e. e)
      (let more = more_fuel f g r.node 0 (omega arith) in omega arith))

  -- and later items no more.
  pub later_below : (f n i : ℕ) → turns_below rs f n (i + 1) ≤ turns_below rs f n i
  later_below zero n i = omega arith
  later_below (suc f) n i =
      sum_le (λ (r : Reduction). cond (takes_from n (i + 1) r) (1 + turns_below rs f r.node 0) 0)
      (λ (r : Reduction). cond (takes_from n i r) (1 + turns_below rs f r.node 0) 0) rs
      (λ r. counted_le (takes_from n (i + 1) r) (takes_from n i r) (1 + turns_below rs f r.node 0) (1 + turns_below rs f r.node 0)
      (later_takes n i r) (omega arith))

  takes_here : (r : Reduction) (n i : ℕ) → r.parent ≡ n → r.item ≡ i → takes_from n i r ≡ true
  takes_here r n i p q = grind (arith, nat_tests)

  not_later : (r : Reduction) (n i : ℕ) → r.item ≡ i → takes_from n (i + 1) r ≡ false
  not_later r n i q = grind (arith, nat_tests)

  -- A call that is taken counts what is below it beside what comes later.
  one_below : (f n i : ℕ) (r : Reduction) → Contains rs r → r.parent ≡ n → r.item ≡ i
      → turns_below rs (suc f) n (i + 1) + (1 + turns_below rs f r.node 0) ≤ turns_below rs (suc f) n i
  one_below f n i r here parent item =
      let h : Reduction → ℕ = λ r. cond (takes_from n (i + 1) r) (1 + turns_below rs f r.node 0) 0 in
      let g : Reduction → ℕ = λ r. cond (takes_from n i r) (1 + turns_below rs f r.node 0) 0 in
      let count : ℕ = 1 + turns_below rs f r.node 0 in
      let none : h (get_or rs here.0 r) ≡ 0 = ap h here.2 ∙ ap (λ (b : Bool). cond b count 0) (not_later r n i item) in
      let all : g (get_or rs here.0 r) ≡ count = ap g here.2 ∙ ap (λ (b : Bool). cond b count 0) (takes_here r n i parent item) in
      let gap = sum_gap h g rs
      (λ r. counted_le (takes_from n (i + 1) r) (takes_from n i r) (1 + turns_below rs f r.node 0) (1 + turns_below rs f r.node 0)
      (later_takes n i r) (omega arith)) here.0 r here.1 none in
      subst (λ (m : ℕ). sum_by h rs + m ≤ sum_by g rs) all gap

  pub taken_below : (n i : ℕ) (r : Reduction) → AreBehind rs → Contains rs r → r.parent ≡ n → r.item ≡ i
      → turns_below rs (above_all rs - n) n (i + 1) + (1 + turns_below rs (above_all rs - r.node) r.node 0)
      ≤ turns_below rs (above_all rs - n) n i
  taken_below n i r places here parent item =
      let less : r.parent < r.node = All-contains (λ (r : Reduction). r.parent < r.node) rs r places here in
      let bound : (get_or rs here.0 r).node + 1 ≤ above_all rs = get_or-le-sum_by (λ (r : Reduction). r.node + 1) rs here.0 r here.1 in
      let node : (get_or rs here.0 r).node ≡ r.node = ap (λ (x : Reduction). x.node) here.2 in
      let f : ℕ = above_all rs - n - 1 in
      let fuel : suc f ≡ above_all rs - n = omega arith in
      let more = more_fuel (above_all rs - r.node) f r.node 0 (omega arith) in
      let one = subst (λ (m : ℕ). turns_below rs m n (i + 1) + (1 + turns_below rs f r.node 0) ≤ turns_below rs m n i) fuel
      (one_below f n i r here parent item) in
      omega arith
