-- Example nat-cut: nat(z). nat(s(N)) :- nat(N). ?- nat(X).
use Rattle.std.proofs.Common.{ℕ, zero, suc, ◌≡◌, ◌-◌, [], ◌∷◌, refl, ap, inl, inr, arith, Some, codes, length}
use Rattle.std.specs.Fmt.{digits}
use Rattle.and_model.specs.Terms.{Path, Term, variable, Substitution, apply}
use Rattle.and_model.specs.Solutions.{Solves, MostGeneral}
use Rattle.and_model.specs.Programs.{clause_weight}
use Rattle.and_model.specs.Closure.{Closes}
use Rattle.and_model.specs.Trees.{QueryTree, query_agenda, blank, done, left, by, equations, unfold_code, weight}
use Rattle.and_model.specs.Listing.{Ends, answer, Entry, Lists, Listing, Exhausted, answered, calls, no_more, heavy, light, of_query}
use Rattle.and_model.specs.Output.{OverLeft}
use Rattle.and_laws.proofs.Listings.{one_listing}
use Rattle.and_examples.specs.Ending.{entry}
use Rattle.and_examples.specs.Texts.{zed, successor, naturals}

-- the trees that say that X is at least so much
abbrev at_least_0 : QueryTree naturals
at_least_0 = blank (query_agenda naturals)

abbrev at_least_1 : QueryTree naturals
at_least_1 = by 2 refl (left done)

abbrev pub at_least_2 : QueryTree naturals
at_least_2 = by 2 refl (by 2 refl (left done))

-- and the proofs
abbrev is_0 : QueryTree naturals
is_0 = by 1 refl done

abbrev is_1 : QueryTree naturals
is_1 = by 2 refl (by 1 refl done)

abbrev is_2 : QueryTree naturals
is_2 = by 2 refl (by 2 refl (by 1 refl done))

-- 2 + 1, 2 + 2 + 1 and 2 + 2 + 2 + 1
pub weights : ((t : QueryTree naturals) × (unfold_code naturals (1 ∷ []) ≡ Some t) × (weight t ≡ 3))
    × ((t : QueryTree naturals) × (unfold_code naturals (2 ∷ 1 ∷ []) ≡ Some t) × (weight t ≡ 5))
    × ((t : QueryTree naturals) × (unfold_code naturals (2 ∷ 2 ∷ 1 ∷ []) ≡ Some t) × (weight t ≡ 7))
unfolding clause_weight
weights = ((is_0, refl, refl), (is_1, refl, refl), (is_2, refl, refl))

-- The number, as a term.
abbrev numeral : ℕ → Term
numeral zero = zed
numeral (suc n) = successor (numeral n)

-- In the proof of the number n, the first variable of the clause at a path of length m, below n, stands for n - m.
abbrev solution_0 : Substitution
solution_0 [] zero = zed
solution_0 [] (suc k) = variable [] (suc k)
solution_0 (i ∷ r) k = variable (i ∷ r) k

abbrev solution_1 : Substitution
solution_1 [] zero = numeral 1
solution_1 [] (suc k) = variable [] (suc k)
solution_1 (zero ∷ []) zero = zed
solution_1 (zero ∷ []) (suc k) = variable (0 ∷ []) (suc k)
solution_1 (zero ∷ j ∷ r) k = variable (0 ∷ j ∷ r) k
solution_1 (suc i ∷ r) k = variable (suc i ∷ r) k

abbrev solution_2 : Substitution
solution_2 [] zero = numeral 2
solution_2 [] (suc k) = variable [] (suc k)
solution_2 (zero ∷ []) zero = numeral 1
solution_2 (zero ∷ []) (suc k) = variable (0 ∷ []) (suc k)
solution_2 (zero ∷ zero ∷ []) zero = zed
solution_2 (zero ∷ zero ∷ []) (suc k) = variable (0 ∷ 0 ∷ []) (suc k)
solution_2 (zero ∷ zero ∷ j ∷ r) k = variable (0 ∷ 0 ∷ j ∷ r) k
solution_2 (zero ∷ suc j ∷ r) k = variable (0 ∷ suc j ∷ r) k
solution_2 (suc i ∷ r) k = variable (suc i ∷ r) k

general_0 : MostGeneral solution_0 (equations is_0)
general_0 = ((refl, tt), through)
  where
    through : (t : Substitution) → Solves t (equations is_0) → (r : Path) (k : ℕ) → t r k ≡ apply t (solution_0 r k)
    through t h [] zero = let e = h.0 in cc
    through t h [] (suc k) = refl
    through t h (i ∷ r) k = refl

general_1 : MostGeneral solution_1 (equations is_1)
general_1 = ((refl, (refl, tt)), through)
  where
    through : (t : Substitution) → Solves t (equations is_1) → (r : Path) (k : ℕ) → t r k ≡ apply t (solution_1 r k)
    through t h [] zero = let e = h.0 in let f = h.1.0 in cc
    through t h [] (suc k) = refl
    through t h (zero ∷ []) zero = let f = h.1.0 in cc
    through t h (zero ∷ []) (suc k) = refl
    through t h (zero ∷ j ∷ r) k = refl
    through t h (suc i ∷ r) k = refl

general_2 : MostGeneral solution_2 (equations is_2)
general_2 = ((refl, (refl, (refl, tt))), through)
  where
    through : (t : Substitution) → Solves t (equations is_2) → (r : Path) (k : ℕ) → t r k ≡ apply t (solution_2 r k)
    through t h [] zero = let e = h.0 in let f = h.1.0 in let g = h.1.1.0 in cc
    through t h [] (suc k) = refl
    through t h (zero ∷ []) zero = let f = h.1.0 in let g = h.1.1.0 in cc
    through t h (zero ∷ []) (suc k) = refl
    through t h (zero ∷ zero ∷ []) zero = let g = h.1.1.0 in cc
    through t h (zero ∷ zero ∷ []) (suc k) = refl
    through t h (zero ∷ zero ∷ j ∷ r) k = refl
    through t h (zero ∷ suc j ∷ r) k = refl
    through t h (suc i ∷ r) k = refl

ends_0 : Ends is_0 (answer (codes "X = z"))
unfolding digits
ends_0 = (tt, equations is_0, [], Closes.waiting (equations is_0) [] tt, solution_0, general_0, refl)

ends_1 : Ends is_1 (answer (codes "X = s(z)"))
unfolding digits
ends_1 = (tt, equations is_1, [], Closes.waiting (equations is_1) [] tt, solution_1, general_1, refl)

ends_2 : Ends is_2 (answer (codes "X = s(s(z))"))
unfolding digits
ends_2 = (tt, equations is_2, [], Closes.waiting (equations is_2) [] tt, solution_2, general_2, refl)

abbrev entry_0 : Entry
entry_0 = entry (1 ∷ []) (answer (codes "X = z"))

abbrev entry_1 : Entry
entry_1 = entry (2 ∷ 1 ∷ []) (answer (codes "X = s(z)"))

abbrev entry_2 : Entry
entry_2 = entry (2 ∷ 2 ∷ 1 ∷ []) (answer (codes "X = s(s(z))"))

-- With the limit 6, the tree of two s, which weighs 6, takes no clause more.
pub listing : Listing naturals 6 (entry_0 ∷ entry_1 ∷ [])
unfolding clause_weight
listing =
    let none_left : Lists naturals 6 at_least_2 [] =
    calls at_least_2 (inl tt) [] tt
    (heavy at_least_2 (inl tt) 1 [] refl (omega arith)
    (heavy at_least_2 (inl tt) 2 [] refl (omega arith)
    (no_more at_least_2 (inl tt) 3 (omega arith)))) in
    let later : Lists naturals 6 at_least_1 (entry_1 ∷ []) =
    calls at_least_1 (inl tt) (entry_1 ∷ []) tt
    (light at_least_1 (inl tt) 1 (entry_1 ∷ []) [] refl (omega arith) (answered is_1 (answer (codes "X = s(z)")) ends_1)
    (light at_least_1 (inl tt) 2 [] [] refl (omega arith) none_left
    (no_more at_least_1 (inl tt) 3 (omega arith)))) in
    of_query (entry_0 ∷ entry_1 ∷ []) (omega arith)
    (calls at_least_0 (inl tt) (entry_0 ∷ entry_1 ∷ []) tt
    (light at_least_0 (inl tt) 1 (entry_0 ∷ []) (entry_1 ∷ []) refl (omega arith) (answered is_0 (answer (codes "X = z")) ends_0)
    (light at_least_0 (inl tt) 2 (entry_1 ∷ []) [] refl (omega arith) later
    (no_more at_least_0 (inl tt) 3 (omega arith)))))

-- With the limit 7 it takes the first, and not the second.
pub third : Listing naturals 7 (entry_0 ∷ entry_1 ∷ entry_2 ∷ [])
unfolding clause_weight
third =
    let last : Lists naturals 7 at_least_2 (entry_2 ∷ []) =
    calls at_least_2 (inl tt) (entry_2 ∷ []) tt
    (light at_least_2 (inl tt) 1 (entry_2 ∷ []) [] refl (omega arith) (answered is_2 (answer (codes "X = s(s(z))")) ends_2)
    (heavy at_least_2 (inl tt) 2 [] refl (omega arith)
    (no_more at_least_2 (inl tt) 3 (omega arith)))) in
    let later : Lists naturals 7 at_least_1 (entry_1 ∷ entry_2 ∷ []) =
    calls at_least_1 (inl tt) (entry_1 ∷ entry_2 ∷ []) tt
    (light at_least_1 (inl tt) 1 (entry_1 ∷ []) (entry_2 ∷ []) refl (omega arith) (answered is_1 (answer (codes "X = s(z)")) ends_1)
    (light at_least_1 (inl tt) 2 (entry_2 ∷ []) [] refl (omega arith) last
    (no_more at_least_1 (inl tt) 3 (omega arith)))) in
    of_query (entry_0 ∷ entry_1 ∷ entry_2 ∷ []) (omega arith)
    (calls at_least_0 (inl tt) (entry_0 ∷ entry_1 ∷ entry_2 ∷ []) tt
    (light at_least_0 (inl tt) 1 (entry_0 ∷ []) (entry_1 ∷ entry_2 ∷ []) refl (omega arith) (answered is_0 (answer (codes "X = z")) ends_0)
    (light at_least_0 (inl tt) 2 (entry_1 ∷ entry_2 ∷ []) [] refl (omega arith) later
    (no_more at_least_0 (inl tt) 3 (omega arith)))))

-- some solution of the equations of two s: X = s(s(z)), and so on down
abbrev down_from_2 : Substitution
down_from_2 r k = numeral (2 - length r)

pub over : OverLeft naturals 6 (2 ∷ 2 ∷ []) 1
unfolding clause_weight
over =
    inr (
      at_least_2,
      refl,
      (omega arith),
      equations at_least_2,
      [],
      Closes.waiting (equations at_least_2) [] tt,
      (down_from_2, (refl, (refl, tt))),
      inl tt,
      tt,
      refl,
      omega arith,
    )

-- Were 6 enough, the listings would be one.
pub not_exhausted : Exhausted naturals 6 → ⊥
not_exhausted e =
    let same = one_listing naturals 6 (entry_0 ∷ entry_1 ∷ entry_2 ∷ []) (entry_0 ∷ entry_1 ∷ [])
    ((e 7 (omega arith) (entry_0 ∷ entry_1 ∷ entry_2 ∷ [])).0 third) listing in
    cc

-- Within the limit 7 the code [2, 2] takes the first clause.
pub not_over : OverLeft naturals 7 (2 ∷ 2 ∷ []) 1 → ⊥
unfolding clause_weight
not_over (inl (empty, rest, more)) = cc
not_over (inr (t, is, fits, es, gs, closed, solved, o, leftmost, of, heavier)) =
    let same : t ≡ at_least_2 = cc in
    let weighs : weight t ≡ 6 = ap weight same in
    omega arith
