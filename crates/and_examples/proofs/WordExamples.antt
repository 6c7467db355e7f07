-- Words of the laws, tried on small programs.
use Rattle.std.proofs.Common.{ℕ, zero, suc, ◌≡◌, ◌<◌, ◌≤◌, ◌++◌, List, [], ◌∷◌, refl, sym, subst, ◌∙◌, inl, inr, arith, codes}
use Rattle.and_model.specs.Programs.{Arithmetic, clause_weight}
use Rattle.and_model.specs.Closure.{Closes}
use Rattle.and_model.specs.Trees.{QueryTree, HasOutcome, equations, weight}
use Rattle.and_model.specs.Listing.{Outcome, answer}
use Rattle.and_laws.specs.CodeOrder.{Before}
use Rattle.and_laws.specs.Entries.{IsWithin}
use Rattle.and_laws.specs.Fitting.{AllFit}
use Rattle.and_laws.specs.Outcomes.{Covers}
use Rattle.and_laws.specs.Paths.{At}
use Rattle.and_laws.specs.Weaving.{Woven}
use Rattle.and_laws.proofs.Agreement.{below_agrees}
use Rattle.and_laws.proofs.Covering.{reached_covers}
use Rattle.and_laws.proofs.Order.{code_tree}
use Rattle.and_examples.specs.Ending.{entry}
use Rattle.and_examples.specs.LimitExamples.{naturals, at_least_2}
use Rattle.and_examples.specs.NumbersExamples.{fails}
use Rattle.and_examples.specs.ReachedExamples.{early, early_answer}
use Rattle.and_examples.specs.Texts.{x_is_x, x_below_3}
use Rattle.and_examples.specs.WordExamples.{by_one, by_two}
use Rattle.and_examples.proofs.BranchExamples.{other_reached}
use Rattle.and_examples.proofs.LimitExamples.{zero_2, at_least_2_reached}
use Rattle.and_examples.proofs.NumbersExamples.{fails_answer}
use Rattle.and_examples.proofs.ReachedExamples.{all_are, early_ends, early_weighs}

-- ---- p(1). p(2). q(2). ?- p(X), q(X). In the proof clause 2 is at the path [0] and clause 3 at [1].
pub at_paths : At early_answer (0 ∷ []) 2 × At early_answer (1 ∷ []) 3
at_paths = (inl (refl, refl), inr (inl (refl, refl)))

different : (n m : ℕ) → n < m → n ≡ m → ⊥
different n m less same = omega arith

pub not_at : At early_answer (0 ∷ []) 3 → ⊥
not_at (inl is) = different 2 3 (omega arith) (sym is.1)
not_at (inr (inl is)) = let items : zero ≡ suc zero = cc in omega arith
not_at (inr (inr n)) = n

-- Codes stand in the order of a dictionary.
pub before : (o r : Outcome) → Before (entry (1 ∷ 3 ∷ []) o) (entry (2 ∷ []) r) × Before (entry (2 ∷ []) o) (entry (2 ∷ 1 ∷ []) r)
before o r = (inr ([], 1, 2, 3 ∷ [], [], omega arith, refl, refl), inl (1, [], refl))

first_of : (n m : ℕ) (ns ms : List ℕ) → n ∷ ns ≡ m ∷ ms → n ≡ m
first_of n m ns ms same = cc

pub not_before : (o r : Outcome) → Before (entry (2 ∷ []) o) (entry (1 ∷ 3 ∷ []) r) → ⊥
not_before o r (inl (c, rest, is)) = different 1 2 (omega arith) (first_of 1 2 (3 ∷ []) (c ∷ rest) is)
not_before o r (inr (common, small, large, rest, others, less, one, other)) = smaller common small large rest others less one other
  where
    smaller : (common : List ℕ) (small large : ℕ) (rest others : List ℕ)
        → small < large → 2 ∷ [] ≡ common ++ small ∷ rest → 1 ∷ 3 ∷ [] ≡ common ++ large ∷ others → ⊥
    smaller [] small large rest others less one other =
        let two : 2 ≡ small = first_of 2 small [] rest one in
        let first : 1 ≡ large = first_of 1 large (3 ∷ []) others other in
        omega arith
    smaller (n ∷ common) small large rest others less one other =
        let two : 2 ≡ n = first_of 2 n [] (common ++ small ∷ rest) one in
        let first : 1 ≡ n = first_of 1 n (3 ∷ []) (common ++ large ∷ others) other in
        omega arith

-- The proof weighs 4.
pub within : IsWithin early 4 (entry (2 ∷ 3 ∷ []) (answer (codes "X = 2")))
unfolding clause_weight
within = (early_answer, refl, early_ends, omega arith)

pub not_within : (o : Outcome) → IsWithin early 3 (entry (2 ∷ 3 ∷ []) o) → ⊥
not_within o (u, is, ends, light) =
    let same : u ≡ early_answer = code_tree u early_answer ends.0 tt is in
    let weighs : weight early_answer ≤ 3 = subst (λ (t : QueryTree early). weight t ≤ 3) same light in
    let four : weight early_answer ≡ 4 = early_weighs in
    omega arith

-- ---- nat(z). nat(s(N)) :- nat(N). ?- nat(X). The tree of s(s(X)) is reached within 6, and does not fit with the first clause.
pub not_all_fit : AllFit naturals 6 → ⊥
unfolding clause_weight
not_all_fit fits =
    let light = fits.1 at_least_2 (2 ∷ 2 ∷ [], at_least_2_reached) (equations at_least_2) [] (Closes.waiting (equations at_least_2) [] tt) (inl tt) 1 zero_2 in
    omega arith

-- The old goals stay in their order, and so do the new ones.
pub woven : (a b c : Arithmetic) → Woven (a ∷ c ∷ []) (b ∷ []) (a ∷ b ∷ c ∷ [])
woven a b c = Woven.old a (c ∷ []) (b ∷ []) (b ∷ c ∷ []) (Woven.new b (c ∷ []) [] (c ∷ []) (Woven.old c [] [] [] Woven.none))

apart : x_is_x ≡ x_below_3 → ⊥
apart same = cc

pub not_turned : Woven (x_is_x ∷ x_below_3 ∷ []) [] (x_below_3 ∷ x_is_x ∷ []) → ⊥
not_turned woven = starts (x_is_x ∷ x_below_3 ∷ []) [] (x_below_3 ∷ x_is_x ∷ []) refl refl refl woven
  where
    starts : (olds news whole : List Arithmetic) → olds ≡ x_is_x ∷ x_below_3 ∷ [] → news ≡ [] → whole ≡ x_below_3 ∷ x_is_x ∷ [] → Woven olds news whole → ⊥
    starts olds news whole old new all Woven.none = cc
    starts olds news whole old new all (Woven.old a rest others back later) =
        let one : a ≡ x_is_x = cc in
        let other : a ≡ x_below_3 = cc in
        apart (sym one ∙ other)
    starts olds news whole old new all (Woven.new a rest others back later) = cc

-- ---- p(1). p(2). q(2). q(3). ?- p(X), q(X). The one answer is by clause 2, and so no outcome of the key [2] is missing there.
pub covers : Covers by_two (2 ∷ [])
covers = reached_covers fails 10 (2 ∷ []) by_two other_reached

-- Under the empty key it is missing by clause 1.
pub covers_not : Covers by_one [] → ⊥
covers_not all =
    let outcome : HasOutcome fails_answer = (equations fails_answer, [], tt, Closes.waiting (equations fails_answer) [] tt, (all_are 2, (refl, (refl, tt)))) in
    let above = all fails_answer outcome (2 ∷ 3 ∷ [], refl) in
    let at = below_agrees above (0 ∷ []) 1 (inl (refl, refl)) in
    elim at [
      | inl is ↦ different 1 2 (omega arith) is.1
      | inr later ↦ elim later [ inl is ↦ (let items : zero ≡ suc zero = cc in omega arith) | inr n ↦ n ]
    ]
