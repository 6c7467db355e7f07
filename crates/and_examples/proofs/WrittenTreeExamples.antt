-- Trees that are written down: what is decided in them, and where something is cut off.
use Rattle.std.proofs.Common.{zero, suc, ◌≡◌, List, [], ◌∷◌, refl, sym, ap, ◌∙◌, inl, inr, arith}
use Rattle.std.specs.Prelude.{Contains}
use Rattle.and_model.specs.Programs.{clause_weight}
use Rattle.and_model.specs.Limits.{query_alone, at_goal}
use Rattle.and_model.specs.Reductions.{Reduction, PlaceHas, Makes}
use Rattle.and_model.proofs.Tested.{none_in}
use Rattle.and_laws.proofs.Ordered.{contains_cases}
use Rattle.and_branch_laws.specs.States.{IsCut}
use Rattle.and_branch_laws.specs.Visits.{at_query, onward, into, TakesItem, Decides}
use Rattle.and_examples.specs.ReachedExamples.{early, by_three, by_two, p, q, x}
use Rattle.and_examples.specs.LimitExamples.{naturals, at_least_0, at_least_1, at_least_2}
use Rattle.and_examples.specs.WrittenTreeExamples.{twice, innermost, no_goal}

-- ---- p(1). p(2). q(2). ?- p(X), q(X). The first call was taken by clause 2 and the second by clause 3, which was the first to be reduced.
abbrev both : List Reduction
both = by_three ∷ by_two ∷ []

pub decided : Decides early both (at_query ∷ []) (2 ∷ 3 ∷ [])
decided =
    Decides.taken at_query [] (3 ∷ []) (p x) by_two refl (1, omega arith, refl) (refl, refl)
    (Decides.past (into by_two) (onward at_query ∷ []) (3 ∷ []) (omega arith)
    (Decides.taken (onward at_query) [] [] (q x) by_three refl (0, omega arith, refl) (refl, refl)
    (Decides.past (into by_three) (onward (onward at_query) ∷ []) [] (omega arith)
    (Decides.past (onward (onward at_query)) [] [] (omega arith) Decides.ended))))

-- As long as the first call is open, nothing is decided.
first_open : (r : Reduction) → Contains (by_three ∷ []) r → TakesItem r at_query → ⊥
first_open r among takes = elim (contains_cases by_three r [] among) [
  | inl is ↦ (let item : suc zero ≡ zero = sym (ap (λ (r : Reduction). r.item) is) ∙ takes.1 in omega arith)
  | inr elsewhere ↦ none_in r elsewhere
]

pub nothing_decided : Decides early (by_three ∷ []) (at_query ∷ []) []
nothing_decided = Decides.not_taken at_query [] (p x) refl first_open

-- ---- nat(z). nat(s(N)) :- nat(N). ?- nat(X).
once : Makes naturals (record { parent = 0; item = 0; clause = 2; node = 2 } ∷ []) at_least_1
unfolding clause_weight
once =
    Makes.one_more [] [] (record { parent = 0; item = 0; clause = 2; node = 2 } ∷ []) at_least_0 (record { parent = 0; item = 0; clause = 2; node = 2 })
    (inl tt) refl Makes.none ([], PlaceHas.query, refl) refl refl

first_place : (rs : List Reduction) → Contains rs (record { parent = 0; item = 0; clause = 2; node = 2 }) → PlaceHas rs 2 (0 ∷ [])
first_place rs among = PlaceHas.reduced (record { parent = 0; item = 0; clause = 2; node = 2 }) [] among PlaceHas.query

made : Makes naturals twice at_least_2
unfolding clause_weight
made =
    Makes.one_more (record { parent = 0; item = 0; clause = 2; node = 2 } ∷ []) [] twice at_least_1 (record { parent = 2; item = 0; clause = 2; node = 4 })
    (inl tt) refl once (0 ∷ [], first_place (record { parent = 0; item = 0; clause = 2; node = 2 } ∷ []) (0, omega arith, refl), refl) refl refl

pub cut_at_goal : IsCut twice innermost 1 (at_goal at_least_2 (inl tt) 1)
cut_at_goal = (
  made,
  refl,
  0 ∷ 0 ∷ [],
  PlaceHas.reduced (record { parent = 2; item = 0; clause = 2; node = 4 }) (0 ∷ []) (1, omega arith, refl) (first_place twice (0, omega arith, refl)),
  inr (record { parent = 2; item = 0; clause = 2; node = 4 }, (1, omega arith, refl), refl, refl),
  refl,
)

-- A query that is too heavy by itself is told so.
pub cut_alone : IsCut {P = naturals} [] no_goal 0 query_alone
cut_alone = (refl, refl, refl)
