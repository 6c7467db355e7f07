-- Readings of the definitions that do not hold: clause numbers that name no clause, and a query that is counted twice.
use Rattle.std.proofs.Common.{ℕ, ◌<◌, List, [], ◌∷◌, refl, inl, arith, codes, length}
use Rattle.and_model.specs.Terms.{Path, Term, variable, Substitution}
use Rattle.and_model.specs.Solutions.{Equation}
use Rattle.and_model.specs.Programs.{Program, clause_weight}
use Rattle.and_model.specs.Closure.{Closes}
use Rattle.and_model.specs.Candidates.{Candidate}
use Rattle.and_model.specs.Trees.{QueryTree, done}
use Rattle.and_model.specs.Listing.{Ends, answer, Listing, answered, of_query, too_heavy}
use Rattle.and_model.specs.Output.{OverLeft}
use Rattle.and_laws.proofs.Deciding.{of_bounds}
use Rattle.and_laws.proofs.Listings.{one_listing}
use Rattle.and_examples.specs.Ending.{entry}
use Rattle.and_examples.specs.Texts.{lightest, next_lightest}

pub clause_zero : (P : Program) (es : List Equation) (q : Path) (goal : Term) → Candidate P es q goal 0 → ⊥
clause_zero P es q goal k = let b = (of_bounds P goal 0 k.0).0 in omega arith

pub past_the_end : (P : Program) (es : List Equation) (q : Path) (goal : Term) (c : ℕ) → length P.clauses < c → Candidate P es q goal c → ⊥
past_the_end P es q goal c past k = let b = (of_bounds P goal c k.0).1 in omega arith

-- ?- true. has nothing to do.
abbrev nothing_to_do : QueryTree lightest
nothing_to_do = done

abbrev nothing_given : Substitution
nothing_given r k = variable r k

true_ends : Ends nothing_to_do (answer (codes "true"))
true_ends = (tt, [], [], Closes.waiting [] [] tt, nothing_given, (tt, λ t h r k. refl), refl)

pub lightest_listing : Listing lightest 1 (entry [] (answer (codes "true")) ∷ [])
unfolding clause_weight
lightest_listing = of_query (entry [] (answer (codes "true")) ∷ []) (omega arith) (answered nothing_to_do (answer (codes "true")) true_ends)

pub not_twice : Listing lightest 1 [] → ⊥
not_twice l = let same = one_listing lightest 1 [] (entry [] (answer (codes "true")) ∷ []) l lightest_listing in cc

-- ?- X = 1. weighs 1, and 1 for X.
pub next_lightest_listing : Listing next_lightest 1 [] × OverLeft next_lightest 1 [] 0
unfolding clause_weight
next_lightest_listing = (too_heavy (omega arith), inl (refl, refl, omega arith))
