-- p(X) :- ((q(X) ; r) ; X = Y). ?- (p(Z) ; true). q(1).
use Rattle.std.proofs.Common.{ℕ, zero, suc, ◌≡◌, List, [], ◌∷◌, refl, codes}
use Rattle.std.specs.Fmt.{digits}
use Rattle.and_model.specs.Programs.{own_name}
use Rattle.and_model.specs.Terms.{Path, Term, variable, compound, none, more, Substitution, apply}
use Rattle.and_model.specs.Solutions.{Equation, Solves, MostGeneral}
use Rattle.and_model.specs.Closure.{Closes}
use Rattle.and_model.specs.Listing.{answer}
use Rattle.and_source.specs.SourceListing.{SourceEnds}
use Rattle.and_lifting.specs.Trials.{own, whole, nested_text, SourceCodeEnds}
use Rattle.and_lifting.proofs.TrialSteps.{at}

-- the variable of the clause that takes the query's call
abbrev inner : Term
inner = variable (0 ∷ 0 ∷ []) 0

abbrev proof : List ℕ
proof = 6 ∷ 1 ∷ 2 ∷ 3 ∷ 8 ∷ []

abbrev taken : List Equation
taken = (compound (own_name 1) (more inner none), compound (own_name 1) (more (whole 1) none))
    ∷ (compound (own_name 0) (more (own 0) none), compound (own_name 0) (more inner none)) ∷ []

abbrev both_one : Substitution
both_one [] zero = whole 1
both_one [] (suc k) = variable [] (suc k)
both_one (zero ∷ zero ∷ []) zero = whole 1
both_one (zero ∷ zero ∷ []) (suc k) = variable (zero ∷ zero ∷ []) (suc k)
both_one (zero ∷ []) k = variable (zero ∷ []) k
both_one (zero ∷ zero ∷ i ∷ r) k = variable (zero ∷ zero ∷ i ∷ r) k
both_one (zero ∷ suc i ∷ r) k = variable (zero ∷ suc i ∷ r) k
both_one (suc i ∷ r) k = variable (suc i ∷ r) k

general : MostGeneral both_one taken
general = ((refl, (refl, tt)), through)
  where
    through : (t : Substitution) → Solves t taken → (r : Path) (k : ℕ) → t r k ≡ apply t (both_one r k)
    through t h [] zero = let e = h.0 in let f = h.1.0 in cc
    through t h [] (suc k) = refl
    through t h (zero ∷ zero ∷ []) zero = let e = h.0 in cc
    through t h (zero ∷ zero ∷ []) (suc k) = refl
    through t h (zero ∷ []) k = refl
    through t h (zero ∷ zero ∷ i ∷ r) k = refl
    through t h (zero ∷ suc i ∷ r) k = refl
    through t h (suc i ∷ r) k = refl

proof_ends : SourceEnds nested_text (at nested_text proof) (answer (codes "Z = 1"))
unfolding digits
proof_ends = (refl, taken, [], Closes.waiting taken [] tt, both_one, general, refl)

pub ends : SourceCodeEnds nested_text proof (answer (codes "Z = 1"))
ends = (at nested_text proof, refl, proof_ends)
