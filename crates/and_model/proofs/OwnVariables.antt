-- Own variables of terms: among more of them, and of arguments.
use Rattle.std.proofs.Common.{ℕ, ◌≤◌, List, [], ◌∷◌, ◌++◌, arith}
use Rattle.std.specs.Prelude.{All}
use Rattle.std.proofs.lemmas.List.Elements.{All-nil, All-cons, All-head, All-tail, All-weaker}
use Rattle.and_model.specs.Terms.{Term, Terms, more, variables_of, variables_in}
use Rattle.and_model.specs.OwnVariables.{IsOwn, AreOwn}

-- what holds of all of two lists holds of each
pub All-front : {X : Type 0} (P : X → Type 0) (xs ys : List X) → All P (xs ++ ys) → All P xs
All-front P [] ys all = All-nil P
All-front P (x ∷ xs) ys all = All-cons P x xs (All-head P x (xs ++ ys) all) (All-front P xs ys (All-tail P x (xs ++ ys) all))

pub All-back : {X : Type 0} (P : X → Type 0) (xs ys : List X) → All P (xs ++ ys) → All P ys
All-back P [] ys all = all
All-back P (x ∷ xs) ys all = All-back P xs ys (All-tail P x (xs ++ ys) all)

-- a clause with more variables
pub more_own : (n m : ℕ) (t : Term) → n ≤ m → AreOwn n t → AreOwn m t
more_own n m t le own = All-weaker (IsOwn n) (IsOwn m) (λ v o. (o.0, omega (arith, o.1))) (variables_of t) own

-- the first of several terms, and the others
pub first_own : (n : ℕ) (t : Term) (ts : Terms) → All (IsOwn n) (variables_in (more t ts)) → AreOwn n t
first_own n t ts own = All-front (IsOwn n) (variables_of t) (variables_in ts) own

pub others_own : (n : ℕ) (t : Term) (ts : Terms) → All (IsOwn n) (variables_in (more t ts)) → All (IsOwn n) (variables_in ts)
others_own n t ts own = All-back (IsOwn n) (variables_of t) (variables_in ts) own
