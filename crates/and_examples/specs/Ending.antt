-- What the definitions say of the proof that has a code.
use Rattle.std.specs.Prelude.{ℕ, ◌≡◌, List, [], Some}
use Rattle.and_model.specs.Solutions.{Equation}
use Rattle.and_model.specs.Programs.{Program}
use Rattle.and_model.specs.Trees.{QueryTree, unfold_code, equations, weight, blank, query_agenda}
use Rattle.and_model.specs.Listing.{Outcome, Ends, Entry}
use Rattle.and_model.specs.Reached.{Fork, Forks}

-- the code unfolds to a tree of these equations and this weight
abbrev pub UnfoldsTo : Program → List ℕ → List Equation → ℕ → Type 0
UnfoldsTo P cs es n = (t : QueryTree P) × (unfold_code P cs ≡ Some t) × (equations t ≡ es) × (weight t ≡ n)

-- the code unfolds to a tree that ends with this outcome
abbrev pub CodeEnds : Program → List ℕ → Outcome → Type 0
CodeEnds P cs o = (t : QueryTree P) × (unfold_code P cs ≡ Some t) × Ends t o

abbrev pub entry : List ℕ → Outcome → Entry
entry cs o = record { code = cs; outcome = o }

-- These are the forks of the search, in textual order.
abbrev pub SearchForks : Program → List Fork → Type 0
SearchForks P forks = Forks {P = P} (blank {P = P} (query_agenda P)) [] forks
