-- What the copying of terms works on.
use Rattle.std.specs.Prelude.{ℕ, ◌≡◌, ◌<◌, List, [], ◌∷◌, ◌++◌, map, length, take, Option}
use Rattle.std.specs.Prelude.{Some, None, slice_get, ◌⊎◌}
use Rattle.std.specs.Borrow.{Bor}
use Rattle.and_model.specs.Lines.{Bytes, place_of}
use Rattle.and_model.specs.Terms.{Term}
use Rattle.and_model.specs.declared.numbers.NodeNo.{NodeNo}
use Rattle.and_model.specs.declared.numbers.NameNo.{NameNo}
use Rattle.and_source.specs.Lifted.{Numbering}
use Rattle.and_syntax.specs.Written.{place}
use Rattle.and_program.specs.Skeletons
use Rattle.and_program.specs.Skeletons.{Shape, node_term}
use Rattle.and_clauses.specs.Copied.{Task, term, name}
use Rattle.and_judging.specs.Outlined.{Named}
use Rattle.and_judging.specs.Sorts.{own}
use Rattle.and_drafts.specs.declared.draft.DraftPart.{DraftPart}
use Rattle.and_drafts.specs.declared.draft.DraftPart.TheVariants.{Variable, Integer, Compound}
use Rattle.and_clauses.specs.declared.lifting.Copying.{Copying}
use Rattle.and_clauses.specs.declared.lifting.Copying.TheVariants.{Term as TermTask, Name as NameTask}
use Rattle.and_judging.specs.declared.sorting.Disjunction.{Disjunction}

-- new numbers for variables: as in the clause itself, or by their places in a disjunction
abbrev pub numbering_at : Option (Bor (List ℕ)) → Numbering
numbering_at None q k = k
numbering_at (Some vs) q k = place_of (q, k) (own vs.now)

abbrev pub task_in : Copying → Task
task_in (TermTask n) = term n
task_in (NameTask c k) = name c.0 k

abbrev pub tasks_in : List Copying → List Task
tasks_in ts = map task_in ts

abbrev pub numbers_in : List NodeNo → List ℕ
numbers_in ns = map (λ n. n.0) ns

-- the disjunctions with the numbers of their names
abbrev pub named_by : List Disjunction → List NameNo → List Named
named_by [] ns = []
named_by (d ∷ ds) [] = []
named_by (d ∷ ds) (n ∷ ns) = record { name = n.0; variables = own d.variables.items } ∷ named_by ds ns

-- A node of that shape was put behind the others, or one of them is taken again.
abbrev pub IsPut : (us vs : List Shape) → Shape → ℕ → Type 0
IsPut us vs s n = ((vs ≡ us ++ s ∷ []) × (n ≡ length us)) ⊎ ((vs ≡ us) × (slice_get us n ≡ Some s))

-- So it is, and its node is the last of those that were copied.
pub record IsPutLast (us vs : List Shape) (s : Shape) (fs gs : List ℕ) : Type 0 where
  pub node : ℕ
  pub put : IsPut us vs s node
  pub last : gs ≡ fs ++ node ∷ []

-- What the copying of a part does: its node is there, or its arguments come next, and then its name.
abbrev pub Copies : List Bytes → Numbering → DraftPart
    → (us vs : List Shape) (fs gs : List ℕ) (ts rs : List Task) → Type 0
Copies names new (Variable x k) us vs fs gs ts rs =
    IsPutLast us vs (Skeletons.variable (new [] k)) fs gs × (rs ≡ ts)
Copies names new (Integer z) us vs fs gs ts rs =
    (vs ≡ us ++ Skeletons.number z ∷ []) × (gs ≡ fs ++ length us ∷ []) × (rs ≡ ts)
Copies names new (Compound c ns) us vs fs gs ts rs =
    (vs ≡ us) × (gs ≡ fs) × (rs ≡ map term ns.items ++ name (place c names) (length ns.items) ∷ ts)

-- the node is there and has that term
abbrev pub IsNode : List Shape → ℕ → Term → Type 0
IsNode us n t = (n < length us) × (node_term us n ≡ t)

-- the one nodes stand before the others
abbrev pub Begins : List Shape → List Shape → Type 0
Begins us vs = take (length us) vs ≡ us
