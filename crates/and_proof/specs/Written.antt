-- What the lines of a proof are written of.
use Rattle.std.specs.Prelude.{ℕ, ◌≡◌, ◌≤◌, length, List, [], ◌∷◌, cond}
use Rattle.and_model.specs.Terms.{Path, Term, variables_of}
use Rattle.and_model.specs.Programs.{call}
use Rattle.and_model.specs.Lines.{Bytes, first_seen, begins_underscore}
use Rattle.and_model.specs.declared.reference.Ref.{Ref}
use Rattle.and_cells.specs.Ranges.{NamedProgram}
use Rattle.and_branch_laws.specs.Kept.{item_at}
use Rattle.and_print.specs.Goals.{GoalMeans}
use Rattle.and_proof.specs.Proofs.{Replaced}
use Rattle.and_proof.specs.declared.goals.Taken.{Taken}

-- The call that was replaced reads so in the row.
pub record IsCallRead (P : NamedProgram) (row : List Ref) (e : Taken) (r : Replaced) : Type 0 where
  pub means : GoalMeans P row e.call r.call
  pub term : Term
  pub is_call : item_at P.program e.call ≡ call term
  pub depth : r.depth ≡ e.depth
  pub clause : r.clause ≡ e.clause.0
  pub numbered : e.clause.0 ≤ length P.program.clauses

-- so do these, one after another
abbrev pub AreCallsRead : NamedProgram → List Ref → List Taken → List Replaced → Type 0
AreCallsRead P row [] [] = Unit {0}
AreCallsRead P row [] (r ∷ rest) = ⊥
AreCallsRead P row (e ∷ es) [] = ⊥
AreCallsRead P row (e ∷ es) (r ∷ rest) = IsCallRead P row e r × AreCallsRead P row es rest

-- the variables that have names where this term of a variable of the query comes next, if that is shown
abbrev pub named_if_shown : Bytes → (seen : List (Path × ℕ)) → Term → List (Path × ℕ)
named_if_shown name seen t = cond (begins_underscore name) seen (first_seen seen (variables_of t))
