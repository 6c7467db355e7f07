-- How the candidates of a goal are parted by their weight.
use Rattle.std.specs.Prelude.{ℕ, ◌+◌, ◌≡◌, Bool, cond, List, [], ◌∷◌, length, map, leb, Option, Some, None}
use Rattle.and_model.specs.Programs.{clause_at, clause_weight}
use Rattle.and_model.specs.declared.goal.Cut.{Cut}
use Rattle.and_model.specs.declared.goal.Goal.{Goal}
use Rattle.and_model.specs.declared.numbers.ClauseNo.{ClauseNo}
use Rattle.and_model.specs.declared.reference.Ref.{Ref}
use Rattle.and_cells.specs.Ranges.{NamedProgram}
use Rattle.and_code.specs.Written.{all_written}
use Rattle.and_branch_parts.specs.Branches.{Held}

-- the numbers of clauses
abbrev pub numbers : List ClauseNo → List ℕ
numbers cs = map (λ (c : ClauseNo). c.0) cs

-- whether the row with a frame for the clause has at most as many words as the limit
abbrev pub fits_in : NamedProgram → ℕ → List Ref → ClauseNo → Bool
fits_in P limit row c = leb (length row + clause_weight (clause_at P.program c.0)) limit

-- the first that does not pass
abbrev pub first_other : (ClauseNo → Bool) → List ClauseNo → Option ClauseNo
first_other p [] = None
first_other p (c ∷ cs) = cond (p c) (first_other p cs) (Some c)

-- the first that does not pass, with one more behind
abbrev pub with_other : Option ClauseNo → ClauseNo → (passes : Bool) → Option ClauseNo
with_other None c passes = cond passes None (Some c)
with_other (Some d) c passes = Some d

-- There is a cut where there is a clause: that of the branch, the goal and this clause.
abbrev pub HasCutBy : Held → Goal → Option ClauseNo → Option Cut → Type 0
HasCutBy b goal None None = Unit {0}
HasCutBy b goal None (Some cut) = ⊥
HasCutBy b goal (Some clause) None = ⊥
HasCutBy b goal (Some clause) (Some cut) =
    (all_written cut.partial ≡ b.reductions) × (cut.goal ≡ goal) × (cut.clause ≡ clause)
