-- What a phase leaves of a branch.
use Rattle.std.specs.Prelude.{◌≤◌, ◌≡◌, true, false, List, ◌++◌, map, length}
use Rattle.and_model.specs.Trees.{QueryTree, weight}
use Rattle.and_model.specs.Reached.{Dead, Steps}
use Rattle.and_model.specs.Reductions.{Reduction, Makes}
use Rattle.and_model.specs.Stands.{Framed}
use Rattle.and_cells.specs.Ranges.{NamedProgram}
use Rattle.and_cells.specs.Rows.{plain}
use Rattle.and_cells.specs.Seen.{word_at}
use Rattle.and_unify.specs.Pairs.{AreInRange, AreWritten, equations_of_pairs}
use Rattle.and_code.specs.Written.{all_written}
use Rattle.and_branch_laws.specs.Kept.{Unsettled, goal_of}
use Rattle.and_branch_parts.specs.Branches.{IsBranchOf}
use Rattle.and_branch.specs.Parts.{held_of}
use Rattle.and_branch.specs.declared.parts.Parts.{Parts}
use Rattle.and_branch.specs.declared.rebuilding.Worked.{Worked}

-- the reductions of the branch that was taken apart, and those that were made
abbrev pub reductions_of : {N : Type 0} → Parts N → Worked N → List Reduction
reductions_of parts w = all_written parts.reductions ++ all_written w.made

-- The goals and cells that are left are those of the tree, but that the cells are still to be settled with the pairs.
-- The goals are the tree's calls that are open, and its arithmetic that was not run, in preorder; the cells have a
-- frame for each clause of the tree, which begins at the number of the clause's place; and with the tree's variables
-- named by their cells, the set words and the pairs state the tree's equations with those of the arithmetic that was
-- run, and nothing else.
pub record IsLeft {N : Type 0} (P : NamedProgram) (parts : Parts N) (w : Worked N)
    (u : QueryTree P.program) : Type 0 where
  pub kept : List Framed
  pub goals : map goal_of kept ≡ w.goals.items
  pub unsettled : Unsettled P (reductions_of parts w) w.cells (equations_of_pairs P (word_at w.cells) w.pairs) kept u
  -- Unification can be asked for the pairs.
  pub in_range : AreInRange P (length w.cells) w.pairs
  pub written : AreWritten (plain w.cells) w.pairs

-- IsWorked P parts w t u: the parts are of a branch that stands for the tree t, and what was made of it led by Steps
-- to the tree u, within the limit. Where it was found dead, it is; else what is left is that tree's.
pub record IsWorked {N : Type 0} (P : NamedProgram) (parts : Parts N) (w : Worked N)
    (t u : QueryTree P.program) : Type 0 where
  pub branch : IsBranchOf P (held_of parts) t
  pub made : Makes P.program (reductions_of parts w) u
  pub steps : Steps t u
  pub fits : weight u ≤ parts.limit
  pub dead : w.failed ≡ true → Dead u
  pub left : w.failed ≡ false → IsLeft P parts w u
