-- What a tree says of the reductions that make it.
use Rattle.std.proofs.Common.{◌<◌, ◌≤◌, List, length, refl, inr}
use Rattle.and_model.specs.Programs.{Program}
use Rattle.and_model.specs.Trees.{QueryTree}
use Rattle.and_model.specs.Reductions.{Reduction, Makes}
use Rattle.and_model.specs.declared.goal
use Rattle.and_code.proofs.Images.{contains_image}
use Rattle.and_laws.proofs.Placing.{parent_below}
use Rattle.and_branch_laws.proofs.Lists.{all_of}
use Rattle.and_branch_laws.proofs.Pairs.{clause_bound}
use Rattle.and_code.specs.Visiting.{AreBehind, HaveClauses}
use Rattle.and_code.specs.Written.{written, all_written}

-- Their clauses are the program's.
pub clauses_named : (P : Program) (rs : List goal.Reduction.Reduction) (t : QueryTree P) → Makes P (all_written rs) t → HaveClauses P rs
clauses_named P rs t made =
    all_of (λ (r : goal.Reduction.Reduction). r.clause.0 ≤ length P.clauses) rs
    (λ r c. clause_bound P (all_written rs) t made r.node r.clause.0 (inr (written r, contains_image written rs r c, refl, refl)))

-- Each stands behind its call.
pub places_behind : (P : Program) (rs : List Reduction) (t : QueryTree P) → Makes P rs t → AreBehind rs
places_behind P rs t made = all_of (λ (r : Reduction). r.parent < r.node) rs (λ r c. parent_below P rs t made r c)
