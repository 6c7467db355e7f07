-- With what a branch ends, as it was told.
use Rattle.std.proofs.Common.{ℕ, ◌≡◌, Bool, true, false, List, sym}
use Rattle.and_model.specs.Lines.{Bytes}
use Rattle.and_model.specs.Listing.{Ends}
use Rattle.and_model.specs.Trees.{QueryTree, IsWhole, code}
use Rattle.and_cells.specs.Ranges.{NamedProgram}
use Rattle.and_branch.specs.Branches.{Held, IsBranchOf}
use Rattle.and_branch.specs.Ended.{IsLineOf, EndsSo}
use Rattle.and_answers.specs.Kept.{outcome_with}

module _ (P : NamedProgram) where
  -- The line and the code of a branch are those with which its tree ends.
  pub told_ends : (b : Held) (is_floundered : Bool) (cs : List ℕ) (text : Bytes)
      → ((t : QueryTree P.program) → IsBranchOf P b t → IsWhole t → cs ≡ code t)
      → ((t : QueryTree P.program) → IsBranchOf P b t → IsLineOf P b t text)
      → ((t : QueryTree P.program) → IsBranchOf P b t → EndsSo P b t is_floundered)
      → (t : QueryTree P.program) → IsBranchOf P b t → (code t ≡ cs) × Ends t (outcome_with is_floundered text)
  told_ends b true cs text codes line state t branch =
      let e = (line t branch).flounders (state t branch) in
      (sym (codes t branch e.0), e)
  told_ends b false cs text codes line state t branch =
      let e = (line t branch).answers (state t branch) in
      (sym (codes t branch e.0), e)
