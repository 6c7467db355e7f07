-- Where no arithmetic of a part reads as ground terms, what was solved is the tree's closure.
use Rattle.std.proofs.Common.{ℕ, ◌≡◌, List, [], ◌∷◌, ◌++◌, map, ap, ◌∙◌, Contains}
use Rattle.and_model.specs.Solutions.{Equation, Entails}
use Rattle.and_model.specs.Programs.{Arithmetic}
use Rattle.and_model.specs.Trees.{QueryTree, Open, path, Closed}
use Rattle.and_model.specs.Reached.{CandidateOf, Shut}
use Rattle.and_model.specs.Reductions.{Reduction}
use Rattle.and_model.specs.Stands.{Framed}
use Rattle.and_model.specs.Store.{Frame}
use Rattle.and_model.specs.declared.reference.Ref.{Ref}
use Rattle.and_cells.specs.Ranges.{NamedProgram}
use Rattle.and_cell_laws.proofs.Images.{contains_image}
use Rattle.and_branch_laws.specs.OwnVariables.{IsLoaded}
use Rattle.and_branch_laws.specs.Tasks.{arithmetic_among}
use Rattle.and_branch_laws.specs.Kept.{task_of, IsCall}
use Rattle.and_branch_laws.specs.Judging.{CandidateInCells, NoneIsGround, EachHasTwo}
use Rattle.and_branch_laws.proofs.Judging
use Rattle.and_moved_laws.specs.Parts.{framed_moved}
use Rattle.and_moved_laws.specs.KeptParts.{PartKept}
use Rattle.and_moved_laws.proofs.MovedGoals.{tasks_same, call_there}
use Rattle.and_moved_laws.proofs.States.{there, here, none_there, each_two}

module _ (P : NamedProgram) (loaded : IsLoaded P) (rs : List Reduction) (frames : List Frame) (part : List Ref) (kept : List Framed)
    (tree : QueryTree P.program) (k : PartKept P rs frames part kept tree) where
  abbrev M : List Framed
  M = map (framed_moved k.at) kept

  none_whole : NoneIsGround P part kept → NoneIsGround P k.whole (map (framed_moved k.at) kept)
  none_whole none_is = none_there P loaded rs frames part kept tree k none_is

  pub closed_is : NoneIsGround P part kept → (es : List Equation) (gs : List Arithmetic) → Closed tree es gs
      → Entails es k.keeps.solved × Entails k.keeps.solved es × (gs ≡ arithmetic_among (map (task_of P.program) kept))
  closed_is none_is es gs closed =
      let (one, other, waits) = Judging.closed_is P loaded rs k.whole M tree k.keeps (none_whole none_is) es gs closed in
      (one, other, waits ∙ ap arithmetic_among (tasks_same P.program k.at kept))

  -- So an open goal's candidates are those in the part.
  module _ (es : List Equation) (gs : List Arithmetic) (closed : Closed tree es gs) (f : Framed) (h : Contains kept f) (called : IsCall P.program f)
      (o : Open tree) (path_is : path tree o ≡ f.frame ++ f.goal.item ∷ []) (c : ℕ) where
    pub candidate_in_tree : NoneIsGround P part kept → CandidateInCells P part f.goal c → CandidateOf tree es o c
    candidate_in_tree none_is x =
        Judging.candidate_in_tree P loaded rs k.whole M tree k.keeps (none_whole none_is) es gs closed (framed_moved k.at f)
        (contains_image (framed_moved k.at) kept f h) (call_there P.program k.at f called) o path_is c
        (there P loaded rs frames part kept tree k f h c x)

    pub candidate_of_cells : CandidateOf tree es o c → CandidateInCells P part f.goal c
    candidate_of_cells x =
        here P loaded rs frames part kept tree k f h c
        (Judging.candidate_of_cells P loaded rs k.whole M tree k.keeps es gs closed (framed_moved k.at f)
        (contains_image (framed_moved k.at) kept f h) (call_there P.program k.at f called) o path_is c x)

  pub tree_shut : NoneIsGround P part kept → EachHasTwo P part kept → Shut tree
  tree_shut none_is each =
      Judging.tree_shut P loaded rs k.whole M tree k.keeps (none_whole none_is) (each_two P loaded rs frames part kept tree k each)
