-- What a branch keeps whose row is part of the one that has all frames of its tree.
use Rattle.std.specs.Prelude.{ℕ, ◌≡◌, false, List, map, length, Contains}
use Rattle.and_model.specs.Programs.{clause_weight}
use Rattle.and_model.specs.Trees.{QueryTree, weight}
use Rattle.and_model.specs.Reductions.{Reduction}
use Rattle.and_model.specs.Stands.{Framed}
use Rattle.and_model.specs.Store.{Frame}
use Rattle.and_model.specs.declared.reference.Ref.{Ref}
use Rattle.and_cells.specs.Ranges.{NamedProgram}
use Rattle.and_cells.specs.Seen.{word_at, Grows}
use Rattle.and_branch_laws.specs.Views.{View}
use Rattle.and_branch_laws.specs.Kept.{goal_of, calls_kept, arithmetic_kept, Kept}
use Rattle.and_moved_laws.specs.Parts.{IsPartOf, framed_moved}
use Rattle.and_moved_laws.specs.KeptFrames.{Fill, frame_of_goal, NamesFrames, MovesWhole}

-- PartKept P rs frames part kept tree: some row, which is only imagined, is that of a branch that keeps these goals,
-- and the part is part of it.
pub record PartKept (P : NamedProgram) (rs : List Reduction) (frames : List Frame) (part : List Ref)
    (kept : List Framed) (tree : QueryTree P.program) : Type 0 where
  pub at : ℕ → ℕ
  pub whole : List Ref
  pub is_part : IsPartOf P at part whole
  pub keeps : Kept P rs whole (map (framed_moved at) kept) tree
  -- The frames fill the part, whose words name what lies in them, and each of them was moved whole.
  pub fill : Fill 0 frames (length part)
  pub names : NamesFrames P frames part
  pub moves : (f : Frame) → Contains frames f → MovesWhole at f
  -- The query's frame, which stays where it is, is one of them, and so is that of each goal.
  pub stays : at 0 ≡ 0
  pub query : Contains frames (record { base = 0; weight = clause_weight P.program.query })
  pub framed : (f : Framed) → Contains kept f → Contains frames (frame_of_goal P f.goal)

-- The whole row grew beside the part: each place of the part is where it was, what was set stays, and of the words that
-- are not the part's none was set. (So a step of a branch leaves it.)
pub record GrewBeside (at later_at : ℕ → ℕ) (whole later : List Ref) : Type 0 where
  pub stays : later_at ≡ at
  pub grows : Grows whole later
  pub others : (p : ℕ) → ((c : ℕ) → at c ≡ p → ⊥) → word_at later p ≡ word_at whole p

-- the goal in the frame at the base
abbrev pub framed_at : (base : ℕ) → Framed → Framed
framed_at base f = record {
  goal = record { node = f.goal.node; item = f.goal.item; clause = f.goal.clause; base = base };
  frame = f.frame;
}

-- A view of a branch that keeps this.
pub record PartKeptIn (P : NamedProgram) (v : View) (tree : QueryTree P.program) : Type 0 where
  pub frames : List Frame
  pub kept : List Framed
  pub keeps : PartKept P v.reductions frames v.row kept tree
  pub goals : map goal_of (calls_kept P.program kept) ≡ v.goals
  pub waiting : map goal_of (arithmetic_kept P.program kept) ≡ v.waiting
  pub used : weight tree ≡ v.used
  pub live : v.is_failed ≡ false
