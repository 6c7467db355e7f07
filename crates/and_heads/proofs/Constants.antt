-- Nodes from which no path goes on.
use Rattle.std.proofs.Common.{ℕ, ◌≡◌, List, length, refl, sym, ap, subst, ◌∙◌, false, arith}
use Rattle.and_model.specs.declared.numbers.NameNo.{NameNo}
use Rattle.and_model.specs.declared.numbers.NodeNo.{NodeNo}
use Rattle.and_model.specs.declared.reference.Ref.{Ref}
use Rattle.and_model.specs.declared.reference.Ref.TheVariants.{Node}
use Rattle.and_program.specs.declared.node.NodeKind.TheVariants as kind
use Rattle.and_program.specs.Loaded.{shape_at, arguments_at}
use Rattle.and_program.specs.Shown.{shown, resolved, arguments_in}
use Rattle.and_program.specs.Skeletons as skeletons
use Rattle.and_program.specs.Skeletons.{Shape}
use Rattle.and_cells.specs.Ranges.{NamedProgram}
use Rattle.and_cells.specs.Parts.{part_at}
use Rattle.and_cells.specs.Ends.{Ends}
use Rattle.and_circles.proofs.Sufficing.{structure_ends}

module _ (P : NamedProgram) (node : NodeNo) (row : List Ref) (floor base : ℕ) where
  -- From a node without arguments no path goes on,
  pub bare_ends : length (arguments_at P.skeleton node.0) ≡ 0 → Ends P row floor false (Node node base)
  bare_ends none = structure_ends P row node base floor (λ place below. absurd (omega (arith, none, below)))

  found_ends : (s : Shape) → shape_at P.skeleton node.0 ≡ s → resolved s node base ≡ Node node base → length (arguments_in s) ≡ 0
      → Ends P row floor false (part_at P base node.0)
  found_ends s at is none =
      subst (Ends P row floor false) (sym (ap (λ (x : Shape). resolved x node base) at ∙ is))
      (bare_ends (ap (λ (x : Shape). length (arguments_in x)) at ∙ none))

  -- be it a number
  pub number_ends : (z : _) (s : Shape) → shape_at P.skeleton node.0 ≡ s → kind.Number z ≡ shown s → Ends P row floor false (part_at P base node.0)
  number_ends z (skeletons.variable k) at is = absurd cc
  number_ends z (skeletons.number y) at is = found_ends (skeletons.number y) at refl refl
  number_ends z (skeletons.compound d ns) at is = absurd cc

  -- or a name.
  pub name_ends : (name : NameNo) (count : ℕ) (s : Shape) → count ≡ 0 → shape_at P.skeleton node.0 ≡ s → kind.Compound name count ≡ shown s
      → Ends P row floor false (part_at P base node.0)
  name_ends name count (skeletons.variable k) none at is = absurd cc
  name_ends name count (skeletons.number y) none at is = absurd cc
  name_ends name count (skeletons.compound d ns) none at is =
      let many : count ≡ length ns = cc in
      found_ends (skeletons.compound d ns) at refl (sym many ∙ none)
