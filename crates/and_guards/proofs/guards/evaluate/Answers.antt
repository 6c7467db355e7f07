use Rattle.std.proofs.Common.{rules, ℕ, ◌≡◌, [], length, Some, refl, sym, ap, ◌∙◌, subst, w64}
use Rattle.std.specs.Prelude.{FitsSigned}
use Rattle.std.proofs.lemmas.Int.{ints, to_z-of_z}
use Rattle.std.proofs.lemmas.List.Elements.{All-head}
use Rattle.and_model.specs.declared.reference.Ref.TheVariants.{Free}
use Rattle.and_program.specs.Skeletons.{node_term}
use Rattle.and_cells.specs.Ranges.{IsInRange}
use Rattle.and_cells.specs.Rows.{plain}
use Rattle.and_cells.specs.Seen.{word_at}
use Rattle.and_value_laws.specs.Values.{HasValue, LacksValue, IsFirstFree}
use Rattle.and_guards.proofs.Held.{read_later}
use Rattle.and_branch_laws.proofs.Resolved.{part_in_range}
use Rattle.and_branch_laws.proofs.Loading.{resolved_is, falls_in}
use Rattle.and_branch_laws.proofs.Valuing.{number_side, no_value_side, waiting_side, waiting_variable}
use Rattle.and_guards.proofs.guards.evaluate.Goals as goal

pub value_of-requires-clause-in_range : goal.value_of-requires-clause-in_range
value_of-requires-clause-in_range g c =
    let P = g.N.Naming.program in
    let fall = falls_in P c.args.loaded.now c.requires.program c.skeleton_is_of_the_program.ensures.skeleton.0 in
    let is = resolved_is P c.args.loaded.now c.args.node c.args.base c.resolve.result c.requires.program c.resolve.ensures in
    subst (IsInRange P (length c.args.cells.now)) (sym is)
    (part_in_range P (length c.args.cells.now) c.args.node.0 c.args.base fall c.requires.node.in_range)

pub returns-in-Number-clause-side : goal.returns-in-Number-clause-side
returns-in-Number-clause-side g c =
    let P = g.N.Naming.program in
    let row = c.args.cells.now in
    let z = c.in-Number.number in
    let fall = falls_in P c.args.loaded.now c.requires.program c.skeleton_is_of_the_program.ensures.skeleton.0 in
    let is = resolved_is P c.args.loaded.now c.args.node c.args.base c.resolve.result c.requires.program c.resolve.ensures in
    let found = number_side P fall row c.len-words.ensures.sound c.args.base c.args.node.0 c.requires.node c.requires.settled z
    (subst (λ r. HasValue P (plain row) r z) is (c.in-Number.ensures.number z refl)) in
    let fits : FitsSigned w64 z = search (rules, ints) in
    (found.0, found.1, found.2, found.3 ∙ ap (λ y. Some y) (sym (to_z-of_z w64 z fits)))

pub returns-in-NoValue-clause-side : goal.returns-in-NoValue-clause-side
returns-in-NoValue-clause-side g c =
    let P = g.N.Naming.program in
    let row = c.args.cells.now in
    let fall = falls_in P c.args.loaded.now c.requires.program c.skeleton_is_of_the_program.ensures.skeleton.0 in
    let is = resolved_is P c.args.loaded.now c.args.node c.args.base c.resolve.result c.requires.program c.resolve.ensures in
    no_value_side P fall row c.len-words.ensures.sound c.args.base c.args.node.0 c.requires.node c.requires.settled
    (subst (LacksValue P (plain row)) is (c.in-NoValue.ensures.no_value refl))

pub returns-in-Waits-clause-side : goal.returns-in-Waits-clause-side
returns-in-Waits-clause-side g c =
    let P = g.N.Naming.program in
    let row = c.args.cells.now in
    let fall = falls_in P c.args.loaded.now c.requires.program c.skeleton_is_of_the_program.ensures.skeleton.0 in
    let is = resolved_is P c.args.loaded.now c.args.node c.args.base c.resolve.result c.requires.program c.resolve.ensures in
    let sound = c.len-words.ensures.sound in
    let base = c.args.base in
    let node = c.args.node.0 in
    let cell = c.in-Waits.cell in
    let first = subst (λ r. IsFirstFree P (plain row) r cell) is (c.in-Waits.ensures.waits cell refl).2 in
    let found = waiting_variable P fall row sound base node c.requires.node c.requires.settled cell first in (
      waiting_side P fall row sound base node c.requires.node c.requires.settled cell first,
      λ later grows later_sound free u read ground.
          read_later P row later grows base cell (node_term P.skeleton.nodes node) found.0 found.1 found.2
          (All-head (λ (n : ℕ). word_at later n ≡ Free) cell [] free) u read ground,
    )
