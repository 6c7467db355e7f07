use Rattle.std.proofs.Common.{sym, ◌∙◌, w64, FitsSigned, rules}
use Rattle.std.proofs.lemmas.Int.{ints, to_z-of_z}
use Rattle.and_cells.specs.Parts.{named}
use Rattle.and_unify.proofs.MeetingHeads.{node_number}
use Rattle.and_heads.proofs.parts.head_of.Goals as goal

pub returns-in-Number : goal.returns-in-Number
returns-in-Number c =
    let fits : FitsSigned w64 c.in-Number.value = search (rules, ints) in
    λ s base. node_number (named c.args.loaded.now) s c.args.node base _ c.in-Number.value (to_z-of_z w64 c.in-Number.value fits)
    (sym c.in-Number.is ∙ c.kind.ensures.term)
