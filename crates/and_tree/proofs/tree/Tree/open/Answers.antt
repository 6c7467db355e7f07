use Rattle.std.proofs.Common.{◌∙◌, sym, subst, List, Option}
use Rattle.atomic_table.specs.Table.{opening}
use Rattle.and_tree.specs.Kept.{Kept}
use Rattle.and_tree.specs.Sight.{About, opener}
use Rattle.and_tree.proofs.Opened.{opens_kept}
use Rattle.and_tree.proofs.tree.Tree.open.Goals as goal

pub new-requires : goal.new-requires
new-requires g c =
    let K = g.B.Keyed.key_of in
    let S = g.B.Keyed.Stands in
    let a : About = record { teams = c.args.teams; limit = c.args.limit } in
    let slots = c.first_slots-slots.ensures in
    subst (λ (l : List (Option g.row.B.Denot)). Kept K S a (opening c.as_slice.result.now l (opener a))) (sym (slots.1 ∙ slots.2))
    (opens_kept K S a c.requires.teams.0 c.requires.teams.1 c.args.root c.requires.root.0 c.requires.root.1 c.as_slice.result.now
    (c.as_slice.ensures.value ∙ c.in-Ok.ensures))
