use Rattle.std.proofs.Common.{◌∙◌, sym, ap, map, List}
use Rattle.std.proofs.lemmas.Result.{on_ok_weaker}
use Rattle.and_model.specs.Terms.{Term}
use Rattle.and_model.specs.Lines.{first_seen}
use Rattle.and_program.specs.Loaded.{skeleton_of}
use Rattle.and_program.specs.Skeletons.{Shape, node_term}
use Rattle.and_lint.specs.Kept.{unframed, variable_here}
use Rattle.and_lint.proofs.Counts.{seen_compound, seen_number}
use Rattle.and_lint.proofs.Tasks.{term_of_variable}
use Rattle.and_lint.proofs.names.see.Goals as goal

pub returns-in-Variable : goal.returns-in-Variable
returns-in-Variable c =
    let ss : List Shape = (skeleton_of c.args.loaded.now).nodes in
    let is = term_of_variable ss c.args.node.0 c.in-Variable.number c.args.loaded.now.kept.falls c.requires c.in-Variable.ensures.shape in
    on_ok_weaker c.see_variable.result
    (λ e. e ∙ ap (λ (u : Term). first_seen (map unframed c.args.seen.now.items) (variable_here u)) (sym is)) c.see_variable.ensures

pub returns-in-Number : goal.returns-in-Number
returns-in-Number c = seen_number (map unframed c.args.seen.now.items) (node_term (skeleton_of c.args.loaded.now).nodes c.args.node.0) _
    c.in-Number.ensures.term

pub returns-in-Compound : goal.returns-in-Compound
returns-in-Compound c = seen_compound (map unframed c.args.seen.now.items) (node_term (skeleton_of c.args.loaded.now).nodes c.args.node.0) _ _
    c.in-Compound.ensures.term
