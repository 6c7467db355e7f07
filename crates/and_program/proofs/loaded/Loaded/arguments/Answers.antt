use Rattle.std.proofs.Common.{List, map, ap, subst, ◌≡◌, ◌∙◌}
use Rattle.and_model.specs.declared.numbers.NodeNo.{NodeNo}
use Rattle.and_program.specs.Loaded.{skeleton_of, arguments_at}
use Rattle.and_program.specs.Nodes.{shape_of}
use Rattle.and_program.specs.Shown.{arguments_in}
use Rattle.and_program.specs.declared.node.Node.{Node}
use Rattle.and_program.proofs.LoadedLemmas.{arguments_read}
use Rattle.and_program.proofs.loaded.Loaded.arguments.Goals as goal

pub returns-in-Compound : goal.returns-in-Compound
returns-in-Compound c =
    let l = c.args.self.now in
    let P : Node → Type 0 = λ x. arguments_in (shape_of x) ≡ arguments_at (skeleton_of l) c.args.node.0 in
    ap (λ (xs : List NodeNo). map (λ (argument : NodeNo). argument.0) xs) c.deref.ensures.value
    ∙ subst P c.in-Compound.is (arguments_read l.nodes.items c.args.node.0 c.index.result.now c.requires c.index.ensures)

pub returns-in-Variable : goal.returns-in-Variable
returns-in-Variable c =
    let l = c.args.self.now in
    let P : Node → Type 0 = λ x. arguments_in (shape_of x) ≡ arguments_at (skeleton_of l) c.args.node.0 in
    subst P c.in-Variable.is (arguments_read l.nodes.items c.args.node.0 c.index.result.now c.requires c.index.ensures)

pub returns-in-Number : goal.returns-in-Number
returns-in-Number c =
    let l = c.args.self.now in
    let P : Node → Type 0 = λ x. arguments_in (shape_of x) ≡ arguments_at (skeleton_of l) c.args.node.0 in
    subst P c.in-Number.is (arguments_read l.nodes.items c.args.node.0 c.index.result.now c.requires c.index.ensures)
