use Rattle.std.proofs.Common.{◌++◌, List, [], length, sym, subst}
use Rattle.std.specs.Prelude.{All}
use Rattle.std.proofs.lemmas.List.Elements.{All-nil}
use Rattle.and_cells.specs.Ranges.{NamedProgram}
use Rattle.and_cells.specs.Rows.{plain}
use Rattle.and_unify.specs.Running.{start, arguments_of_both}
use Rattle.and_heads.specs.declared.parts.Part.{Part}
use Rattle.and_heads.specs.Parts.{HasShape, both_of, arguments_of_parts}
use Rattle.and_heads.specs.Calls.{call_and_head, IsCallPart}
use Rattle.and_heads.proofs.Beginning.{begins_alone}
use Rattle.and_heads.proofs.Meeting.{parts_after}
use Rattle.and_heads.proofs.entering.enter_call.Goals as goal

pub enter_parts-requires-clause-shape : goal.enter_parts-requires-clause-shape
enter_parts-requires-clause-shape g c =
    let is = subst (λ (Q : NamedProgram). IsCallPart Q c.args.base c.args.call.0 c.args.floor c.args.head.0 c.in-Some.part) (sym c.requires.program)
    c.in-Some.ensures in
    is.1 (length c.args.cells.now) c.requires.call c.requires.head

pub enter_parts-requires-clause-shapes : goal.enter_parts-requires-clause-shapes
enter_parts-requires-clause-shapes g c =
    let shape = HasShape g.N.Naming.program (length c.args.cells.now) in
    subst (All shape) (sym {A = List Part} c.clear.ensures.items) (All-nil shape)

pub returns-in-Some-clause-comes : goal.returns-in-Some-clause-comes
returns-in-Some-clause-comes g c =
    let P = g.N.Naming.program in
    let old = plain c.args.cells.now in
    let bound = c.args.bound.now.items in
    let asked = call_and_head P c.args.base c.args.call.0 c.args.floor c.args.head.0 in
    let is = subst (λ (Q : NamedProgram). IsCallPart Q c.args.base c.args.call.0 c.args.floor c.args.head.0 c.in-Some.part) (sym c.requires.program)
    c.in-Some.ensures in
    let begun = begins_alone P old asked c.clear.new.self.items bound c.in-Some.part is.0 c.clear.ensures.items
    (is.1 (length c.args.cells.now) c.requires.call c.requires.head) in
    parts_after P old old (plain c.enter_parts.new.cells) asked
    (arguments_of_both P (both_of c.in-Some.part) ++ arguments_of_parts P c.clear.new.self.items) [] bound bound c.enter_parts.new.bound.items
    c.enter_parts.result begun.2 c.enter_parts.ensures.comes

pub returns-in-None-clause-comes : goal.returns-in-None-clause-comes
returns-in-None-clause-comes g c =
    (call_and_head g.N.Naming.program c.args.base c.args.call.0 c.args.floor c.args.head.0, start)
