use Rattle.std.proofs.Common.{ℕ, ◌≡◌, ◌∙◌, ap, sym, subst}
use Rattle.std.specs.Prelude.{OnOk}
use Rattle.and_model.specs.Terms.{Term, compound, more, none, variables_of, apply}
use Rattle.and_model.specs.Lines.{shown}
use Rattle.and_model.specs.Stands.{item_term}
use Rattle.and_program.specs.Skeletons.{node_term, item_of}
use Rattle.and_program.specs.Items.{node_item}
use Rattle.and_program.specs.declared.item.ItemNode.{ItemNode}
use Rattle.and_cells.specs.Parts.{named}
use Rattle.and_print.specs.Writing.{Writes}
use Rattle.and_print.specs.Goals.{ItemMeans}
use Rattle.and_print.proofs.Parting.{node_resolved}
use Rattle.and_print.proofs.printer.Printer.write_item.Goals as goal

pub write_term-requires-clause-means : goal.write_term-requires-clause-means
write_term-requires-clause-means g c =
    let P = named c.args.self.now.loaded.now in
    let row = c.args.self.now.cells.now in
    let (s, means) = c.requires.means in
    let m = subst (λ (i : ItemNode). ItemMeans P row (node_item i) c.args.base s) c.in-Call.is means in
    (apply s (node_term P.skeleton.nodes c.in-Call.goal.0), node_resolved P row c.in-Call.goal c.args.base s m c.resolve.result c.resolve.ensures)

pub returns-in-Call : goal.returns-in-Call
returns-in-Call g c = λ s means t e.
    let P = named c.args.self.now.loaded.now in
    let row = c.args.self.now.cells.now in
    let m = subst (λ (i : ItemNode). ItemMeans P row (node_item i) c.args.base s) c.in-Call.is means in
    let same = e ∙ ap (λ (i : ItemNode). apply s (item_term (item_of P.skeleton.nodes (node_item i)))) c.in-Call.is in
    subst (λ (u : Term). OnOk c.write_term.result
    (Writes (variables_of u) (λ vs. shown P.program.names vs u) c.args.names.now c.write_term.new.names c.args.out.now c.write_term.new.out)) (sym same)
    (c.write_term.ensures (apply s (node_term P.skeleton.nodes c.in-Call.goal.0))
    (node_resolved P row c.in-Call.goal c.args.base s m c.resolve.result c.resolve.ensures))

pub write_pair-requires-clause-left : goal.write_pair-requires-clause-left
write_pair-requires-clause-left g c =
    let P = named c.args.self.now.loaded.now in
    let row = c.args.self.now.cells.now in
    let (s, means) = c.requires.means in
    let m = subst (λ (i : ItemNode). ItemMeans P row (node_item i) c.args.base s) c.in-Equal.is means in
    (apply s (node_term P.skeleton.nodes c.in-Equal.left.0), node_resolved P row c.in-Equal.left c.args.base s m.0 c.resolve-left.result c.resolve-left.ensures)

pub write_pair-requires-clause-right : goal.write_pair-requires-clause-right
write_pair-requires-clause-right g c =
    let P = named c.args.self.now.loaded.now in
    let row = c.args.self.now.cells.now in
    let (s, means) = c.requires.means in
    let m = subst (λ (i : ItemNode). ItemMeans P row (node_item i) c.args.base s) c.in-Equal.is means in (
      apply s (node_term P.skeleton.nodes c.in-Equal.right.0),
      node_resolved P row c.in-Equal.right c.args.base s m.1 c.resolve-right.result c.resolve-right.ensures,
    )

pub returns-in-Equal : goal.returns-in-Equal
returns-in-Equal g c = λ s means t e.
    let P = named c.args.self.now.loaded.now in
    let row = c.args.self.now.cells.now in
    let m = subst (λ (i : ItemNode). ItemMeans P row (node_item i) c.args.base s) c.in-Equal.is means in
    let a = apply s (node_term P.skeleton.nodes c.in-Equal.left.0) in
    let b = apply s (node_term P.skeleton.nodes c.in-Equal.right.0) in
    let same : t ≡ compound 3 (more a (more b none)) = e ∙ ap (λ (i : ItemNode). apply s (item_term (item_of P.skeleton.nodes (node_item i)))) c.in-Equal.is in
    subst (λ (u : Term). OnOk c.write_pair.result
    (Writes (variables_of u) (λ vs. shown P.program.names vs u) c.args.names.now c.write_pair.new.names c.args.out.now c.write_pair.new.out)) (sym same)
    (c.write_pair.ensures a b (node_resolved P row c.in-Equal.left c.args.base s m.0 c.resolve-left.result c.resolve-left.ensures)
    (node_resolved P row c.in-Equal.right c.args.base s m.1 c.resolve-right.result c.resolve-right.ensures))

pub write_pair-requires-in-Is-clause-left : goal.write_pair-requires-in-Is-clause-left
write_pair-requires-in-Is-clause-left g c =
    let P = named c.args.self.now.loaded.now in
    let row = c.args.self.now.cells.now in
    let (s, means) = c.requires.means in
    let m = subst (λ (i : ItemNode). ItemMeans P row (node_item i) c.args.base s) c.in-Is.is means in (
      apply s (node_term P.skeleton.nodes c.in-Is.left.0),
      node_resolved P row c.in-Is.left c.args.base s m.0 c.resolve-left-in-Is.result c.resolve-left-in-Is.ensures,
    )

pub write_pair-requires-in-Is-clause-right : goal.write_pair-requires-in-Is-clause-right
write_pair-requires-in-Is-clause-right g c =
    let P = named c.args.self.now.loaded.now in
    let row = c.args.self.now.cells.now in
    let (s, means) = c.requires.means in
    let m = subst (λ (i : ItemNode). ItemMeans P row (node_item i) c.args.base s) c.in-Is.is means in (
      apply s (node_term P.skeleton.nodes c.in-Is.right.0),
      node_resolved P row c.in-Is.right c.args.base s m.1 c.resolve-right-in-Is.result c.resolve-right-in-Is.ensures,
    )

pub returns-in-Is : goal.returns-in-Is
returns-in-Is g c = λ s means t e.
    let P = named c.args.self.now.loaded.now in
    let row = c.args.self.now.cells.now in
    let m = subst (λ (i : ItemNode). ItemMeans P row (node_item i) c.args.base s) c.in-Is.is means in
    let a = apply s (node_term P.skeleton.nodes c.in-Is.left.0) in
    let b = apply s (node_term P.skeleton.nodes c.in-Is.right.0) in
    let same : t ≡ compound 4 (more a (more b none)) = e ∙ ap (λ (i : ItemNode). apply s (item_term (item_of P.skeleton.nodes (node_item i)))) c.in-Is.is in
    subst (λ (u : Term). OnOk c.write_pair-in-Is.result
    (Writes (variables_of u) (λ vs. shown P.program.names vs u) c.args.names.now c.write_pair-in-Is.new.names c.args.out.now c.write_pair-in-Is.new.out))
    (sym same)
    (c.write_pair-in-Is.ensures a b (node_resolved P row c.in-Is.left c.args.base s m.0 c.resolve-left-in-Is.result c.resolve-left-in-Is.ensures)
    (node_resolved P row c.in-Is.right c.args.base s m.1 c.resolve-right-in-Is.result c.resolve-right-in-Is.ensures))

pub write_pair-requires-in-Compare-clause-left : goal.write_pair-requires-in-Compare-clause-left
write_pair-requires-in-Compare-clause-left g c =
    let P = named c.args.self.now.loaded.now in
    let row = c.args.self.now.cells.now in
    let (s, means) = c.requires.means in
    let m = subst (λ (i : ItemNode). ItemMeans P row (node_item i) c.args.base s) c.in-Compare.is means in (
      apply s (node_term P.skeleton.nodes c.in-Compare.left.0),
      node_resolved P row c.in-Compare.left c.args.base s m.0 c.resolve-left-in-Compare.result c.resolve-left-in-Compare.ensures,
    )

pub write_pair-requires-in-Compare-clause-right : goal.write_pair-requires-in-Compare-clause-right
write_pair-requires-in-Compare-clause-right g c =
    let P = named c.args.self.now.loaded.now in
    let row = c.args.self.now.cells.now in
    let (s, means) = c.requires.means in
    let m = subst (λ (i : ItemNode). ItemMeans P row (node_item i) c.args.base s) c.in-Compare.is means in (
      apply s (node_term P.skeleton.nodes c.in-Compare.right.0),
      node_resolved P row c.in-Compare.right c.args.base s m.1 c.resolve-right-in-Compare.result c.resolve-right-in-Compare.ensures,
    )

pub returns-in-Compare : goal.returns-in-Compare
returns-in-Compare g c = λ s means t e.
    let P = named c.args.self.now.loaded.now in
    let row = c.args.self.now.cells.now in
    let m = subst (λ (i : ItemNode). ItemMeans P row (node_item i) c.args.base s) c.in-Compare.is means in
    let a = apply s (node_term P.skeleton.nodes c.in-Compare.left.0) in
    let b = apply s (node_term P.skeleton.nodes c.in-Compare.right.0) in
    let same : t ≡ compound c.comparison.result.0 (more a (more b none)) = e
    ∙ ap (λ (i : ItemNode). apply s (item_term (item_of P.skeleton.nodes (node_item i)))) c.in-Compare.is
    ∙ ap (λ (n : ℕ). compound n (more a (more b none))) (sym c.comparison.ensures) in
    subst (λ (u : Term). OnOk c.write_pair-in-Compare.result
    (Writes (variables_of u) (λ vs. shown P.program.names vs u) c.args.names.now c.write_pair-in-Compare.new.names c.args.out.now
    c.write_pair-in-Compare.new.out)) (sym same)
    (c.write_pair-in-Compare.ensures a b
    (node_resolved P row c.in-Compare.left c.args.base s m.0 c.resolve-left-in-Compare.result c.resolve-left-in-Compare.ensures)
    (node_resolved P row c.in-Compare.right c.args.base s m.1 c.resolve-right-in-Compare.result c.resolve-right-in-Compare.ensures))
