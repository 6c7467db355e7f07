use Rattle.std.proofs.Common.{◌≡◌, sym, ap, ◌∙◌, subst, Option, Some, None}
use Rattle.std.specs.Option.{option_copied}
use Rattle.and_model.specs.Terms.{apply}
use Rattle.and_program.specs.Skeletons.{node_term}
use Rattle.and_program.specs.declared.node.NodeKind.TheVariants.{Variable}
use Rattle.and_branch_laws.specs.Variables.{placed}
use Rattle.and_clause_index.specs.Prints.{no_print}
use Rattle.and_clause_index.specs.Served.{AreServed}
use Rattle.and_clause_index.specs.Tables.{entry_at, tried}
use Rattle.and_clause_index.specs.declared.table.Predicate.{Predicate}
use Rattle.and_clause_index.specs.declared.looking.Look.{Look}
use Rattle.and_clause_index.proofs.Glimpses.{first_shown}
use Rattle.and_clause_index.proofs.Serving.{first_serves}
use Rattle.and_clause_index.proofs.looking.clauses_by_first.Goals as goal

pub returns-in_default-clause-served : goal.returns-in_default-clause-served
returns-in_default-clause-served g c = λ row has.
    let P = g.C.Cells.program in
    let node = c.args.node.0 in
    let base = c.args.base in
    let look : Look = record { first = Variable 0; print = no_print } in
    let entry : entry_at c.args.table.now node ≡ None = sym c.predicate.ensures ∙ ap option_copied c.in_default.is in
    subst (AreServed P row node base) (ap (λ (e : Option Predicate). tried e (Variable 0)) entry)
    (first_serves P row node base look (λ s solves. first_shown (Variable 0) (apply s (placed base (node_term P.skeleton.nodes node))) tt)
    (entry_at c.args.table.now node) c.requires.known)

pub returns-then-not-has_keys-clause-served : goal.returns-then-not-has_keys-clause-served
returns-then-not-has_keys-clause-served g c = λ row has.
    let P = g.C.Cells.program in
    let node = c.args.node.0 in
    let base = c.args.base in
    let look : Look = record { first = Variable 0; print = no_print } in
    let entry : entry_at c.args.table.now node ≡ Some c.in-Some.predicate.now = sym c.predicate.ensures ∙ ap option_copied c.in-Some.is in
    subst (AreServed P row node base) (ap (λ (e : Option Predicate). tried e (Variable 0)) entry ∙ sym c.tried.ensures)
    (first_serves P row node base look (λ s solves. first_shown (Variable 0) (apply s (placed base (node_term P.skeleton.nodes node))) tt)
    (entry_at c.args.table.now node) c.requires.known)

pub returns-clause-served : goal.returns-clause-served
returns-clause-served g c = λ row has.
    let P = g.C.Cells.program in
    let node = c.args.node.0 in
    let base = c.args.base in
    let kind = c.known_first-first.result in
    let look : Look = record { first = kind; print = no_print } in
    let entry : entry_at c.args.table.now node ≡ Some c.in-Some.predicate.now = sym c.predicate.ensures ∙ ap option_copied c.in-Some.is in
    subst (AreServed P row node base) (ap (λ (e : Option Predicate). tried e kind) entry ∙ sym c.tried-2.ensures)
    (first_serves P row node base look
    (λ s solves. first_shown kind (apply s (placed base (node_term P.skeleton.nodes node))) (c.known_first-first.ensures.fits row has s solves))
    (entry_at c.args.table.now node) c.requires.known)
