use Rattle.std.proofs.Common.{rules, ap, sym, ◌∙◌, ◌≡◌, ◌<◌, length, arith}
use Rattle.std.proofs.lemmas.List.{length-map}
use Rattle.std.proofs.Common.{refl, get_or, []}
use Rattle.and_model.specs.declared.numbers.NodeNo.{NodeNo}
use Rattle.std.proofs.Common.{All, map, subst}
use Rattle.std.specs.Prelude.{flat_map}
use Rattle.and_model.specs.OwnVariables.{AreOwn, terms_of_item}
use Rattle.and_program.specs.Nodes.{shapes_of}
use Rattle.and_judging.specs.Outlined.{pieces_items, numbering_by}
use Rattle.and_judging.specs.Sorts.{own, piece_in}
use Rattle.and_clauses.specs.Lifts.{nodes_under, named_under}
use Rattle.and_clauses.proofs.LiftSteps.{node_kept}
use Rattle.and_clauses.proofs.LiftClauses.{few_read, variables_read, scope_below, no_clause, pieces_own, alternative_made}
use Rattle.and_clauses.proofs.lifting.alternative.Goals as goal

pub offset_bounds-lifting-disjunction : goal.offset_bounds-lifting-disjunction
offset_bounds-lifting-disjunction c =
    let there : c.scope_of-disjunction.result < length c.args.lifting.disjunctions.now =
    scope_below (length c.args.lifting.disjunctions.now) c.scope_of-disjunction.result c.args.outline.now.scope c.scope_of-disjunction.ensures
    c.requires.scope in
    search rules

pub lifted_items-requires-clause-few : goal.lifted_items-requires-clause-few
lifted_items-requires-clause-few c =
    let few = few_read c.args.lifting.disjunctions.now c.scope_of-disjunction.result c.index-lifting-disjunction.result
    (scope_below (length c.args.lifting.disjunctions.now) c.scope_of-disjunction.result c.args.outline.now.scope c.scope_of-disjunction.ensures
    c.requires.scope) c.requires.lifting.few in
    omega (arith, few, ap length c.as_slice-variables.ensures)

pub lifted_items-requires-clause-own : goal.lifted_items-requires-clause-own
lifted_items-requires-clause-own c =
    let few = few_read c.args.lifting.disjunctions.now c.scope_of-disjunction.result c.index-lifting-disjunction.result
    (scope_below (length c.args.lifting.disjunctions.now) c.scope_of-disjunction.result c.args.outline.now.scope c.scope_of-disjunction.ensures
    c.requires.scope) c.requires.lifting.few in
    let vars = variables_read c.args.lifting.disjunctions.now c.scope_of-disjunction.result c.index-lifting-disjunction.result
    (scope_below (length c.args.lifting.disjunctions.now) c.scope_of-disjunction.result c.args.outline.now.scope c.scope_of-disjunction.ensures
    c.requires.scope) c.args.lifting.numbers.now c.requires.lifting.numbered ∙ ap own (sym c.as_slice-variables.ensures) in
    subst (λ ps. All (AreOwn 255) (flat_map terms_of_item (pieces_items (named_under c.args.lifting) (numbering_by (own c.as_slice-variables.result.now))
    (map (piece_in (nodes_under c.args.lifting)) ps)))) (sym c.as_slice.ensures)
    (pieces_own (nodes_under c.args.lifting) (named_under c.args.lifting) no_clause c.args.outline.now c.scope_of-disjunction.result
    c.as_slice-variables.result.now c.scope_of-disjunction.ensures
    vars (omega (arith, few, ap length c.as_slice-variables.ensures)) (c.requires.own no_clause))

pub new-requires-clause-few_variables : goal.new-requires-clause-few_variables
new-requires-clause-few_variables c =
    let few = few_read c.args.lifting.disjunctions.now c.scope_of-disjunction.result c.index-lifting-disjunction.result
    (scope_below (length c.args.lifting.disjunctions.now) c.scope_of-disjunction.result c.args.outline.now.scope c.scope_of-disjunction.ensures
    c.requires.scope) c.requires.lifting.few in
    let count : length c.in_ok-names.names.items ≡ length c.as_slice-variables.result.now =
    ap length c.in_ok-names.ensures ∙ length-map c.as_slice-variables.result.now (λ v. get_or c.args.written.now v []) in
    omega (arith, few, ap length c.as_slice-variables.ensures, count)

pub returns-clause-lifted : goal.returns-clause-lifted
returns-clause-lifted c = λ k written line.
    let vars = variables_read c.args.lifting.disjunctions.now c.scope_of-disjunction.result c.index-lifting-disjunction.result
    (scope_below (length c.args.lifting.disjunctions.now) c.scope_of-disjunction.result c.args.outline.now.scope c.scope_of-disjunction.ensures
    c.requires.scope) c.args.lifting.numbers.now c.requires.lifting.numbered ∙ ap own (sym c.as_slice-variables.ensures) in
    let mid = shapes_of c.lifted_head.new.nodes.items in
    let us = shapes_of c.lifted_items.new.nodes.items in
    alternative_made (nodes_under c.args.lifting) (named_under c.args.lifting) k c.args.outline.now c.scope_of-disjunction.result
    c.as_slice-variables.result.now c.scope_of-disjunction.ensures vars us mid c.new.result c.in_ok-head.head.0 c.in_ok-items.items.items
    c.in_ok-names.names.items c.args.written.now c.args.line
    c.in_ok-head.ensures.head
    (node_kept mid us c.in_ok-head.head.0 _ c.lifted_items.ensures.kept (c.in_ok-head.ensures.head.0, refl))
    (c.in_ok-items.ensures.items ∙ ap (λ ps. pieces_items (named_under c.args.lifting) (numbering_by (own c.as_slice-variables.result.now))
    (map (piece_in (nodes_under c.args.lifting)) ps)) c.as_slice.ensures) c.in_ok-items.ensures.there c.in_ok-names.ensures
    (ap (λ (n : NodeNo). n.0) c.new.ensures.head) c.new.ensures.items
    c.new.ensures.variables c.new.ensures.line written line (c.requires.own k)
