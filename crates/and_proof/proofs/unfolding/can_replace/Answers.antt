use Rattle.std.proofs.Common.{◌<◌, ◌≤◌, length, refl, ap, sym, ◌∙◌, arith}
use Rattle.and_model.specs.Programs.{same_predicate}
use Rattle.and_model.specs.Stands.{term_of}
use Rattle.and_model.specs.Terms.{Term}
use Rattle.and_program.specs.Loaded.{program_of, skeleton_of}
use Rattle.and_program.specs.Shown.{shown_term}
use Rattle.and_program.specs.Skeletons.{node_term}
use Rattle.and_program.specs.declared.node.NodeKind.{NodeKind}
use Rattle.and_cells.specs.Parts.{named}
use Rattle.and_branch_laws.proofs.Loading.{loaded_is}
use Rattle.and_proof.specs.Predicates.{named_alike}
use Rattle.and_proof.proofs.Predicates.{alike_is, of_head}
use Rattle.and_branch_laws.proofs.Nodes.{call_node, call_term, call_range}
use Rattle.and_proof.proofs.unfolding.can_replace.Goals as goal

pub call_at-node-requires-clause-call : goal.call_at-node-requires-clause-call
call_at-node-requires-clause-call c =
    let l = c.args.loaded.now in
    let s = c.skeleton_is_of_the_program.ensures in
    let facts = loaded_is (named l) l refl s.skeleton s.own_variables s.few in
    let (words, in_range) = c.requires.in_range in
    let (term, item) = c.requires.call in call_node (named l) facts words c.args.call in_range term item

pub kind-requires : goal.kind-requires
kind-requires c =
    let l = c.args.loaded.now in
    let s = c.skeleton_is_of_the_program.ensures in
    let facts = loaded_is (named l) l refl s.skeleton s.own_variables s.few in
    let (words, in_range) = c.requires.in_range in
    let (term, item) = c.requires.call in
    let range = call_range (named l) facts words c.args.call in_range term item c.call_at-node.result.0 c.call_at-node.ensures in range.there

pub returns : goal.returns
returns c =
    let l = c.args.loaded.now in
    let P = program_of l in
    let s = c.skeleton_is_of_the_program.ensures in
    let facts = loaded_is (named l) l refl s.skeleton s.own_variables s.few in
    let (words, in_range) = c.requires.in_range in
    let (term, item) = c.requires.call in
    let clause = c.args.clause.0 in
    let some : 0 < clause = omega (arith, c.if-clause-eq0.false) in
    let low : clause ≤ length P.clauses = omega (arith, c.if-from-clause_count.false, c.from.ensures, c.clause_count.ensures.count) in
    let call : Term = term_of P c.args.call in
    let read : Term = node_term (skeleton_of l).nodes c.call_at-node.result.0 in
    let head : Term = node_term (skeleton_of l).nodes c.head.result.0 in
    let same = call_term (named l) facts words c.args.call in_range term item c.call_at-node.result.0 c.call_at-node.ensures in
    c.are_of_one_predicate.ensures ∙ ap (λ (k : NodeKind). named_alike k c.kind-2.result) c.kind.ensures.term
    ∙ ap (λ (k : NodeKind). named_alike (shown_term read) k) c.kind-2.ensures.term ∙ alike_is read head
    ∙ ap (λ (t : Term). same_predicate t head) (sym same) ∙ ap (λ (t : Term). same_predicate call t) c.head.ensures.term
    ∙ sym (of_head P call clause some low)
