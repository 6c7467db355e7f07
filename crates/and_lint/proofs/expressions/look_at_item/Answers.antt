use Rattle.std.proofs.Common.{sym, subst}
use Rattle.std.proofs.lemmas.Result.{on_ok_weaker}
use Rattle.and_model.specs.Programs.{Clause, Program, clause_at}
use Rattle.and_program.specs.Loaded.{program_of, skeleton_of}
use Rattle.and_program.specs.Skeletons.{node_term}
use Rattle.and_model.specs.Lines.{Bytes}
use Rattle.std.proofs.Common.{List}
use Rattle.and_lint.specs.Findings.{no_value_lines_of}
use Rattle.and_lint.proofs.Adding.{adds_none, adds_two}
use Rattle.and_program.specs.Items.{node_item}
use Rattle.and_program.specs.Skeletons.{item_of}
use Rattle.and_program.specs.declared.item.ItemNode.{ItemNode}
use Rattle.std.specs.List.{flat_map}
use Rattle.and_lint.specs.Kept.{Adds}
use Rattle.and_lint.specs.Subterms.{expressions_of, subterms}
use Rattle.and_lint.proofs.expressions.look_at_item.Goals as goal

pub returns-in_ok-look_along_subterms-in-Compare : goal.returns-in_ok-look_along_subterms-in-Compare
returns-in_ok-look_along_subterms-in-Compare c =
    let P : Program = program_of c.args.loaded.now in
    let k : Clause = clause_at P c.args.no.0 in
    let lines : ItemNode → List Bytes = λ i.
    flat_map (no_value_lines_of P k) (flat_map subterms (expressions_of (item_of (skeleton_of c.args.loaded.now).nodes (node_item i)))) in
    on_ok_weaker c.look_along_subterms-in-Compare-2.result
    (λ added. subst (λ (i : ItemNode). Adds c.args.findings.now c.look_along_subterms-in-Compare-2.new.findings (lines i)) (sym c.in-Compare.is)
    (adds_two (no_value_lines_of P k) (node_term (skeleton_of c.args.loaded.now).nodes c.in-Compare.left.0)
    (node_term (skeleton_of c.args.loaded.now).nodes c.in-Compare.right.0) c.args.findings.now c.look_along_subterms-in-Compare.new.findings
    c.look_along_subterms-in-Compare-2.new.findings c.in_ok-look_along_subterms-in-Compare.ensures added))
    c.look_along_subterms-in-Compare-2.ensures

pub returns-in-Call : goal.returns-in-Call
returns-in-Call c =
    let P : Program = program_of c.args.loaded.now in
    let k : Clause = clause_at P c.args.no.0 in
    let lines : ItemNode → List Bytes = λ i.
    flat_map (no_value_lines_of P k) (flat_map subterms (expressions_of (item_of (skeleton_of c.args.loaded.now).nodes (node_item i)))) in
    subst (λ (i : ItemNode). Adds c.args.findings.now c.args.findings.now (lines i)) (sym c.in-Call.is) (adds_none c.args.findings.now)

pub returns-in-Equal : goal.returns-in-Equal
returns-in-Equal c =
    let P : Program = program_of c.args.loaded.now in
    let k : Clause = clause_at P c.args.no.0 in
    let lines : ItemNode → List Bytes = λ i.
    flat_map (no_value_lines_of P k) (flat_map subterms (expressions_of (item_of (skeleton_of c.args.loaded.now).nodes (node_item i)))) in
    subst (λ (i : ItemNode). Adds c.args.findings.now c.args.findings.now (lines i)) (sym c.in-Equal.is) (adds_none c.args.findings.now)

pub returns-in-Fail : goal.returns-in-Fail
returns-in-Fail c =
    let P : Program = program_of c.args.loaded.now in
    let k : Clause = clause_at P c.args.no.0 in
    let lines : ItemNode → List Bytes = λ i.
    flat_map (no_value_lines_of P k) (flat_map subterms (expressions_of (item_of (skeleton_of c.args.loaded.now).nodes (node_item i)))) in
    subst (λ (i : ItemNode). Adds c.args.findings.now c.args.findings.now (lines i)) (sym c.in-Fail.is) (adds_none c.args.findings.now)
