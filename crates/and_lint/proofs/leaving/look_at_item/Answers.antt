use Rattle.std.proofs.Common.{List, sym, subst}
use Rattle.and_model.specs.Lines.{Bytes}
use Rattle.and_model.specs.Programs.{Clause, Program, clause_at}
use Rattle.and_program.specs.Items.{node_item}
use Rattle.and_program.specs.Loaded.{program_of, skeleton_of}
use Rattle.and_program.specs.Skeletons.{item_of}
use Rattle.and_program.specs.declared.item.ItemNode.{ItemNode}
use Rattle.and_lint.specs.Findings.{left_lines_of}
use Rattle.and_lint.specs.Kept.{Adds}
use Rattle.and_lint.proofs.Adding.{adds_none}
use Rattle.and_lint.proofs.leaving.look_at_item.Goals as goal

pub returns-in-Call : goal.returns-in-Call
returns-in-Call c =
    let P : Program = program_of c.args.loaded.now in
    let k : Clause = clause_at P c.args.no.0 in
    let lines : ItemNode → List Bytes = λ i. left_lines_of P k (item_of (skeleton_of c.args.loaded.now).nodes (node_item i)) in
    subst (λ (i : ItemNode). Adds c.args.findings.now c.args.findings.now (lines i)) (sym c.in-Call.is) (adds_none c.args.findings.now)

pub returns-in-Is : goal.returns-in-Is
returns-in-Is c =
    let P : Program = program_of c.args.loaded.now in
    let k : Clause = clause_at P c.args.no.0 in
    let lines : ItemNode → List Bytes = λ i. left_lines_of P k (item_of (skeleton_of c.args.loaded.now).nodes (node_item i)) in
    subst (λ (i : ItemNode). Adds c.args.findings.now c.args.findings.now (lines i)) (sym c.in-Is.is) (adds_none c.args.findings.now)

pub returns-in-Compare : goal.returns-in-Compare
returns-in-Compare c =
    let P : Program = program_of c.args.loaded.now in
    let k : Clause = clause_at P c.args.no.0 in
    let lines : ItemNode → List Bytes = λ i. left_lines_of P k (item_of (skeleton_of c.args.loaded.now).nodes (node_item i)) in
    subst (λ (i : ItemNode). Adds c.args.findings.now c.args.findings.now (lines i)) (sym c.in-Compare.is) (adds_none c.args.findings.now)

pub returns-in-Fail : goal.returns-in-Fail
returns-in-Fail c =
    let P : Program = program_of c.args.loaded.now in
    let k : Clause = clause_at P c.args.no.0 in
    let lines : ItemNode → List Bytes = λ i. left_lines_of P k (item_of (skeleton_of c.args.loaded.now).nodes (node_item i)) in
    subst (λ (i : ItemNode). Adds c.args.findings.now c.args.findings.now (lines i)) (sym c.in-Fail.is) (adds_none c.args.findings.now)
