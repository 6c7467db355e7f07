use Rattle.std.proofs.Common.{◌∙◌, [], ◌∷◌, sym}
use Rattle.std.proofs.lemmas.Result.{on_ok_weaker}
use Rattle.and_model.specs.Programs.{Clause, Program, clause_at}
use Rattle.and_program.specs.Loaded.{program_of, skeleton_of}
use Rattle.and_program.specs.Skeletons.{node_term}
use Rattle.and_lint.specs.Subterms.{has_no_value}
use Rattle.and_lint.specs.Findings.{no_value_line}
use Rattle.and_lint.proofs.Adding.{adds_else, adds_if, adds_none}
use Rattle.and_lint.proofs.expressions.look_at_subterm.Goals as goal

pub returns-then-has_no_value : goal.returns-then-has_no_value
returns-then-has_no_value c =
    let P : Program = program_of c.args.loaded.now in
    let k : Clause = clause_at P c.args.no.0 in
    on_ok_weaker c.add_no_value.result
    (λ added. adds_if (has_no_value (node_term (skeleton_of c.args.loaded.now).nodes c.args.node.0))
    (no_value_line P k (node_term (skeleton_of c.args.loaded.now).nodes c.args.node.0) ∷ []) [] c.args.findings.now c.add_no_value.new.findings
    (sym c.has_no_value.ensures ∙ c.if-has_no_value.true) added) c.add_no_value.ensures

pub returns : goal.returns
returns c =
    let P : Program = program_of c.args.loaded.now in
    let k : Clause = clause_at P c.args.no.0 in
    adds_else (has_no_value (node_term (skeleton_of c.args.loaded.now).nodes c.args.node.0))
    (no_value_line P k (node_term (skeleton_of c.args.loaded.now).nodes c.args.node.0) ∷ []) [] c.args.findings.now c.args.findings.now
    (sym c.has_no_value.ensures ∙ c.if-has_no_value.false) (adds_none c.args.findings.now)
