use Rattle.std.proofs.Common.{◌∙◌, [], ◌∷◌, sym}
use Rattle.std.proofs.lemmas.Result.{on_ok_weaker}
use Rattle.and_model.specs.Programs.{Clause, Program, clause_at}
use Rattle.and_program.specs.Loaded.{program_of, skeleton_of}
use Rattle.and_program.specs.Skeletons.{node_term}
use Rattle.and_lint.specs.Subterms.{looks_worked_out}
use Rattle.and_lint.specs.Findings.{left_line, left_lines_at}
use Rattle.and_lint.proofs.Adding.{adds_else, adds_if}
use Rattle.and_lint.proofs.leaving.look_at_sides.Goals as goal

pub returns-then-branch : goal.returns-then-branch
returns-then-branch c =
    let P : Program = program_of c.args.loaded.now in
    let k : Clause = clause_at P c.args.no.0 in
    on_ok_weaker c.add_left.result
    (λ added. adds_if (looks_worked_out (node_term (skeleton_of c.args.loaded.now).nodes c.args.left.0))
    (left_line P k (node_term (skeleton_of c.args.loaded.now).nodes c.args.left.0) ∷ [])
    (left_lines_at P k (node_term (skeleton_of c.args.loaded.now).nodes c.args.right.0)) c.args.findings.now
    c.add_left.new.findings (sym c.in_ok-looks_worked_out.ensures ∙ c.if-branch.true) added) c.add_left.ensures

pub returns : goal.returns
returns c =
    let P : Program = program_of c.args.loaded.now in
    let k : Clause = clause_at P c.args.no.0 in
    on_ok_weaker c.look_at_side.result
    (λ added. adds_else (looks_worked_out (node_term (skeleton_of c.args.loaded.now).nodes c.args.left.0))
    (left_line P k (node_term (skeleton_of c.args.loaded.now).nodes c.args.left.0) ∷ [])
    (left_lines_at P k (node_term (skeleton_of c.args.loaded.now).nodes c.args.right.0)) c.args.findings.now
    c.look_at_side.new.findings (sym c.in_ok-looks_worked_out.ensures ∙ c.if-branch.false) added) c.look_at_side.ensures
