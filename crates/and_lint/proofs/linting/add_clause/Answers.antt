use Rattle.std.proofs.Common.{◌∙◌, Bool, false, [], List, ap, sym, get_or}
use Rattle.std.proofs.lemmas.Result.{on_ok_weaker}
use Rattle.and_model.specs.Lines.{Bytes}
use Rattle.and_model.specs.Programs.{Program, clause_at}
use Rattle.and_program.specs.Loaded.{program_of}
use Rattle.and_lint.specs.Bodies.{is_lifted}
use Rattle.and_lint.specs.Findings.{clause_lines}
use Rattle.and_lint.proofs.Adding.{adds_else, adds_if, adds_none}
use Rattle.and_lint.proofs.linting.add_clause.Goals as goal

pub returns-then-is_lifted : goal.returns-then-is_lifted
returns-then-is_lifted c =
    let P : Program = program_of c.args.loaded.now in
    let b : Bool = is_lifted P (clause_at P c.args.no.0).head in
    let lines : List Bytes = clause_lines P (λ d. get_or c.args.reached.now d false) c.args.no.0 in
    adds_if b [] lines c.args.findings.now c.args.findings.now
    (ap (is_lifted P) (sym c.head.ensures.term) ∙ sym c.is_lifted.ensures ∙ c.if-is_lifted.true) (adds_none c.args.findings.now)

pub returns : goal.returns
returns c =
    let P : Program = program_of c.args.loaded.now in
    let b : Bool = is_lifted P (clause_at P c.args.no.0).head in
    let lines : List Bytes = clause_lines P (λ d. get_or c.args.reached.now d false) c.args.no.0 in
    on_ok_weaker c.add_written.result
    (λ added. adds_else b [] lines c.args.findings.now c.add_written.new.findings
    (ap (is_lifted P) (sym c.head.ensures.term) ∙ sym c.is_lifted.ensures ∙ c.if-is_lifted.false) added) c.add_written.ensures
