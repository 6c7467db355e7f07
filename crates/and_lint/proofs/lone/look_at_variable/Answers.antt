use Rattle.std.proofs.Common.{◌∙◌, [], ◌∷◌, sym}
use Rattle.std.proofs.lemmas.Result.{on_ok_weaker}
use Rattle.and_model.specs.Programs.{Clause, Program, clause_at}
use Rattle.and_program.specs.Loaded.{program_of}
use Rattle.and_lint.specs.Findings.{is_alone, once_line}
use Rattle.and_lint.proofs.Adding.{adds_else, adds_if, adds_none}
use Rattle.and_lint.proofs.lone.look_at_variable.Goals as goal

pub returns-then-is_alone : goal.returns-then-is_alone
returns-then-is_alone c = λ vs told.
    let P : Program = program_of c.args.loaded.now in
    let k : Clause = clause_at P c.args.no.0 in
    on_ok_weaker c.add_once.result
    (λ added. adds_if (is_alone k vs c.args.variable) (once_line k c.args.variable ∷ []) [] c.args.findings.now c.add_once.new.findings
    (sym (c.is_alone.ensures vs told)
    ∙ c.if-is_alone.true) added) c.add_once.ensures

pub returns : goal.returns
returns c = λ vs told.
    let P : Program = program_of c.args.loaded.now in
    let k : Clause = clause_at P c.args.no.0 in
    adds_else (is_alone k vs c.args.variable) (once_line k c.args.variable ∷ []) [] c.args.findings.now c.args.findings.now (sym (c.is_alone.ensures vs told)
    ∙ c.if-is_alone.false) (adds_none c.args.findings.now)
