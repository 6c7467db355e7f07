use Rattle.std.proofs.Common.{◌∙◌, ◌&&◌, false, not, [], ◌∷◌, sym, get_or}
use Rattle.std.proofs.lemmas.Result.{on_ok_weaker}
use Rattle.and_model.specs.Programs.{Clause, Program, clause_at}
use Rattle.and_program.specs.Loaded.{program_of}
use Rattle.and_lint.specs.Findings.{is_first, never_line}
use Rattle.and_lint.proofs.Adding.{adds_else, adds_if, adds_none}
use Rattle.and_lint.proofs.linting.add_never_called.Goals as goal

pub returns-then-is_never_called : goal.returns-then-is_never_called
returns-then-is_never_called c =
    let P : Program = program_of c.args.loaded.now in
    let k : Clause = clause_at P c.args.no.0 in
    on_ok_weaker c.add_never.result
    (λ added. adds_if (not (get_or c.args.reached.now c.args.no.0 false) && is_first P c.args.no.0 k.head) (never_line P k ∷ []) [] c.args.findings.now
    c.add_never.new.findings (sym c.is_never_called.ensures ∙ c.if-is_never_called.true) added) c.add_never.ensures

pub returns : goal.returns
returns c =
    let P : Program = program_of c.args.loaded.now in
    let k : Clause = clause_at P c.args.no.0 in
    adds_else (not (get_or c.args.reached.now c.args.no.0 false) && is_first P c.args.no.0 k.head) (never_line P k ∷ []) [] c.args.findings.now
    c.args.findings.now (sym c.is_never_called.ensures ∙ c.if-is_never_called.false) (adds_none c.args.findings.now)
