use Rattle.std.proofs.Common.{◌≡◌, ◌∙◌, ◌&&◌, Bool, true, false, not, ap, sym, get_or}
use Rattle.and_model.specs.Programs.{Program, clause_at}
use Rattle.and_program.specs.Loaded.{program_of}
use Rattle.and_lint.specs.Findings.{is_first}
use Rattle.and_lint.proofs.linting.is_never_called.Goals as goal

pub returns-then-is_reached : goal.returns-then-is_reached
returns-then-is_reached c =
    let P : Program = program_of c.args.loaded.now in
    let is : get_or c.args.reached.now c.args.no.0 false ≡ true = sym c.is_reached.ensures ∙ c.if-is_reached.true in
    sym (ap (λ (b : Bool). not b && is_first P c.args.no.0 (clause_at P c.args.no.0).head) is)

pub returns : goal.returns
returns c =
    let P : Program = program_of c.args.loaded.now in
    let is : get_or c.args.reached.now c.args.no.0 false ≡ false = sym c.is_reached.ensures ∙ c.if-is_reached.false in
    c.is_first.ensures ∙ sym (ap (λ (b : Bool). not b && is_first P c.args.no.0 (clause_at P c.args.no.0).head) is)
