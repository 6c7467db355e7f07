use Rattle.std.proofs.Common.{◌≡◌, ◌<◌, ◌∙◌, ◌&&◌, Bool, true, false, not, eqb, ap, sym, arith, get_or, []}
use Rattle.and_model.specs.Lines.{Bytes, begins_underscore}
use Rattle.and_model.specs.Programs.{Clause, clause_at}
use Rattle.and_program.specs.Loaded.{program_of}
use Rattle.and_lint.specs.Findings.{times}
use Rattle.and_lint.proofs.Counts.{one_tells}
use Rattle.and_lint.proofs.lone.is_alone.Goals as goal

pub returns-then-begins_underscore : goal.returns-then-begins_underscore
returns-then-begins_underscore c = λ vs told.
    let k : Clause = clause_at (program_of c.args.loaded.now) c.args.no.0 in
    let is : begins_underscore (get_or k.written c.args.variable []) ≡ true =
    ap (λ (n : Bytes). begins_underscore n) (sym c.variable_name.ensures) ∙ sym c.begins_underscore.ensures ∙ c.if-begins_underscore.true in
    sym (ap (λ (b : Bool). not b && eqb (times c.args.variable vs) 1) is)

pub returns : goal.returns
returns c = λ vs told.
    let k : Clause = clause_at (program_of c.args.loaded.now) c.args.no.0 in
    let few : c.args.variable < 256 = let range = c.ranges.variable in omega arith in
    let is : begins_underscore (get_or k.written c.args.variable []) ≡ false =
    ap (λ (n : Bytes). begins_underscore n) (sym c.variable_name.ensures) ∙ sym c.begins_underscore.ensures ∙ c.if-begins_underscore.false in
    c.occurs_once.ensures
    ∙ one_tells (get_or c.args.counts.now c.args.variable 0) (times c.args.variable vs) (told c.args.variable few)
    ∙ sym (ap (λ (b : Bool). not b && eqb (times c.args.variable vs) 1) is)
