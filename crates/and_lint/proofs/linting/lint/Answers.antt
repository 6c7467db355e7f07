use Rattle.std.proofs.Common.{Bool, false, subst, sym, List, get_or, length}
use Rattle.std.specs.List.{flat_map, range_with_len}
use Rattle.and_model.specs.Programs.{Program}
use Rattle.and_program.specs.Loaded.{program_of, skeleton_of}
use Rattle.and_lint.specs.Bodies.{items_written, variables_in_body}
use Rattle.and_lint.specs.Held.{Tells}
use Rattle.and_lint.specs.declared.bodies.Body.{Body}
use Rattle.and_lint.specs.Findings.{lines_of}
use Rattle.and_lint.specs.Kept.{Adds}
use Rattle.and_lint.proofs.Adding.{lint_is}
use Rattle.and_lint.proofs.linting.lint.Goals as goal

pub add_clauses-requires : goal.add_clauses-requires
add_clauses-requires c =
    let P : Program = program_of c.args.loaded.now in
    subst (λ (bs : List Body). Tells (skeleton_of c.args.loaded.now).nodes bs (items_written P) (variables_in_body P)) (sym c.deref-2.ensures.value)
    c.in_ok-bodies.ensures

pub add_clause-requires-clause-bodies : goal.add_clause-requires-clause-bodies
add_clause-requires-clause-bodies c =
    let P : Program = program_of c.args.loaded.now in
    subst (λ (bs : List Body). Tells (skeleton_of c.args.loaded.now).nodes bs (items_written P) (variables_in_body P)) (sym c.deref-4.ensures.value)
    c.in_ok-bodies.ensures

pub returns : goal.returns
returns c =
    let P : Program = program_of c.args.loaded.now in
    let marks : List Bool = c.in_ok-reached.reached.items in
    let one = subst (λ (ms : List Bool). Adds c.new-findings.result c.add_clauses.new.findings
    (flat_map (lines_of P (λ d. get_or ms d false)) (range_with_len 1 (length P.clauses)))) c.deref.ensures.value c.in_ok-add_clauses.ensures in
    let two = subst (λ (ms : List Bool). Adds c.add_clauses.new.findings c.add_clause.new.findings (lines_of P (λ d. get_or ms d false) 0))
    c.deref-3.ensures.value c.in_ok-add_clause.ensures in
    lint_is P (λ d. get_or marks d false) c.new-findings.result c.add_clauses.new.findings c.add_clause.new.findings c.write_count.new.self.text
    c.write_count.new.self.count c.in_ok-reached.ensures c.new-findings.ensures.text c.new-findings.ensures.count one two
    c.in_ok-write_count.ensures.text c.in_ok-write_count.ensures.count
