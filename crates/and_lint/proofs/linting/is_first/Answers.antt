use Rattle.std.proofs.Common.{◌∙◌, ap, List}
use Rattle.and_model.specs.Terms.{Term}
use Rattle.and_model.specs.Programs.{Program}
use Rattle.and_model.specs.declared.numbers.ClauseNo.{ClauseNo}
use Rattle.and_program.specs.Loaded.{program_of, skeleton_of}
use Rattle.and_program.specs.Skeletons.{node_term}
use Rattle.and_lint.specs.Findings.{begins_with, is_first}
use Rattle.and_lint.proofs.Faces.{number_not_first, structure_is_first, variable_not_first}
use Rattle.and_lint.proofs.linting.is_first.Goals as goal

pub returns-in-Variable : goal.returns-in-Variable
returns-in-Variable c =
    let P : Program = program_of c.args.loaded.now in
    variable_not_first P c.args.no.0 (node_term (skeleton_of c.args.loaded.now).nodes c.head.result.0) _ c.in-Variable.ensures.term
    ∙ ap (λ (t : Term). is_first P c.args.no.0 t) c.head.ensures.term

pub returns-in-Number : goal.returns-in-Number
returns-in-Number c =
    let P : Program = program_of c.args.loaded.now in
    number_not_first P c.args.no.0 (node_term (skeleton_of c.args.loaded.now).nodes c.head.result.0) _ c.in-Number.ensures.term
    ∙ ap (λ (t : Term). is_first P c.args.no.0 t) c.head.ensures.term

pub returns-in-Compound : goal.returns-in-Compound
returns-in-Compound c =
    let P : Program = program_of c.args.loaded.now in
    c.begins_with.ensures
    ∙ ap (λ (ms : List ClauseNo). begins_with c.args.no.0 ms) c.clauses_of.ensures.clauses
    ∙ structure_is_first P c.args.no.0 (node_term (skeleton_of c.args.loaded.now).nodes c.head.result.0) c.in-Compound.name c.in-Compound.count
    c.in-Compound.ensures.term
    ∙ ap (λ (t : Term). is_first P c.args.no.0 t) c.head.ensures.term
