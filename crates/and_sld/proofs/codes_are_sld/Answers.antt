use Rattle.and_sld.proofs.Queries.{computed_ends, ends_computed, one_answer, shows_ends, refuted_answers, answers_refuted, same_answers}
use Rattle.and_sld.proofs.codes_are_sld.Goals as goal

pub returns-clause-outcomes : goal.returns-clause-outcomes
returns-clause-outcomes c = λ P cs atoms. (computed_ends P cs atoms, ends_computed P cs atoms)

pub returns-clause-answers : goal.returns-clause-answers
returns-clause-answers c = one_answer

pub returns-clause-lines : goal.returns-clause-lines
returns-clause-lines c = shows_ends

pub returns-clause-refutations : goal.returns-clause-refutations
returns-clause-refutations c = λ P cs atoms few. (refuted_answers P cs atoms few, answers_refuted P cs atoms few)

pub returns-clause-variants : goal.returns-clause-variants
returns-clause-variants c = same_answers
