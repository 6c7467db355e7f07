use Rattle.std.proofs.Common.{ℕ}
use Rattle.and_model.specs.Lines.{Bytes}
use Rattle.and_syntax.specs.Written.{place}
use Rattle.and_grammar_laws.specs.Grammars.{program_for}
use Rattle.and_grammar_laws.proofs.Asking.{derivation_has_outcome, outcome_is_derived, answers_true}
use Rattle.and_grammar_laws.proofs.Programs.{N, program_is, query_asks}
use Rattle.and_grammar_laws.proofs.grammars_list_derivations.Goals as goal

pub returns-clause-codes : goal.returns-clause-codes
returns-clause-codes c = λ t grammar n word cs h.
    let f : Bytes → ℕ = λ x. place x (N t grammar n word h) in (
      derivation_has_outcome f (program_for t n word) grammar n word (program_is t grammar n word h) (query_asks t grammar n word h) cs,
      outcome_is_derived f (program_for t n word) grammar n word (program_is t grammar n word h) (query_asks t grammar n word h) cs,
    )

pub returns-clause-answers : goal.returns-clause-answers
returns-clause-answers c = λ t grammar n word u o h ends.
    answers_true (λ x. place x (N t grammar n word h)) (program_for t n word) grammar n word (program_is t grammar n word h)
    (query_asks t grammar n word h) u o ends
