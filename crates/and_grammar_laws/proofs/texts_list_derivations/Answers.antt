use Rattle.std.proofs.Common.{ℕ, ◌≡◌, ◌↔◌, Some, subst, codes}
use Rattle.and_model.specs.Lines.{Bytes}
use Rattle.and_model.specs.Programs.{Program}
use Rattle.and_model.specs.Trees.{QueryTree, HasOutcome, unfold_code}
use Rattle.and_model.specs.Listing.{Outcome, answer, Ends}
use Rattle.and_syntax.specs.Written.{place}
use Rattle.and_grammar_laws.specs.Derivations.{Derives}
use Rattle.and_grammar_laws.specs.Grammars.{program_for}
use Rattle.and_grammar_laws.proofs.Asking.{derivation_has_outcome, outcome_is_derived, answers_true}
use Rattle.and_grammar_laws.proofs.Programs.{N, program_is, query_asks}
use Rattle.and_grammar_laws.proofs.ReadTexts as read
use Rattle.and_grammar_laws.proofs.texts_list_derivations.Goals as goal

pub returns-clause-codes : goal.returns-clause-codes
returns-clause-codes c = λ bytes P grammar n word cs h.
    let t = read.text bytes P grammar n word h in
    let g = read.text_is bytes P grammar n word h in
    let f : Bytes → ℕ = λ x. place x (N t grammar n word g) in
    subst (λ (p : Program). Derives grammar n word cs ↔ ((u : QueryTree p) × (unfold_code p cs ≡ Some u) × HasOutcome u))
    (read.program_is bytes P grammar n word h) (
      derivation_has_outcome f (program_for t n word) grammar n word (program_is t grammar n word g) (query_asks t grammar n word g) cs,
      outcome_is_derived f (program_for t n word) grammar n word (program_is t grammar n word g) (query_asks t grammar n word g) cs,
    )

pub returns-clause-answers : goal.returns-clause-answers
returns-clause-answers c = λ bytes P grammar n word u o h ends.
    let t = read.text bytes P grammar n word h in
    let g = read.text_is bytes P grammar n word h in
    let f : Bytes → ℕ = λ x. place x (N t grammar n word g) in
    subst (λ (p : Program). (v : QueryTree p) (w : Outcome) → Ends v w → w ≡ answer (codes "true")) (read.program_is bytes P grammar n word h)
    (λ v w e. answers_true f (program_for t n word) grammar n word (program_is t grammar n word g) (query_asks t grammar n word g) v w e) u o ends
