-- The clauses of a text's program name their own variables alone, lifted too.
use Rattle.std.proofs.Common.{suc, List, [], ◌∷◌}
use Rattle.and_model.specs.Lines.{Bytes}
use Rattle.and_model.specs.OwnVariables.{HaveOwnVariables}
use Rattle.and_source.specs.Source.{SourceClause, SourceProgram, HasOwnSourceVariables}
use Rattle.and_source.specs.Lifted.{lift}
use Rattle.and_source.proofs.OwnVariables.{AllOwn, lifted_own}
use Rattle.and_syntax.specs.Written.{place}
use Rattle.and_syntax.specs.Clauses.{body_of, asked_of}
use Rattle.and_syntax.specs.Tables.{names_with, all_names_with, disjunction_name, term_with}
use Rattle.and_syntax.proofs.OwnVariables.{clause_own, query_own}
use Rattle.and_language.specs.Refusals.{Reads}
use Rattle.and_language.proofs.EachClause.{OfEach, of_program}

pub own_variables : (bytes : Bytes) (P : SourceProgram) → Reads bytes P → HaveOwnVariables (lift P)
own_variables bytes P r =
    let own = of_program HasOwnSourceVariables
    (λ T w line e. clause_own (names_with T w) (λ d. place (disjunction_name d) (all_names_with T w (body_of (term_with T w)))) w (suc T.numbers) line
    (suc (suc T.numbers)) T.disjunctions)
    (λ T w line e. query_own (names_with T w) (λ d. place (disjunction_name d) (all_names_with T w (asked_of (term_with T w)))) w 0 line (suc T.numbers)
    T.disjunctions) bytes P r in
    lifted_own P (all P.earlier own.0) own.1 (all P.later own.2)
  where
    all : (ks : List SourceClause) → OfEach HasOwnSourceVariables ks → AllOwn ks
    all [] own = tt
    all (k ∷ ks) own = (own.0, all ks own.1)
