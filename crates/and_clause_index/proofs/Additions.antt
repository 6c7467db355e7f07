-- The clauses of a predicate, as they are put under their keys.
use Rattle.std.proofs.Common.{ℕ, ◌+◌, ◌≡◌, ◌<◌, ◌≤◌, List, [], ◌∷◌, ◌++◌, ◌⊎◌, Option, Some, None, inl, inr, length, get_or, map, take, sym, ap, ◌∙◌, subst}
use Rattle.std.specs.Prelude.{All}
use Rattle.std.proofs.lemmas.List.{take_more, map-append}
use Rattle.and_model.specs.Terms.{Term}
use Rattle.and_model.specs.Programs.{Program, clause_at}
use Rattle.and_model.specs.declared.numbers.ClauseNo.{ClauseNo}
use Rattle.and_first_argument.specs.Additions.{picked}
use Rattle.and_first_argument.specs.declared.key.Key.{Key}
use Rattle.and_first_argument.specs.declared.first_arguments.Addition.{Addition}
use Rattle.and_first_argument.specs.declared.first_arguments.FirstArguments.{FirstArguments}
use Rattle.and_branch_laws.proofs.Lists.{all_of}
use Rattle.and_clause_index.specs.Tables.{clauses_for, first_of, added, additions_of, picked_by, head_print, IsTableFor, IsEntryFor}
use Rattle.and_clause_index.specs.Sieves.{IsSieveOf}
use Rattle.and_clause_index.specs.declared.table.Predicate.{Predicate}
use Rattle.and_clause_index.proofs.ClauseLists.{listed_of, clause_there}

-- One clause more.
pub one_added : (P : Program) (cs : List ClauseNo) (i : ℕ) (none : ClauseNo) → i < length cs
    → additions_of P (take (i + 1) cs)
    ≡ additions_of P (take i cs) ++ added (first_of (clause_at P (get_or cs i none).0).head) (get_or cs i none) ∷ []
one_added P cs i none low =
    let one : ClauseNo → Addition = λ (c : ClauseNo). added (first_of (clause_at P c.0).head) c in
    ap (map one) (take_more cs i none low) ∙ map-append one (take i cs) (get_or cs i none ∷ [])

-- The clauses of a predicate are there.
pub all_there : (P : Program) (g : Term) (cs : List ClauseNo) → cs ≡ clauses_for P g → All (λ (c : ClauseNo). c.0 ≤ length P.clauses) cs
all_there P g cs is = subst (All (λ (c : ClauseNo). c.0 ≤ length P.clauses)) (sym is)
    (all_of (λ (c : ClauseNo). c.0 ≤ length P.clauses) (clauses_for P g) (λ c i. clause_there P g c.0 (listed_of P g c i)))

-- What is kept of a predicate with a table of its clauses, or without one, is its entry.
under_table : (P : Program) (all clauses : List ClauseNo) → all ≡ clauses → (table : Option FirstArguments)
    → IsTableFor (additions_of P clauses) table → (key : Key)
    → (picked_by table all key ≡ picked key (additions_of P clauses)) ⊎ (picked_by table all key ≡ clauses)
under_table P all clauses same None is key = inr same
under_table P all clauses same (Some table) is key = inl (is key)

pub entry_for : (P : Program) (clauses : List ClauseNo) (predicate : Predicate) → predicate.clauses.items ≡ clauses
    → IsTableFor (additions_of P clauses) predicate.by_first → IsSieveOf (head_print P) clauses predicate.sieve
    → IsEntryFor P clauses (Some predicate)
entry_for P clauses predicate same is sieve = record {
  all = same;
  under = under_table P predicate.clauses.items clauses same predicate.by_first is;
  sieve = sieve;
}
