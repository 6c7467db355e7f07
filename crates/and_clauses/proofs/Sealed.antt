-- From a table to its program, and to what is unknown in it.
use Rattle.std.proofs.Common.{◌≡◌, ◌≤◌, List, ◌∷◌, ◌++◌, map, Option, Some, None, Vec, sym, ap, ◌∙◌, subst}
use Rattle.std.specs.HashMap.{HashMap}
use Rattle.std.specs.Option.{option_map}
use Rattle.and_model.specs.Programs.{Clause, Program}
use Rattle.and_model.specs.declared.numbers.ClauseNo.{ClauseNo}
use Rattle.and_source.specs.Source.{SourceClause}
use Rattle.and_source.specs.Lifted.{lift}
use Rattle.and_syntax.specs.Tables
use Rattle.and_syntax.specs.Tables.{Table, empty, unknown_in, unknown_of, program_of}
use Rattle.and_program.specs.Kept.{IsProgram}
use Rattle.and_program.specs.Loaded.{program_in}
use Rattle.and_program.specs.Nodes.{shapes_of, names_of, entry_clause}
use Rattle.and_program.specs.Predicates.{Finds}
use Rattle.and_program.specs.declared.node.Node.{Node}
use Rattle.and_program.specs.declared.entry.ClauseEntry.{ClauseEntry}
use Rattle.and_program.specs.declared.predicates.Predicate.{Predicate}
use Rattle.and_clauses.specs.Kept.{IsKept}
use Rattle.and_judging.specs.Sealing.{IsUnknown, Refuses}
use Rattle.and_judging.specs.Unknown.{unknown_at, first_called}
use Rattle.and_clauses.specs.Views.{table_of}
use Rattle.and_judging.specs.declared.data.Called.{Called}
use Rattle.and_judging.specs.declared.data.SealFault.{SealFault}
use Rattle.and_judging.specs.declared.data.SealFault.TheVariants.{NoQuery, Unknown, Memory}
use Rattle.and_clauses.specs.declared.table.ClauseTable.{ClauseTable}
use Rattle.and_clauses.proofs.Keeping.{kept_program, kept_lifted}
use Rattle.and_clauses.proofs.TableCalls.{TableFits, all_fit, empty_fits, called_narrow, first_of_table}
use Rattle.and_judging.proofs.UnknownLemmas.{AreCalls, first_narrow}

pub Finds-same : {Z S : Type 0} (found : HashMap Predicate (Vec ClauseNo Z) S) (ns nodes : List Node) (cs es : List ClauseEntry) → ns ≡ nodes → cs ≡ es
    → Finds found (map (entry_clause (shapes_of ns)) cs) → Finds found (map (entry_clause (shapes_of nodes)) es)
Finds-same found ns nodes cs es same_nodes same_entries f =
    let P : List Node → Type 0 = λ xs. Finds found (map (entry_clause (shapes_of xs)) es) in
    let Q : List ClauseEntry → Type 0 = λ xs. Finds found (map (entry_clause (shapes_of ns)) xs) in
    subst P same_nodes (subst Q same_entries f)

-- the query of a table
module _ (t : ClauseTable) (e : ClauseEntry) (set : t.query ≡ Some e) where
  abbrev clauses : List Clause
  clauses = map (entry_clause (shapes_of t.lists.nodes.items)) t.lists.clauses.items

  kept : IsKept (shapes_of t.lists.nodes.items) t.lists.clauses.items (Some e) t.lists.calls.items (names_of t.lists.names.keys) t.used (table_of t)
  kept =
      subst (λ q. IsKept (shapes_of t.lists.nodes.items) t.lists.clauses.items q t.lists.calls.items (names_of t.lists.names.keys) t.used (table_of t)) set
      t.kept

  pub sealed_program : IsProgram (shapes_of t.lists.nodes.items) e t.lists.clauses.items (names_of t.lists.names.keys)
  sealed_program = kept_program (shapes_of t.lists.nodes.items) t.lists.clauses.items e t.lists.calls.items (names_of t.lists.names.keys)
      t.used (table_of t) kept

  lifted : (q : SourceClause) × ((table_of t).asked ≡ Some q)
      × (program_in (shapes_of t.lists.nodes.items) e t.lists.clauses.items (names_of t.lists.names.keys) ≡ lift (program_of (table_of t) q))
  lifted = kept_lifted (shapes_of t.lists.nodes.items) t.lists.clauses.items e t.lists.calls.items (names_of t.lists.names.keys) t.used (table_of t) kept

  fits : TableFits (table_of t)
  fits = all_fit empty t.added.items empty_fits

  pub call_narrow : (calls : List Called) (k : Called) → calls ≡ t.lists.calls.items → Some k ≡ first_called clauses calls → k.predicate.arity ≤ 255
  call_narrow calls k same first =
      first_narrow clauses calls k (subst AreCalls (sym (same ∙ kept.called)) (called_narrow (table_of t) lifted.0 fits lifted.1)) first

  told : (calls : List Called) (o : Option Called) → calls ≡ t.lists.calls.items → o ≡ first_called clauses calls
      → option_map (unknown_at (names_of t.lists.names.keys)) o ≡ unknown_of (table_of t) lifted.0
  told calls o same first =
      let T : Table = table_of t in
      let q : SourceClause = lifted.0 in
      let names = names_of t.lists.names.keys in
      ap (option_map (unknown_at names)) (first ∙ ap (first_called clauses) (same ∙ kept.called)) ∙ first_of_table names clauses T q fits lifted.1
      ∙ ap (λ ns. unknown_in ns clauses (T.earlier ++ q ∷ T.later)) kept.all_names
      ∙ ap (λ (P : Program). unknown_in T.names P.clauses (T.earlier ++ q ∷ T.later)) lifted.2

  pub refused : (calls : List Called) (k : Called) (fault : SealFault) → calls ≡ t.lists.calls.items → Some k ≡ first_called clauses calls
      → IsUnknown (unknown_at (names_of t.lists.names.keys) k) fault → Refuses (table_of t) fault
  refused calls k NoQuery same first h = absurd h
  refused calls k (Unknown name arity line) same first h =
      (lifted.0, lifted.1, sym (told calls (Some k) same first) ∙ ap (λ (v : Tables.Unknown). Some v) h)
  refused calls k Memory same first h = tt

  pub sealed : (calls : List Called) (P : Program) → calls ≡ t.lists.calls.items → None ≡ first_called clauses calls
      → P ≡ program_in (shapes_of t.lists.nodes.items) e t.lists.clauses.items (names_of t.lists.names.keys)
      → (q : SourceClause) × ((table_of t).asked ≡ Some q) × (unknown_of (table_of t) q ≡ None) × (P ≡ lift (program_of (table_of t) q))
  sealed calls P same first is = (lifted.0, lifted.1, sym (told calls None same first), is ∙ lifted.2)
