-- What is compiled of a program serves another that has the same clauses.
use Rattle.std.proofs.Common.{ℕ, zero, suc, ◌≡◌, ◌<◌, ◌≤◌, List, [], ◌∷◌, ◌+◌, length, get_or, map, Option, Some, refl, sym, ap, ◌∙◌, subst, inl, inr, arith}
use Rattle.std.specs.Prelude.{slice_get}
use Rattle.std.proofs.Math.ListN.{get_or-map}
use Rattle.std.proofs.lemmas.List.{length-map, get_or_past}
use Rattle.std.proofs.lemmas.Option.{none-some}
use Rattle.and_model.specs.Terms.{Term, variable, number, compound, width}
use Rattle.and_model.specs.Programs.{Program, Clause, clause_at}
use Rattle.and_model.specs.declared.numbers.ClauseNo.{ClauseNo}
use Rattle.and_program.specs.Items.{node_item}
use Rattle.and_program.specs.Kept.{AllEntries}
use Rattle.and_program.specs.Loaded.{program_of, skeleton_of, nodes_at, node_clause, nodes_in}
use Rattle.and_program.specs.Nodes.{entry_clause}
use Rattle.and_program.specs.Shown.{clauses_with, truth}
use Rattle.and_program.specs.Skeletons.{Shape, NodeClause, call, node_term}
use Rattle.and_program.specs.declared.entry.ClauseEntry.{ClauseEntry}
use Rattle.and_program.specs.declared.loaded.Loaded.{Loaded}
use Rattle.and_program.proofs.LoadedLemmas.{query_head}
use Rattle.and_cells.specs.Parts.{named}
use Rattle.and_clauses.specs.Asking.{Ground, StandsOn}
use Rattle.and_clauses.proofs.Questions.{clauses_stay}
use Rattle.and_clauses.proofs.LiftSteps.{term_kept}
use Rattle.and_first_argument.specs.Additions.{picked}
use Rattle.and_clause_index.specs.Prints.{ArePrints, print_of}
use Rattle.and_clause_index.specs.Tables.{clauses_for, first_of, added, additions_of, entry_at, head_print, sieve_in, IsEntryFor, IsKnown, AreFirsts, IsMade}
use Rattle.and_clause_index.specs.Tables.{KnowsCalls}
use Rattle.and_clause_index.specs.declared.table.Determinacy.{Determinacy}
use Rattle.and_clause_index.specs.declared.table.Predicate.{Predicate}
use Rattle.and_clause_index.proofs.Entries.{call_there}
use Rattle.and_clause_index.proofs.Sifting.{sieve_moves}
use Rattle.and_kept_table.specs.KeptTables.{IsCompiled}
use Rattle.and_kept_table.specs.declared.kept.KeptTable.{KeptTable}

-- ---- Two programs with the same clauses, whose queries have the same head

pub record AreAlike (P Q : Program) : Type 0 where
  pub clauses : P.clauses ≡ Q.clauses
  pub heads : P.query.head ≡ Q.query.head

clauses_alike : (P Q : Program) (t : Term) → P.clauses ≡ Q.clauses → clauses_for P t ≡ clauses_for Q t
clauses_alike P Q (variable q k) e = refl
clauses_alike P Q (number z) e = refl
clauses_alike P Q (compound c ts) e = ap (clauses_with c (width ts) 1) e

abbrev head_of : Clause → Term
head_of c = c.head

module _ (P Q : Program) (alike : AreAlike P Q) where
  heads_alike : (n : ℕ) → (clause_at P n).head ≡ (clause_at Q n).head
  heads_alike n =
      sym (get_or-map head_of (P.query ∷ P.clauses) n P.query)
      ∙ ap (λ t. get_or (t ∷ map head_of P.clauses) n t) alike.heads
      ∙ ap (λ cs. get_or (Q.query.head ∷ map head_of cs) n Q.query.head) alike.clauses
      ∙ get_or-map head_of (Q.query ∷ Q.clauses) n Q.query

  additions_alike : (cs : List ClauseNo) → additions_of P cs ≡ additions_of Q cs
  additions_alike [] = refl
  additions_alike (c ∷ cs) =
      ap (λ t. added (first_of t) c ∷ additions_of P cs) (heads_alike c.0) ∙ ap (λ xs. added (first_of (clause_at Q c.0).head) c ∷ xs) (additions_alike cs)

  entry_moves : (ps qs : List ClauseNo) (entry : Option Predicate) → ps ≡ qs → IsEntryFor P ps entry → IsEntryFor Q qs entry
  entry_moves ps qs entry same e =
      let here : IsEntryFor Q ps entry = record {
        all = e.all;
        under = λ key. elim (e.under key) [
          | inl picks ↦ inl (picks ∙ ap (picked key) (additions_alike ps))
          | inr whole ↦ inr whole
        ];
        sieve = sieve_moves (head_print P) (head_print Q) ps (λ c i. ap print_of (heads_alike c.0)) (sieve_in entry) e.sieve;
      } in
      subst (λ cs. IsEntryFor Q cs entry) same here

  firsts_move : (predicates : List Predicate) (firsts : List ℕ) → AreFirsts P predicates firsts → AreFirsts Q predicates firsts
  firsts_move predicates firsts f = record {
    some = f.some;
    empty = entry_moves [] [] (slice_get predicates 0) refl f.empty;
    found = f.found;
    entries = λ k there. entry_moves (clauses_for P (clause_at P k).head) (clauses_for Q (clause_at Q k).head) (slice_get predicates (get_or firsts k 0))
        (clauses_alike P Q (clause_at P k).head alike.clauses ∙ ap (clauses_for Q) (heads_alike k)) (f.entries k there);
  }

  prints_move : (table : Determinacy) → ArePrints P table.prints.items → ArePrints Q table.prints.items
  prints_move table p = record {
    many = p.many ∙ ap (λ (cs : List Clause). length cs + 1) alike.clauses;
    each = λ c low. p.each c (subst (λ (cs : List Clause). c ≤ length cs) (sym alike.clauses) low) ∙ ap print_of (heads_alike c);
  }

  made_moves : (table : Determinacy) (firsts : List ℕ) → IsMade P table firsts → IsMade Q table firsts
  made_moves table firsts m = record {
    numbered = m.numbered;
    entries = firsts_move table.predicates.items firsts m.entries;
    prints = prints_move table m.prints;
  }

-- ---- Two programs on the same ground

head_true : (l : Loaded) → (program_of l).query.head ≡ truth
head_true l = ap (node_term (nodes_in l)) l.kept.query_true ∙ query_head (nodes_in l) l.kept.begins

clauses_are : (g : Ground) (l : Loaded) → StandsOn g l → (program_of l).clauses ≡ map (entry_clause g.nodes) g.entries
clauses_are g l s =
    ap (map (entry_clause (nodes_in l))) s.entries ∙ clauses_stay g.nodes (nodes_in l) g.entries s.begins s.there

pub are_alike : (g : Ground) (l m : Loaded) → StandsOn g l → StandsOn g m → AreAlike (program_of l) (program_of m)
are_alike g l m s t = record {
  clauses = clauses_are g l s ∙ sym (clauses_are g m t);
  heads = head_true l ∙ sym (head_true m);
}

-- the nodes of a clause
clause_nodes : (l : Loaded) (es : List ClauseEntry) (k : ℕ) → l.clauses.items ≡ es
    → nodes_at (skeleton_of l) (suc k) ≡ get_or (map node_clause es) k (record { head = 0; items = [] })
clause_nodes l es k same = ap (λ xs. get_or (map node_clause xs) k (record { head = 0; items = [] })) same

call_below : (ss : List Shape) (es : List ClauseEntry) (k i node : ℕ) → AllEntries ss es
    → slice_get (get_or (map node_clause es) k (record { head = 0; items = [] })).items i ≡ Some (call node) → node < length ss
call_below ss [] k i node a e = absurd (none-some (call node) e)
call_below ss (x ∷ es) zero i node a e = call_there ss 0 (map node_item x.items.items) i node a.0.1 e
call_below ss (x ∷ es) (suc k) i node a e = call_below ss es k i node a.1 e

module _ (g : Ground) (l m : Loaded) (s : StandsOn g l) (t : StandsOn g m) (table : Determinacy) where
  known_moves : (node : ℕ) → node < length g.nodes → IsKnown (named l) table node → IsKnown (named m) table node
  known_moves node low k =
      let P : Program = program_of l in
      let Q : Program = program_of m in
      let same : node_term (nodes_in l) node ≡ node_term (nodes_in m) node =
      term_kept g.nodes (nodes_in l) node s.begins low ∙ sym (term_kept g.nodes (nodes_in m) node t.begins low) in
      entry_moves P Q (are_alike g l m s t) (clauses_for P (node_term (nodes_in l) node)) (clauses_for Q (node_term (nodes_in m) node)) (entry_at table node)
      (ap (clauses_for P) same ∙ clauses_alike P Q (node_term (nodes_in m) node) (are_alike g l m s t).clauses) k

  pub calls_move : (clause : ℕ) → 0 < clause → KnowsCalls (named l) table clause → KnowsCalls (named m) table clause
  calls_move zero some k = absurd (omega arith)
  calls_move (suc c) some k = λ i node e.
      let here = ap (λ (n : NodeClause). slice_get n.items i) (sym (clause_nodes m g.entries c t.entries)) ∙ e in
      known_moves node (call_below g.nodes g.entries c i node t.there here)
      (k i node (ap (λ (n : NodeClause). slice_get n.items i) (clause_nodes l g.entries c s.entries) ∙ here))

-- a number past all clauses has no items
pub none_past : (l : Loaded) (clause i node : ℕ) → length (program_of l).clauses < clause
    → slice_get (nodes_at (skeleton_of l) clause).items i ≡ Some (call node) → ⊥
none_past l clause i node past e =
    let none : NodeClause = record { head = 0; items = [] } in
    let clauses : List NodeClause = (skeleton_of l).clauses in
    let nodes = length-map l.clauses.items node_clause in
    let terms = length-map l.clauses.items (entry_clause (nodes_in l)) in
    let many : length clauses ≤ clause = omega (arith, nodes, terms, past) in
    let at : nodes_at (skeleton_of l) clause ≡ none = get_or_past clauses clause none many in
    none-some (call node) (sym (ap (λ (k : NodeClause). slice_get k.items i) at) ∙ e)

-- those of the query and of the clauses are all
pub all_known : (l : Loaded) (table : Determinacy) → KnowsCalls (named l) table 0 → ((clause : ℕ) → 0 < clause → KnowsCalls (named l) table clause)
    → (clause i node : ℕ) → slice_get (nodes_at (skeleton_of l) clause).items i ≡ Some (call node) → IsKnown (named l) table node
all_known l table query clauses zero = query
all_known l table query clauses (suc c) = clauses (suc c) (omega arith)

pub compiled_moves : (g : Ground) (l m : Loaded) (k : KeptTable) → StandsOn g l → StandsOn g m → IsCompiled k l → IsCompiled k m
compiled_moves g l m k s t c = record {
  made = made_moves (program_of l) (program_of m) (are_alike g l m s t) k.table k.firsts.items c.made;
  known = λ clause some. calls_move g l m s t k.table clause some (c.known clause some);
}
