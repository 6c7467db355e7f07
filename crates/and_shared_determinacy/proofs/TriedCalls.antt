-- The node of a goal that can be tried, and what is left of its clauses.
use Rattle.std.proofs.Common.{ℕ, ◌+◌, ◌≡◌, List, [], replicate, sym, ap, subst, inl, inr, arith}
use Rattle.std.specs.Prelude.{All}
use Rattle.std.proofs.lemmas.List.{length-replicate}
use Rattle.std.proofs.lemmas.List.Elements.{All-contains}
use Rattle.and_model.specs.Terms.{Term}
use Rattle.and_model.specs.Programs.{Of}
use Rattle.and_model.specs.Stands.{term_of}
use Rattle.and_model.specs.Store.{is_half}
use Rattle.and_model.specs.declared.goal.Goal.{Goal}
use Rattle.and_model.specs.declared.numbers.ClauseNo.{ClauseNo}
use Rattle.and_model.specs.declared.reference.Ref.{Ref}
use Rattle.and_model.specs.declared.reference.Ref.TheVariants.{Free}
use Rattle.and_program.specs.Skeletons.{node_term}
use Rattle.and_program.specs.declared.node.NodeKind.{NodeKind}
use Rattle.and_cells.specs.Ranges.{NamedProgram, IsGoalInRange, IsNodeInRange}
use Rattle.and_cells.specs.Seen.{Seen}
use Rattle.and_cells.specs.Meaning.{equations_of}
use Rattle.and_cells.proofs.Among.{among_map}
use Rattle.and_model.specs.Candidates.{Candidate}
use Rattle.and_branch_laws.specs.Judging.{outside}
use Rattle.and_branch_laws.specs.Variables.{placed}
use Rattle.and_branch_laws.proofs.Lists.{all_of}
use Rattle.and_guards.specs.Goals.{CanBeJudged, IsNodeOf}
use Rattle.and_clause_index.specs.Looks.{IsLookOver}
use Rattle.and_clause_index.specs.Served.{NodeHas, AreServed}
use Rattle.and_clause_index.specs.declared.looking.Look.{Look}
use Rattle.and_clause_index.specs.declared.table.Determinacy.{Determinacy}
use Rattle.and_clause_index.specs.Selecting.{CanBeTried, IsNodeOver, HasSeen, IsWholeAt, IsNoCandidate, AreLeft}
use Rattle.and_shared_determinacy.specs.Sifting.{AreSifted}
use Rattle.and_clause_index.specs.Tables.{IsKnown, tried, entry_at}
use Rattle.and_clause_index.proofs.ClauseLists.{IsEarlier}
use Rattle.and_clause_index.proofs.Serving.{AreOwn, own_tried, first_serves}
use Rattle.and_shared_determinacy.proofs.Sifted.{sifted_there, sifted_all, sifted_in_order}
use Rattle.and_guards.proofs.Widening.{free_behind}

-- A goal that can be tried can be judged in a row of free words.
pub as_judged : (P : NamedProgram) (words : ℕ) (g : Goal) → CanBeTried P words g → CanBeJudged P (replicate words Free) g
as_judged P words g can = record {
  in_range = subst (λ (n : ℕ). IsGoalInRange P n g) (sym (length-replicate words Free)) can.in_range;
  term = can.term;
  is_call = can.is_call;
  whole = λ v c. ap is_half (free_behind [] words (g.base + 1 + v.1) (omega arith));
}

pub node_over : (P : NamedProgram) (words : ℕ) (g : Goal) (node : ℕ) → IsNodeOf P (replicate words Free) g node → IsNodeOver P words g node
node_over P words g node is = record {
  there = is.there;
  term = is.term;
  in_range = subst (λ (n : ℕ). IsNodeInRange P n node g.base) (length-replicate words Free) is.reads.in_range;
}

-- The clauses that a table has for what is known of a first argument are of the node's predicate.
pub of_served : (P : NamedProgram) (table : Determinacy) (node : ℕ) (first : NodeKind) (clauses : List ClauseNo) → IsKnown P table node
    → clauses ≡ tried (entry_at table node) first → All (λ (c : ClauseNo). Of P.program (node_term P.skeleton.nodes node) c.0) clauses
of_served P table node first clauses known same =
    subst (All (λ (c : ClauseNo). Of P.program (node_term P.skeleton.nodes node) c.0)) (sym same) (own_tried P node (entry_at table node) known first).of

module _ (P : NamedProgram) (table : Determinacy) (s : Seen) (words : ℕ) (g : Goal) (node : ℕ) (over : IsNodeOver P words g node) (look : Look)
    (is_look : IsLookOver P s node g.base look) (clauses : List ClauseNo) (known : IsKnown P table node)
    (same : clauses ≡ tried (entry_at table node) look.first) where
  -- The clauses that serve what a look at the call told are of its predicate, in textual order.
  served_own : AreOwn P node clauses
  served_own = subst (AreOwn P node) (sym same) (own_tried P node (entry_at table node) known look.first)

  -- Whatever the row is that has what is known, all candidates are among them.
  served_in : (row : List Ref) → HasSeen s row → AreServed P row node g.base clauses
  served_in row has =
      subst (AreServed P row node g.base) (sym same) (first_serves P row node g.base look (is_look row has.set) (entry_at table node) known)

  -- So those of them that were sifted are left.
  pub are_left : (out : List ClauseNo) → AreSifted (IsNoCandidate P s node g.base) clauses out → AreLeft P s g out
  are_left out sifted =
      let t : Term = node_term P.skeleton.nodes node in
      let Out : ClauseNo → Type 0 = IsNoCandidate P s node g.base in
      record {
        of = all_of (λ (c : ClauseNo). Of P.program (term_of P.program g) c.0) out (λ c i.
            subst (λ (x : Term). Of P.program x c.0) (sym over.term)
            (All-contains (λ (c : ClauseNo). Of P.program t c.0) clauses c served_own.of (sifted_there Out clauses out sifted c i)));
        rise = sifted_in_order Out IsEarlier clauses out sifted served_own.rise;
        all = λ row has whole k candidate.
            let c : ClauseNo = record { 0 = k } in
            let node_has : NodeHas P row node g.base c =
            subst (λ (x : Term). Candidate P.program (equations_of P row) outside (placed g.base x) k) over.term candidate in
            elim (sifted_all Out clauses out sifted c ((served_in row has).all c node_has)) [
              | inl there ↦ among_map (λ (no : ClauseNo). no.0) c out there
              | inr fell ↦ absurd (fell row has (subst (λ (x : Term). IsWholeAt row g.base x) over.term whole) node_has)
            ];
      }

-- The node is that of the goal, under another name of the program.
pub over_as_named : (P Q : NamedProgram) (words : ℕ) (g : Goal) (node : ℕ) → P ≡ Q → CanBeTried P words g → (CanBeTried Q words g → IsNodeOver Q words g node)
    → IsNodeOver P words g node
over_as_named P Q words g node same can over =
    subst (λ (x : NamedProgram). IsNodeOver x words g node) (sym same) (over (subst (λ (x : NamedProgram). CanBeTried x words g) same can))
