-- A clause whose head is met by what a call was given is a candidate of the call, and stays one while the cells are free on which this rests.
use Rattle.std.proofs.Common.{ℕ, suc, ◌≡◌, true, true≢false, ◌&&◌, ltb, leb, nat_eq, List, [], ◌∷◌, length, map}
use Rattle.std.proofs.Common.{refl, sym, ap, ◌∙◌, subst, arith}
use Rattle.std.proofs.lemmas.Bool.{eqb-true}
use Rattle.and_model.specs.Terms.{Term, Terms, variable, compound, none, more, Substitution, apply, framed}
use Rattle.and_model.specs.Programs
use Rattle.and_model.specs.Programs.{Of, clause_at, same_count, same_predicate}
use Rattle.and_model.specs.Candidates
use Rattle.and_model.specs.Candidates.{Candidate, guard}
use Rattle.and_model.specs.declared.reference.Ref.{Ref}
use Rattle.and_program.specs.Skeletons
use Rattle.and_program.specs.Skeletons.{Shape, term_list, nth, shape_term, terms_behind, node_term, AllFall}
use Rattle.and_program.specs.Loaded.{shape_at, arguments_at}
use Rattle.and_program.specs.Shown.{arguments_in}
use Rattle.and_laws.proofs.ClausesOf.{of_applied}
use Rattle.and_laws.proofs.Substitutions.{and_left, and_right}
use Rattle.and_cells.specs.Ranges.{NamedProgram}
use Rattle.and_cells.specs.Rows.{IsSound}
use Rattle.and_cells.specs.Seen.{AreFree}
use Rattle.and_cells.specs.Meaning.{IsSettled, equations_of}
use Rattle.and_cells.specs.Solved.{IsMostGeneral}
use Rattle.and_cell_laws.proofs.Settling.{settled_rows_have_terms}
use Rattle.and_cell_laws.proofs.Structures.{node_term_shape}
use Rattle.and_cell_laws.proofs.TermsOfRows.{rows_with_terms_are_solutions}
use Rattle.and_branch_laws.specs.Variables.{cells_from, placed}
use Rattle.and_branch_laws.specs.Judging.{outside}
use Rattle.and_branch_laws.proofs.Widening.{solved_alike}
use Rattle.and_determinacy.specs.Seeing.{IsGiven, Meets, argument_pairs}
use Rattle.and_determinacy.specs.Watching.{StaysWhile}
use Rattle.and_determinacy.proofs.Fitted.{variable_given}
use Rattle.and_determinacy.proofs.FreeCalls.{no_guard}
use Rattle.and_determinacy.proofs.SureParts.{compound_is, pairs_solve}

-- ---- Before anything is given

-- the cells have what the row gives them, and all else is itself
begun : Substitution → Substitution
begun s [] k = s [] k
begun s (n ∷ q) k = variable (n ∷ q) k

nothing_given : (P : NamedProgram) (row : List Ref) → IsSound P row → IsSettled P row → (s : Substitution) × IsGiven P row [] [] s
unfolding begun
nothing_given P row sound settled =
    let general : IsMostGeneral P row (equations_of P row) = rows_with_terms_are_solutions P row sound ((settled_rows_have_terms P row sound).0 settled) in (
      begun general.solution,
      record {
        solves = solved_alike P row general.solution (begun general.solution) sound (λ cell low. refl) general.most_general.0;
        others = λ cell low was not. variable_given P row (equations_of P row) general cell low was;
        unseen = λ k past. refl;
        seen = λ k low. absurd (omega arith);
      },
    )

-- ---- Heads of the call's predicate

-- how many arguments a node has
same_width : (ts : List Term) (ns hs : List ℕ) (us : Terms) → us ≡ term_list (map (nth ts) hs) → same_count (term_list (map (nth ts) ns)) us ≡ true
    → length ns ≡ length hs
same_width ts [] [] us is same = refl
same_width ts [] (h ∷ hs) none is same = absurd (cc)
same_width ts [] (h ∷ hs) (more u us) is same = absurd (true≢false (sym same))
same_width ts (n ∷ ns) [] none is same = absurd (true≢false (sym same))
same_width ts (n ∷ ns) [] (more u us) is same = absurd (cc)
same_width ts (n ∷ ns) (h ∷ hs) none is same = absurd (true≢false (sym same))
same_width ts (n ∷ ns) (h ∷ hs) (more u us) is same = ap suc (same_width ts ns hs us (cc) same)

module _ (P : NamedProgram) (fall : AllFall 0 P.skeleton.nodes) where
  abbrev ts : List Term
  ts = terms_behind [] P.skeleton.nodes

  -- the call and the head have one name and as many arguments
  pub record AreAlike (node head : ℕ) : Type 0 where
    pub name : ℕ
    pub call : node_term P.skeleton.nodes node ≡ compound name (term_list (map (nth ts) (arguments_at P.skeleton node)))
    pub clause : node_term P.skeleton.nodes head ≡ compound name (term_list (map (nth ts) (arguments_at P.skeleton head)))
    pub counted : length (arguments_at P.skeleton node) ≡ length (arguments_at P.skeleton head)

  alike_shapes : (node head : ℕ) (a b : Shape) → shape_at P.skeleton node ≡ a → shape_at P.skeleton head ≡ b
      → same_predicate (shape_term ts a) (shape_term ts b) ≡ true → AreAlike node head
  alike_shapes node head (Skeletons.variable k) b one other same = absurd (true≢false (sym same))
  alike_shapes node head (Skeletons.number z) b one other same = absurd (true≢false (sym same))
  alike_shapes node head (Skeletons.compound c ns) (Skeletons.variable k) one other same = absurd (true≢false (sym same))
  alike_shapes node head (Skeletons.compound c ns) (Skeletons.number z) one other same = absurd (true≢false (sym same))
  alike_shapes node head (Skeletons.compound c ns) (Skeletons.compound d hs) one other same =
      let us : Terms = term_list (map (nth ts) ns) in
      let vs : Terms = term_list (map (nth ts) hs) in
      let name : c ≡ d = eqb-true c d (and_left (nat_eq c d) (same_count us vs) same) in
      let width : length ns ≡ length hs = same_width ts ns hs vs refl (and_right (nat_eq c d) (same_count us vs) same) in
      record {
        name = c;
        call = compound_is P fall node c ns one ∙ ap (λ (ms : List ℕ). compound c (term_list (map (nth ts) ms))) (sym (ap arguments_in one));
        clause = compound_is P fall head d hs other ∙ ap (λ (n : ℕ). compound n vs) (sym name)
            ∙ ap (λ (ms : List ℕ). compound c (term_list (map (nth ts) ms))) (sym (ap arguments_in other));
        counted = ap (λ (s : Shape). length (arguments_in s)) one ∙ width ∙ sym (ap (λ (s : Shape). length (arguments_in s)) other);
      }

  pub alike : (node head clause : ℕ) → node_term P.skeleton.nodes head ≡ (clause_at P.program clause).head
      → Of P.program (node_term P.skeleton.nodes node) clause → AreAlike node head
  alike node head clause is of =
      let same : same_predicate (node_term P.skeleton.nodes node) (clause_at P.program clause).head ≡ true =
      and_right (ltb 0 clause && leb clause (length P.program.clauses))
      (same_predicate (node_term P.skeleton.nodes node) (clause_at P.program clause).head) of in
      let nodes : same_predicate (node_term P.skeleton.nodes node) (node_term P.skeleton.nodes head) ≡ true =
      subst (λ (t : Term). same_predicate (node_term P.skeleton.nodes node) t ≡ true) (sym is) same in
      let left = node_term_shape P.skeleton.nodes node fall in
      let right = node_term_shape P.skeleton.nodes head fall in
      alike_shapes node head (shape_at P.skeleton node) (shape_at P.skeleton head) refl refl
      (subst (λ (t : Term). same_predicate (shape_term ts (shape_at P.skeleton node)) t ≡ true) right
      (subst (λ (t : Term). same_predicate t (node_term P.skeleton.nodes head) ≡ true) left nodes))

  -- ---- The candidate

  pub seen_stays : (row : List Ref) (base node head clause : ℕ) (has : List ℕ) (gives : List Ref)
      → node_term P.skeleton.nodes head ≡ (clause_at P.program clause).head → Of P.program (node_term P.skeleton.nodes node) clause
      → guard [] (clause_at P.program clause).body ≡ []
      → Meets P row [] has [] gives (argument_pairs P base (arguments_at P.skeleton node) (arguments_at P.skeleton head))
      → StaysWhile P row base (node_term P.skeleton.nodes node) has clause
  seen_stays row base node head clause has gives is of unguarded meets later grows sound settled free =
      let (s, given) = nothing_given P later sound settled in
      let on = meets.goes later grows sound settled free s given in
      let both = alike node head clause is of in
      let call : Term = node_term P.skeleton.nodes node in
      let z : Substitution = on.to in
      let one : apply z (placed base call) ≡ apply z (framed outside (clause_at P.program clause).head) =
      ap (λ (t : Term). apply z (placed base t)) both.call
      ∙ ap (compound both.name) (pairs_solve P fall base z (arguments_at P.skeleton node) (arguments_at P.skeleton head) both.counted on.solves)
      ∙ sym (ap (λ (t : Term). apply z (framed outside t)) both.clause)
      ∙ ap (λ (t : Term). apply z (framed outside t)) is in (
        of_applied P.program (cells_from base) call clause of,
        (z, (one, on.is.solves)),
        λ a i r. absurd (subst (λ (goals : List Programs.Arithmetic). Candidates.In a goals) (no_guard outside (clause_at P.program clause).body unguarded) i),
      )

-- What stays while cells are free is so now, if they are.
pub stays_now : (P : NamedProgram) (row : List Ref) (base : ℕ) (call : Term) (has : List ℕ) (clause : ℕ) → IsSound P row → IsSettled P row
    → AreFree row has → StaysWhile P row base call has clause → Candidate P.program (equations_of P row) outside (placed base call) clause
stays_now P row base call has clause sound settled free stays =
    stays row (record { longer = omega arith; set = λ place r is. is }) sound settled free
