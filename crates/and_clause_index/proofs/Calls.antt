-- The clauses of a call's predicate serve it.
use Rattle.std.proofs.Common.{ℕ, ◌≡◌, Bool, true, true≢false, ◌&&◌, leb, ltb, nat_eq, List, length, refl, sym, ap, ◌∙◌, subst}
use Rattle.and_model.specs.Terms.{Term, Terms, variable, number, compound, none, more, apply_all}
use Rattle.and_model.specs.Programs.{Program, Of, clause_at, same_count, same_predicate}
use Rattle.and_model.specs.declared.numbers.ClauseNo.{ClauseNo}
use Rattle.and_model.specs.declared.reference.Ref.{Ref}
use Rattle.and_program.specs.Skeletons.{node_term}
use Rattle.and_laws.proofs.Substitutions.{and_left, and_right}
use Rattle.and_cells.specs.Ranges.{NamedProgram}
use Rattle.and_branch_laws.specs.Variables.{cells_from, placed}
use Rattle.and_branch_laws.proofs.Lists.{all_of}
use Rattle.and_clause_index.specs.Served.{AreServed}
use Rattle.and_clause_index.specs.Tables.{clauses_for}
use Rattle.and_clause_index.proofs.ClauseLists.{clauses_rise, of_listed, listed_of}

count_back : (b : ℕ) (ts us : Terms) → same_count (apply_all (cells_from b) ts) us ≡ same_count ts us
count_back b none none = refl
count_back b none (more u us) = refl
count_back b (more t ts) none = refl
count_back b (more t ts) (more u us) = count_back b ts us

predicate_back : (b : ℕ) (g h : Term) → same_predicate (placed b g) h ≡ true → same_predicate g h ≡ true
predicate_back b (variable q k) h e = absurd (true≢false (sym e))
predicate_back b (number z) h e = e
predicate_back b (compound c ts) (variable q k) e = e
predicate_back b (compound c ts) (number z) e = e
predicate_back b (compound c ts) (compound d us) e = ap (λ (x : Bool). nat_eq c d && x) (sym (count_back b ts us)) ∙ e

-- A clause of the call's predicate, in cells, is one of the call's.
pub of_placed : (P : Program) (b : ℕ) (g : Term) (c : ℕ) → Of P (placed b g) c → Of P g c
of_placed P b g c e =
    let there : Bool = ltb 0 c && leb c (length P.clauses) in
    let one : there ≡ true = and_left there (same_predicate (placed b g) (clause_at P c).head) e in
    let two : same_predicate g (clause_at P c).head ≡ true =
    predicate_back b g (clause_at P c).head (and_right there (same_predicate (placed b g) (clause_at P c).head) e) in
    rw (one, two) refl

-- The clauses of a node's predicate serve it.
pub predicate_serves : (P : NamedProgram) (row : List Ref) (node base : ℕ) (clauses : List ClauseNo)
    → clauses ≡ clauses_for P.program (node_term P.skeleton.nodes node) → AreServed P row node base clauses
predicate_serves P row node base clauses are =
    let t : Term = node_term P.skeleton.nodes node in
    let all : AreServed P row node base (clauses_for P.program t) = record {
      of = all_of (λ (c : ClauseNo). Of P.program t c.0) (clauses_for P.program t) (λ c i. listed_of P.program t c i);
      rise = clauses_rise P.program t;
      all = λ c has. of_listed P.program t c.0 (of_placed P.program base t c.0 has.0);
    } in
    subst (AreServed P row node base) (sym are) all
