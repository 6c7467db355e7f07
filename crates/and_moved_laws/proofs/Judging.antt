-- A goal has the same candidates in a part and in the whole row.
use Rattle.std.proofs.Common.{ℕ, ◌+◌, ◌≡◌, List, [], ◌∷◌, refl, sym, ap, ◌∙◌, subst, inl, inr}
use Rattle.std.proofs.Common.{Contains}
use Rattle.and_model.specs.Terms.{Path, Term, Substitution, variable, apply, apply_all, more, none, variables_of, framed}
use Rattle.and_model.specs.Solutions.{Equation, Solves}
use Rattle.and_model.specs.Programs.{Program, Item, call, equal, arithmetic, fail, Arithmetic, is, compare, clause_at, head_in, Of}
use Rattle.and_model.specs.Closure.{needs}
use Rattle.and_model.specs.Candidates.{In, guard, Candidate}
use Rattle.and_model.specs.Stands.{term_of}
use Rattle.and_model.specs.declared.goal.Goal.{Goal}
use Rattle.and_model.specs.declared.reference.Ref.{Ref}
use Rattle.and_laws.proofs.ClausesOf.{of_applied}
use Rattle.and_laws.proofs.Substitutions.{then, same, apply_then, apply_same}
use Rattle.and_cells.specs.Ranges.{NamedProgram}
use Rattle.and_cells.specs.Rows.{IsSound}
use Rattle.and_cells.specs.Meaning.{IsSettled, equations_of, cell_variable}
use Rattle.and_cells.proofs.OneTerm.{apply_agree}
use Rattle.and_branch_laws.specs.Variables.{cells_from, placed}
use Rattle.and_branch_laws.specs.Judging.{outside, CandidateInCells}
use Rattle.and_moved_laws.specs.Parts.{moving, MovesTogether, IsPartOf, IsGoalOfPart, goal_moved}
use Rattle.and_moved_laws.proofs.Solving.{solves_part}
use Rattle.and_moved_laws.proofs.Extending.{drawn, drawn_back, Extension, extension}

-- ---- Candidates under other equations

-- These give the clause's variables the same terms.
abbrev AgreeOutside : Substitution → Substitution → Type 0
AgreeOutside s r = (k : ℕ) → r outside k ≡ s outside k

framed_agrees : (s r : Substitution) → AgreeOutside s r → (t : Term) → apply r (framed outside t) ≡ apply s (framed outside t)
framed_agrees s r h t =
    apply_then (λ q k. variable outside k) r t
    ∙ apply_agree (then (λ q k. variable outside k) r) (then (λ q k. variable outside k) s) t (λ v c. h v.1)
    ∙ sym (apply_then (λ q k. variable outside k) s t)

-- So they give the terms of a guard the same.
guard_agrees : (s r : Substitution) → AgreeOutside s r → (items : List Item) (a : Arithmetic) → In a (guard outside items)
    → apply_all r (needs a) ≡ apply_all s (needs a)
guard_agrees s r h [] a i = elim i [ ]
guard_agrees s r h (call g ∷ items) a i = elim i [ ]
guard_agrees s r h (equal b c ∷ items) a i = elim i [ ]
guard_agrees s r h (fail ∷ items) a i = elim i [ ]
guard_agrees s r h (arithmetic (is x y) ∷ items) a i = elim i [ ]
guard_agrees s r h (arithmetic (compare o b c) ∷ items) a (inl e) =
    subst (λ (x : Arithmetic). apply_all r (needs x) ≡ apply_all s (needs x)) (sym e)
    (ap (λ (x : Term). more x (more (apply r (framed outside c)) none)) (framed_agrees s r h b)
    ∙ ap (λ (x : Term). more (apply s (framed outside b)) (more x none)) (framed_agrees s r h c))
guard_agrees s r h (arithmetic (compare o b c) ∷ items) a (inr i) = guard_agrees s r h items a i

-- What solves the one call's equations makes something that solves the other's, and gives the clause's variables the same.
abbrev Goes : List Equation → List Equation → Term → Term → Type 0
Goes es ds g h = (s : Substitution) → Solves s es → (r : Substitution) × Solves r ds × (apply r h ≡ apply s g) × AgreeOutside s r

-- Then a candidate of the one is one of the other.
candidate_goes : (P : Program) (es ds : List Equation) (g h : Term) (c : ℕ) → Goes es ds g h → Of P h c → Candidate P es outside g c
    → Candidate P ds outside h c
candidate_goes P es ds g h c goes of k =
    let both : (s : Substitution) → Solves s ((g, head_in P outside c) ∷ es)
    → (r : Substitution) × Solves r ((h, head_in P outside c) ∷ ds) × AgreeOutside s r = λ s p.
    let (r, solves, call_is, agree) = goes s p.1 in
    (r, (call_is ∙ p.0 ∙ sym (framed_agrees s r agree (clause_at P c).head), solves), agree) in
    let found = both k.1.0 k.1.1 in (
      of,
      (found.0, found.1),
      λ a i x. k.2 a i (x.0, (x.1.0, λ s p. (let r = both s p in sym (guard_agrees s r.0 r.2 (clause_at P c).body a i) ∙ x.1.1 r.0 r.1)), x.2),
    )

-- ---- A goal of the part

-- A term in a frame that was moved together is that in the frame where it was moved to, with the cells named anew.
pub placed_moved : (at : ℕ → ℕ) (base : ℕ) (t : Term) → MovesTogether at base t → apply (moving at) (placed base t) ≡ placed (at base) t
placed_moved at base t near =
    apply_then (cells_from base) (moving at) t
    ∙ apply_agree (then (cells_from base) (moving at)) (cells_from (at base)) t (λ v c. ap cell_variable (near v c))

module _ (P : NamedProgram) (at : ℕ → ℕ) (part whole : List Ref) (m : IsPartOf P at part whole) (g : Goal)
    (near : MovesTogether at g.base (term_of P.program g)) where
  -- Its call there is the one here, with the cells named anew,
  moved_call : placed (at g.base) (term_of P.program g) ≡ apply (moving at) (placed g.base (term_of P.program g))
  moved_call = sym (placed_moved at g.base (term_of P.program g) near)

  -- and the other way round.
  call_back : apply (drawn at m.rises same) (placed (at g.base) (term_of P.program g)) ≡ placed g.base (term_of P.program g)
  call_back = ap (apply (drawn at m.rises same)) moved_call ∙ apply_then (moving at) (drawn at m.rises same) (placed g.base (term_of P.program g))
      ∙ ap (λ (s : Substitution). apply s (placed g.base (term_of P.program g))) (drawn_back at m.rises same)
      ∙ apply_same (placed g.base (term_of P.program g))

  -- Its candidates there are candidates here.
  pub candidate_here : (c : ℕ) → CandidateInCells P whole (goal_moved at g) c → CandidateInCells P part g c
  candidate_here c k =
      let term : Term = term_of P.program g in
      let goes : Goes (equations_of P whole) (equations_of P part) (placed (at g.base) term) (placed g.base term) = λ s p. (
        then (moving at) s,
        solves_part P at part whole m s p,
        sym (apply_then (moving at) s (placed g.base term)) ∙ ap (apply s) (sym moved_call),
        λ n. refl,
      ) in
      candidate_goes P.program (equations_of P whole) (equations_of P part) (placed (at g.base) term) (placed g.base term) c goes
      (subst (λ (t : Term). Of P.program t c) call_back (of_applied P.program (drawn at m.rises same) (placed (at g.base) term) c k.0)) k

module _ (P : NamedProgram) (at : ℕ → ℕ) (part whole : List Ref) (m : IsPartOf P at part whole) (g : Goal) (o : IsGoalOfPart P at part g) where
  abbrev term : Term
  term = term_of P.program g

  -- what other substitutions make of its cells
  there_is : (s r : Substitution) → ((v : Path × ℕ) → Contains (variables_of (term_of P.program g)) v
      → r [] (at g.base + 1 + v.1) ≡ s [] (g.base + 1 + v.1)) → apply r (placed (at g.base) term) ≡ apply s (placed g.base term)
  there_is s r h =
      apply_then (cells_from (at g.base)) r term
      ∙ apply_agree (then (cells_from (at g.base)) r) (then (cells_from g.base) s) term h
      ∙ sym (apply_then (cells_from g.base) s term)

  pub call_moved : placed (at g.base) term ≡ apply (moving at) (placed g.base term)
  call_moved = moved_call P at part whole m g o.together

  -- Where all its cells are the part's, and none is a word of a pair, those here are candidates there.
  pub candidate_there : IsSound P whole → IsSettled P whole → (c : ℕ) → CandidateInCells P part g c
      → CandidateInCells P whole (goal_moved at g) c
  candidate_there sound settled c k =
      let goes : Goes (equations_of P part) (equations_of P whole) (placed g.base term) (placed (at g.base) term) = λ s p.
      let e : Extension P at part whole m sound settled s = extension P at part whole m sound settled s p in (
        e.solution,
        e.solves,
        there_is s e.solution (λ v i. ap (e.solution []) (sym (o.together v i))
            ∙ e.cells (g.base + 1 + v.1) (o.within v i) (o.whole v i)),
        λ n. e.frames 0 [] n,
      ) in
      candidate_goes P.program (equations_of P part) (equations_of P whole) (placed g.base term) (placed (at g.base) term) c goes
      (subst (λ (t : Term). Of P.program t c) (sym call_moved) (of_applied P.program (moving at) (placed g.base term) c k.0)) k
