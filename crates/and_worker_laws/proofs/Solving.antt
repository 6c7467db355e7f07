-- What a substitution that gives each variable of a tree what it gives to its cell makes of the frames' terms, and of those in the cells.
use Rattle.std.proofs.Common.{ℕ, ℤ, ◌+◌, ◌<◌, ◌≡◌, Bool, true, false, cond, List, [], ◌∷◌, Option, Some, None, refl, ap, sym, ◌∙◌}
use Rattle.and_model.specs.Terms.{Path, Term, Terms, variable, none, more, Substitution, apply, apply_all, framed}
use Rattle.and_model.specs.Solutions.{Equation, Solves, falsehood}
use Rattle.and_model.specs.Arithmetic.{value, holds}
use Rattle.and_model.specs.Programs.{Item, call, equal, arithmetic, fail, Arithmetic, is, compare, clause_at, arithmetic_in}
use Rattle.and_model.specs.Closure.{needs, equals, added}
use Rattle.and_model.specs.Reductions.{Reduction, PlaceHas}
use Rattle.and_model.specs.Stands.{ClauseHas, term_of}
use Rattle.and_model.specs.OwnVariables.{IsOwn}
use Rattle.and_model.specs.declared.goal.Goal.{Goal}
use Rattle.and_laws.proofs.Substitutions.{then, apply_then}
use Rattle.and_cells.specs.Ranges.{NamedProgram}
use Rattle.and_cells.specs.Meaning.{cell_variable}
use Rattle.and_branch_laws.specs.OwnVariables.{OwnVariables}
use Rattle.and_branch_laws.specs.Variables.{SpeaksOf, ArithmeticSpeaksOf, IsVariable, AreNames, cells_from, placed}
use Rattle.and_branch_laws.specs.Reducing.{body_equations, reduction_equations, reduction_in_cells}
use Rattle.and_branch_laws.proofs.Speaking.{speaks_agree}
use Rattle.and_branch_laws.proofs.Growing.{BodyIsOwn, head_is_own, body_is_own}
use Rattle.and_branch_laws.proofs.Owning.{own_speaks, term_speaks}
use Rattle.and_worker_laws.specs.PhaseCells.{Cells, AreCells, put_apart, cell_equations}
use Rattle.and_worker_laws.proofs.PhaseCells.{cells_give}
use Rattle.and_worker_laws.specs.Acts.{arithmetic_at}

-- The one substitution makes of the first equations, one by one, what the other makes of the second.
abbrev pub AreSame : Substitution → Substitution → List Equation → List Equation → Type 0
AreSame s t [] [] = Unit {0}
AreSame s t [] (d ∷ ds) = ⊥
AreSame s t (e ∷ es) [] = ⊥
AreSame s t (e ∷ es) (d ∷ ds) = (apply s e.0 ≡ apply t d.0) × (apply s e.1 ≡ apply t d.1) × AreSame s t es ds

pub same_there : (s t : Substitution) (es ds : List Equation) → AreSame s t es ds → Solves s es → Solves t ds
same_there s t [] [] a p = tt
same_there s t [] (d ∷ ds) a p = absurd a
same_there s t (e ∷ es) [] a p = absurd a
same_there s t (e ∷ es) (d ∷ ds) a p = (sym a.0 ∙ p.0 ∙ a.1, same_there s t es ds a.2 p.1)

pub same_back : (s t : Substitution) (es ds : List Equation) → AreSame s t es ds → Solves t ds → Solves s es
same_back s t [] [] a p = tt
same_back s t [] (d ∷ ds) a p = absurd a
same_back s t (e ∷ es) [] a p = absurd a
same_back s t (e ∷ es) (d ∷ ds) a p = (a.0 ∙ p.0 ∙ sym a.1, same_back s t es ds a.2 p.1)

equals_same : (s t : Substitution) (l m : Term) (z : Option ℤ) → apply s l ≡ apply t m → AreSame s t (equals l z) (equals m z)
equals_same s t l m None e = (refl, refl, tt)
equals_same s t l m (Some z) e = (e, refl, tt)

refuted_same : (s t : Substitution) (b : Bool) → AreSame s t (cond b [] (falsehood ∷ [])) (cond b [] (falsehood ∷ []))
refuted_same s t true = tt
refuted_same s t false = (refl, refl, tt)

module _ (P : NamedProgram) (rs : List Reduction) (names : Substitution) (named : AreNames rs names) (apart : Path) (cells : Cells)
    (are : AreCells (IsVariable P rs) names apart cells) (s : Substitution) (given : Solves s (cell_equations apart cells)) where
  -- what is read of cells by the substitution
  abbrev of_cells : Substitution
  of_cells = then (put_apart apart) s

  -- A frame of the tree, with the place and the clause whose it is.
  module _ (n c : ℕ) (q : Path) (place : PlaceHas rs n q) (clause : ClauseHas rs n c) where
    pub variable_same : (k : ℕ) → k < (clause_at P.program c).variables → s q k ≡ s apart (n + 1 + k)
    variable_same k low =
        let v : IsVariable P rs (q, k) = record { node = n; clause = c; place = place; clause_is = clause; own = low } in
        let (m, cell) = are.all (q, k) v in
        let is : cell_variable m ≡ cell_variable (n + 1 + k) = sym (are.named (q, k) m cell v) ∙ named n q place k in
        let number : m ≡ n + 1 + k = cc in
        cells_give apart s cells given (q, k) m cell ∙ ap (λ i. s apart i) number

    pub term_same : (x : Term) → SpeaksOf (IsOwn (clause_at P.program c).variables) x → apply s (framed q x) ≡ apply of_cells (placed n x)
    term_same x own =
        apply_then (λ r k. variable q k) s x
        ∙ speaks_agree (IsOwn (clause_at P.program c).variables) (then (λ r k. variable q k) s) (then (cells_from n) of_cells) x
        (λ v o. variable_same v.1 o.1) own
        ∙ sym (apply_then (cells_from n) of_cells x)

    pub needs_same : (a : Arithmetic) → ArithmeticSpeaksOf (IsOwn (clause_at P.program c).variables) a
        → apply_all s (needs (arithmetic_in q a)) ≡ apply_all of_cells (needs (arithmetic_at n a))
    needs_same (is l r) own = ap (λ x. more x none) (term_same r own.1)
    needs_same (compare o a b) own =
        ap (λ x. more x (more (apply s (framed q b)) none)) (term_same a own.0)
        ∙ ap (λ y. more (apply of_cells (placed n a)) (more y none)) (term_same b own.1)

    pub added_same : (a : Arithmetic) (ts : Terms) → ArithmeticSpeaksOf (IsOwn (clause_at P.program c).variables) a
        → AreSame s of_cells (added (arithmetic_in q a) ts) (added (arithmetic_at n a) ts)
    added_same (is l r) none own = tt
    added_same (is l r) (more x ts) own = equals_same s of_cells (framed q l) (placed n l) (value x) (term_same l own.0)
    added_same (compare o a b) none own = tt
    added_same (compare o a b) (more x none) own = tt
    added_same (compare o a b) (more x (more y ts)) own = refuted_same s of_cells (holds o x y)

    pub body_same : (items : List Item) → BodyIsOwn (clause_at P.program c).variables items
        → AreSame s of_cells (body_equations (framed q) items) (body_equations (placed n) items)
    body_same [] own = tt
    body_same (call g ∷ items) own = body_same items own.1
    body_same (equal a b ∷ items) own = let m = (clause_at P.program c).variables in
        (term_same a (own_speaks m a own.0), term_same b (own_speaks m b own.1), body_same items own.2)
    body_same (arithmetic (is l r) ∷ items) own = body_same items own.2
    body_same (arithmetic (compare o a b) ∷ items) own = body_same items own.2
    body_same (fail ∷ items) own = (refl, refl, body_same items own)

  -- A reduction asks in the tree what it asks in the cells.
  pub reduction_same : OwnVariables P → (g : Goal) (p : Path) → PlaceHas rs g.node p → ClauseHas rs g.node g.clause.0 → g.base ≡ g.node
      → (n c : ℕ) (q : Path) → PlaceHas rs n q → ClauseHas rs n c
      → AreSame s of_cells (reduction_equations P.program q (framed p (term_of P.program g)) c) (reduction_in_cells P.program g c n)
  reduction_same own g p place clause based n c q new_place new_clause = (
    term_same g.node g.clause.0 p place clause (term_of P.program g) (term_speaks P own g)
        ∙ ap (λ b. apply of_cells (placed b (term_of P.program g))) (sym based),
    term_same n c q new_place new_clause (clause_at P.program c).head
        (own_speaks (clause_at P.program c).variables (clause_at P.program c).head (head_is_own P own c)),
    body_same n c q new_place new_clause (clause_at P.program c).body (body_is_own P own c),
  )
