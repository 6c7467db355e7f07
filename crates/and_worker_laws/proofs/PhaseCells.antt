-- Cells that stand for the variables of a tree, and equations that have the same solutions on both.
use Rattle.std.proofs.Common.{ℕ, ◌≡◌, true, cond, nat_eq, List, [], ◌∷◌, ◌++◌, refl, ap, sym, subst, ◌∙◌, inl, inr, Contains}
use Rattle.std.proofs.lemmas.Bool.Decides.{eqb_tells}
use Rattle.and_laws.proofs.Equality.{bool_cases}
use Rattle.and_model.specs.Terms.{Path, Term, variable, Substitution, apply}
use Rattle.and_model.specs.Solutions.{Equation, Solves, Entails}
use Rattle.and_model.specs.Lines.{same_path}
use Rattle.and_laws.specs.Naming.{under}
use Rattle.and_laws.proofs.Printing.{same_path_true, same_path_self}
use Rattle.and_laws.proofs.Ordered.{contains_first, contains_more, contains_cases, contains_none}
use Rattle.and_laws.proofs.Substitutions.{then}
use Rattle.and_laws.proofs.Solving.{solves_join, solves_front, solves_back}
use Rattle.and_phase_laws.specs.Sharing.{Meant, Gives, Alike}
use Rattle.and_branch_laws.specs.Variables.{EquationsSpeakOf}
use Rattle.and_branch_laws.proofs.Speaking.{speaks_solves, under_then, then_under}
use Rattle.and_worker_laws.specs.PhaseCells.{Cells, put_apart, cell_equations, AreCells, IsNamedCell}

-- What a substitution gives to the variable that has the cell, if one has it.
value_at : Cells → Substitution → ℕ → Term
value_at [] s n = variable [] n
value_at (c ∷ cells) s n = cond (nat_eq c.1 n) (s c.0.0 c.0.1) (value_at cells s n)

-- Of cells none of which stands for two variables, this is what it gives to a variable that has the cell.
module _ (all : Cells) (one : (u v : Path × ℕ) (n : ℕ) → Contains all (u, n) → Contains all (v, n) → u ≡ v) (s : Substitution) where
  value_found : (cells : Cells) → ((c : (Path × ℕ) × ℕ) → Contains cells c → Contains all c) → (v : Path × ℕ) (n : ℕ) → Contains cells (v, n)
      → value_at cells s n ≡ s v.0 v.1
  unfolding value_at
  value_found [] of v n c = absurd (contains_none (v, n) c)
  value_found (x ∷ cells) of v n c = elim (eqb_tells x.1 n) [
    | inl same ↦
        let here : Contains all (x.0, n) = subst (λ (m : ℕ). Contains all (x.0, m)) same.1 (of x (contains_first x cells)) in
        ap (λ b. cond b (s x.0.0 x.0.1) (value_at cells s n)) same.0 ∙ ap (λ (u : Path × ℕ). s u.0 u.1) (one x.0 v n here (of (v, n) c))
    | inr other ↦
        ap (λ b. cond b (s x.0.0 x.0.1) (value_at cells s n)) other.0 ∙ elim (contains_cases x (v, n) cells c) [
          | inl is ↦ absurd (other.1 (sym (ap (λ (d : (Path × ℕ) × ℕ). d.1) is)))
          | inr later ↦ value_found cells (λ d e. of d (contains_more x d cells e)) v n later
        ]
  ]

-- A substitution of cells, and one of the other variables, in one.
both : (apart : Path) (of_cells : ℕ → Term) → Substitution → Substitution
both apart of_cells s q k = cond (same_path q apart) (of_cells k) (s q k)

both_cell : (apart : Path) (of_cells : ℕ → Term) (s : Substitution) (k : ℕ) → both apart of_cells s apart k ≡ of_cells k
unfolding both
both_cell apart of_cells s k = ap (λ b. cond b (of_cells k) (s apart k)) (same_path_self apart)

both_other : (apart : Path) (of_cells : ℕ → Term) (s : Substitution) (q : Path) (k : ℕ) → (q ≡ apart → ⊥) → both apart of_cells s q k ≡ s q k
unfolding both
both_other apart of_cells s q k other = elim (bool_cases (same_path q apart)) [
  | inl is ↦ absurd (other (same_path_true q apart is))
  | inr is ↦ ap (λ b. cond b (of_cells k) (s q k)) is
]

-- A substitution solves the equations of cells where it gives each variable what it gives to its cell, and then alone.
cells_solved : (apart : Path) (r : Substitution) (cells : Cells) → ((v : Path × ℕ) (n : ℕ) → Contains cells (v, n) → r v.0 v.1 ≡ r apart n)
    → Solves r (cell_equations apart cells)
cells_solved apart r [] h = tt
cells_solved apart r (c ∷ cells) h = (h c.0 c.1 (contains_first c cells), cells_solved apart r cells (λ v n x. h v n (contains_more c (v, n) cells x)))

pub cells_give : (apart : Path) (r : Substitution) (cells : Cells) → Solves r (cell_equations apart cells) → (v : Path × ℕ) (n : ℕ) → Contains cells (v, n)
    → r v.0 v.1 ≡ r apart n
cells_give apart r [] p v n c = absurd (contains_none (v, n) c)
cells_give apart r (x ∷ cells) p v n c = elim (contains_cases x (v, n) cells c) [
  | inl is ↦ ap (λ (d : (Path × ℕ) × ℕ). r d.0.0 d.0.1) is ∙ p.0 ∙ ap (λ (d : (Path × ℕ) × ℕ). r apart d.1) (sym is)
  | inr later ↦ cells_give apart r cells p.1 v n later
]

module _ (V : Path × ℕ → Type 0) (names : Substitution) (apart : Path) (cells : Cells) (a : AreCells V names apart cells) (meant : Meant)
    (es solved : List Equation)
    (speaks : EquationsSpeakOf V solved) where
  -- what the names make of a variable that has a cell
  named_as : (t : Substitution) (v : Path × ℕ) (n : ℕ) → Contains cells (v, n) → V v → then names t v.0 v.1 ≡ t [] n
  named_as t v n c x = ap (λ (y : Term). apply t y) (a.named v n c x)

  -- Equations of cells that state a tree's, with its variables named, and nothing else, are alike with these.
  pub cells_alike : Entails es (under names solved) → Entails (under names solved) es → ((k : ℕ) → meant apart k ≡ true → ⊥)
      → Alike meant solved (under (put_apart apart) es ++ cell_equations apart cells)
  cells_alike states stated unmeant = (to_cells, to_tree) where
    to_cells : Gives meant solved (under (put_apart apart) es ++ cell_equations apart cells)
    to_cells s p =
        let r : Substitution = both apart (value_at cells s) s in
        let of_cell : (v : Path × ℕ) (n : ℕ) → Contains cells (v, n) → r apart n ≡ s v.0 v.1 =
        λ v n c. both_cell apart (value_at cells s) s n ∙ value_found cells a.one s cells (λ d e. e) v n c in
        let of_variable : (v : Path × ℕ) (n : ℕ) → Contains cells (v, n) → r v.0 v.1 ≡ s v.0 v.1 =
        λ v n c. both_other apart (value_at cells s) s v.0 v.1 (a.elsewhere v n c) in
        let t : Substitution = then (put_apart apart) r in
        let agree : (v : Path × ℕ) → V v → s v.0 v.1 ≡ then names t v.0 v.1 =
        λ v x. let (n, c) = a.all v x in sym (named_as t v n c x ∙ of_cell v n c) in
        let here : Solves t es = stated t (then_under names t solved (speaks_solves V s (then names t) solved agree speaks p)) in (
          r,
          solves_join r (under (put_apart apart) es) (cell_equations apart cells) (then_under (put_apart apart) r es here)
              (cells_solved apart r cells (λ v n c. of_variable v n c ∙ sym (of_cell v n c))),
          λ q k is. both_other apart (value_at cells s) s q k (λ e. unmeant k (subst (λ z. meant z k ≡ true) e is)),
        )

    to_tree : Gives meant (under (put_apart apart) es ++ cell_equations apart cells) solved
    to_tree s p =
        let t : Substitution = then (put_apart apart) s in
        let here : Solves t es = under_then (put_apart apart) s es (solves_front s (under (put_apart apart) es) (cell_equations apart cells) p) in
        let given = solves_back s (under (put_apart apart) es) (cell_equations apart cells) p in
        let agree : (v : Path × ℕ) → V v → then names t v.0 v.1 ≡ s v.0 v.1 =
        λ v x. let (n, c) = a.all v x in named_as t v n c x ∙ sym (cells_give apart s cells given v n c) in
        (s, speaks_solves V (then names t) s solved agree speaks (under_then names t solved (states t here)), λ q k is. refl)

  -- And where they are alike they state them, and nothing else, if they speak of cells alone that stand for variables.
  pub alike_cells : EquationsSpeakOf (IsNamedCell cells) es → ((v : Path × ℕ) (n : ℕ) → Contains cells (v, n) → V v)
      → ((v : Path × ℕ) (n : ℕ) → Contains cells (v, n) → meant v.0 v.1 ≡ true)
      → Alike meant (under (put_apart apart) es ++ cell_equations apart cells) solved → Entails es (under names solved) × Entails (under names solved) es
  alike_cells of_cells only means alike = (states, stated) where
    states : Entails es (under names solved)
    states t p =
        let s : Substitution = both apart (λ k. t [] k) (then names t) in
        let cell : (n : ℕ) → s apart n ≡ t [] n = λ n. both_cell apart (λ k. t [] k) (then names t) n in
        let here : Solves (then (put_apart apart) s) es =
        speaks_solves (IsNamedCell cells) t (then (put_apart apart) s) es (λ v x. ap (λ (q : Path). t q v.1) x.0 ∙ sym (cell v.1)) of_cells p in
        let given : Solves s (cell_equations apart cells) = cells_solved apart s cells
        (λ v n c. both_other apart (λ k. t [] k) (then names t) v.0 v.1 (a.elsewhere v n c) ∙ named_as t v n c (only v n c) ∙ sym (cell n)) in
        let (r, q, agree) = alike.0 s
        (solves_join s (under (put_apart apart) es) (cell_equations apart cells) (then_under (put_apart apart) s es here) given) in
        then_under names t solved (speaks_solves V r (then names t) solved
        (λ v x. let (n, c) = a.all v x in agree v.0 v.1 (means v n c) ∙ both_other apart (λ k. t [] k) (then names t) v.0 v.1 (a.elsewhere v n c)) speaks q)

    stated : Entails (under names solved) es
    stated t p =
        let (r, q, agree) = alike.1 (then names t) (under_then names t solved p) in
        let given = solves_back r (under (put_apart apart) es) (cell_equations apart cells) q in
        let here : Solves (then (put_apart apart) r) es =
        under_then (put_apart apart) r es (solves_front r (under (put_apart apart) es) (cell_equations apart cells) q) in
        speaks_solves (IsNamedCell cells) (then (put_apart apart) r) t es
        (λ v x. let (u, c) = x.1 in sym (cells_give apart r cells given u v.1 c) ∙ agree u.0 u.1 (means u v.1 c) ∙ named_as t u v.1 c (only u v.1 c)
        ∙ ap (λ (z : Path). t z v.1) (sym x.0))
        of_cells here
