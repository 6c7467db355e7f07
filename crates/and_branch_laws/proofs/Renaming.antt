-- Candidates under equations whose variables were named by cells.
use Rattle.std.proofs.Common.{ℕ, ◌≡◌, true, not, List, [], ap, sym, subst, inl, inr}
use Rattle.and_model.specs.Terms.{Path, Term, variable, Substitution, apply}
use Rattle.and_model.specs.Solutions.{Equation, Entails}
use Rattle.and_model.specs.Programs.{Program}
use Rattle.and_model.specs.Candidates.{Candidate}
use Rattle.and_model.specs.Lines.{same_path}
use Rattle.and_laws.specs.Naming.{Variables, IsOver, EquationsOver, others, under}
use Rattle.and_laws.proofs.Equality.{bool_cases}
use Rattle.and_laws.proofs.Printing.{same_path_true, same_path_self}
use Rattle.and_laws.proofs.FreshFrames.{candidate_fresh, candidate_renamed}
use Rattle.and_laws.proofs.Picking.{candidate_falls}
use Rattle.and_branch_laws.specs.Variables.{SpeaksOf, EquationsSpeakOf}
use Rattle.and_branch_laws.proofs.Speaking.{speaks_applied, equations_speak_under, speaks_over, equations_speak_over, back_again}
use Rattle.and_branch_laws.proofs.Speaking.{equations_back_again}

-- the variable is a cell
abbrev pub IsCell : Path × ℕ → Type 0
IsCell v = v.0 ≡ []

-- the variables of a frame
abbrev in_frame : Path → Variables
in_frame p q k = same_path p q

others_apart : (p q : Path) → (p ≡ q → ⊥) → not (same_path p q) ≡ true
others_apart p q n = elim (bool_cases (same_path p q)) [ inl e ↦ absurd (n (same_path_true p q e)) | inr e ↦ ap not e ]

module _ (P : Program) (V : Path × ℕ → Type 0) (names back : Substitution) (solved cells : List Equation) (g : Term) (p fresh : Path) where
  -- Names that name by cells, and lead back, for equations and a call that speak of variables in other frames than p.
  pub record Renames : Type 0 where
    pub leads_back : (v : Path × ℕ) → V v → apply back (names v.0 v.1) ≡ variable v.0 v.1
    pub to_cells : (v : Path × ℕ) → V v → SpeaksOf IsCell (names v.0 v.1)
    pub equations : EquationsSpeakOf V solved
    pub call : SpeaksOf V g
    pub apart : (v : Path × ℕ) → V v → p ≡ v.0 → ⊥
    pub longer : p ≡ [] → ⊥
    pub no_cell : fresh ≡ [] → ⊥
    pub states : Entails cells (under names solved)
    pub stated : Entails (under names solved) cells

  cells_apart : (q : Path) → (q ≡ [] → ⊥) → (v : Path × ℕ) → IsCell v → not (same_path q v.0) ≡ true
  cells_apart q n v e = others_apart q v.0 (λ s. n (let f = e in subst (λ x. q ≡ x) f s))

  -- A candidate in the tree is one in the cells,
  pub to_cells : Renames → (c : ℕ) → Candidate P solved p g c → Candidate P cells fresh (apply names g) c
  to_cells r c k =
      let named : List Equation = under names solved in
      let speak : EquationsSpeakOf IsCell named = equations_speak_under V IsCell names solved r.to_cells r.equations in
      let call : SpeaksOf IsCell (apply names g) = speaks_applied V IsCell names g r.to_cells r.call in
      let renamed : Candidate P named p (apply names g) c =
      candidate_renamed P solved names back (in_frame p) p g c (λ n. same_path_self p)
      (equations_speak_over IsCell (others (in_frame p)) (cells_apart p r.longer) named speak)
      (speaks_over IsCell (others (in_frame p)) (cells_apart p r.longer) (apply names g) call)
      (equations_back_again V names back solved r.leads_back r.equations) (back_again V names back g r.leads_back r.call) k in
      let moved : Candidate P named fresh (apply names g) c =
      candidate_fresh P named (in_frame fresh) p fresh (apply names g) c (λ n. same_path_self fresh)
      (equations_speak_over IsCell (others (in_frame fresh)) (cells_apart fresh r.no_cell) named speak)
      (speaks_over IsCell (others (in_frame fresh)) (cells_apart fresh r.no_cell) (apply names g) call) renamed in
      candidate_falls P cells named fresh (apply names g) c r.stated moved

  -- and the other way round.
  pub to_tree : Renames → (c : ℕ) → Candidate P cells fresh (apply names g) c → Candidate P solved p g c
  to_tree r c k =
      let named : List Equation = under names solved in
      let speak : EquationsSpeakOf IsCell named = equations_speak_under V IsCell names solved r.to_cells r.equations in
      let call : SpeaksOf IsCell (apply names g) = speaks_applied V IsCell names g r.to_cells r.call in
      let again : under back named ≡ solved = equations_back_again V names back solved r.leads_back r.equations in
      let call_again : apply back (apply names g) ≡ g = back_again V names back g r.leads_back r.call in
      let known : Candidate P named fresh (apply names g) c = candidate_falls P named cells fresh (apply names g) c r.states k in
      let moved : Candidate P named p (apply names g) c =
      candidate_fresh P named (in_frame p) fresh p (apply names g) c (λ n. same_path_self p)
      (equations_speak_over IsCell (others (in_frame p)) (cells_apart p r.longer) named speak)
      (speaks_over IsCell (others (in_frame p)) (cells_apart p r.longer) (apply names g) call) known in
      let over : EquationsOver (others (in_frame p)) solved = equations_speak_over V (others (in_frame p))
      (λ v h. others_apart p v.0 (r.apart v h)) solved r.equations in
      let call_over : IsOver (others (in_frame p)) g = speaks_over V (others (in_frame p))
      (λ v h. others_apart p v.0 (r.apart v h)) g r.call in
      let renamed : Candidate P (under back named) p (apply back (apply names g)) c =
      candidate_renamed P named back names (in_frame p) p (apply names g) c (λ n. same_path_self p)
      (subst (λ es. EquationsOver (others (in_frame p)) es) (sym again) over)
      (subst (λ t. IsOver (others (in_frame p)) t) (sym call_again) call_over)
      (ap (under names) again) (ap (apply names) call_again) moved in
      subst (λ es. Candidate P es p g c) again (subst (λ t. Candidate P (under back named) p t c) call_again renamed)
