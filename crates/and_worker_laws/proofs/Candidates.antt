-- Candidates in a phase's tree are candidates in cells of which less is known.
use Rattle.std.proofs.Common.{ℕ, ◌+◌, ◌-◌, ◌<◌, ◌≤◌, ◌≡◌, ◌≢◌, true, not, cond, List, [], ◌⊎◌, refl, ap, sym, subst, ◌∙◌, inl, inr, arith}
use Rattle.std.proofs.lemmas.Bool.{cases_lt}
use Rattle.and_model.specs.Terms.{Path, Term, variable, Substitution, apply, framed}
use Rattle.and_model.specs.Solutions.{Equation, Solves, Entails}
use Rattle.and_model.specs.Programs.{Program}
use Rattle.and_model.specs.Candidates.{Candidate}
use Rattle.and_model.specs.Lines.{same_path}
use Rattle.and_model.specs.OwnVariables.{IsOwn, AreOwn}
use Rattle.and_laws.specs.Naming.{Variables, IsOver, EquationsOver, others, under}
use Rattle.and_laws.proofs.Equality.{bool_cases}
use Rattle.and_laws.proofs.Printing.{same_path_true, same_path_self}
use Rattle.and_laws.proofs.Substitutions.{then, apply_then}
use Rattle.and_laws.proofs.FreshFrames.{candidate_fresh, candidate_renamed}
use Rattle.and_laws.proofs.Picking.{candidate_falls}
use Rattle.and_branch_laws.specs.Variables.{SpeaksOf, EquationsSpeakOf, cells_from, placed}
use Rattle.and_branch_laws.proofs.Owning.{own_speaks}
use Rattle.and_branch_laws.proofs.Speaking.{speaks_agree, speaks_solves, speaks_over, equations_speak_over, speaks_applied, speaks_variable, back_again}
use Rattle.and_branch_laws.proofs.Speaking.{equations_back_again, under_then, then_under}
use Rattle.and_worker_laws.specs.PhaseCells.{put_apart, IsCell}

module _ (P : Program) (es cells : List Equation) (t : Term) (base count : ℕ) (p q fresh apart : Path) (c : ℕ) (speaks : EquationsSpeakOf IsCell cells)
    (own : AreOwn count t)
    (other : p ≢ apart) (longer : q ≢ []) (no_cell : fresh ≢ []) where
  -- the cells of the frame at the base as the variables of p, and the other cells apart
  read_by : (k : ℕ) → (k < base + 1) ⊎ (base + 1 ≤ k) → (k < base + 1 + count) ⊎ (base + 1 + count ≤ k) → Term
  read_by k (inl low) high = variable apart k
  read_by k (inr behind) (inl within) = variable p (k - (base + 1))
  read_by k (inr behind) (inr above) = variable apart k

  read : Substitution
  read r k = read_by k (cases_lt k (base + 1)) (cases_lt k (base + 1 + count))

  -- and back
  back : Substitution
  back r k = cond (same_path r p) (variable [] (base + 1 + k)) (variable [] k)

  back_own : (k : ℕ) → back p k ≡ variable [] (base + 1 + k)
  unfolding back
  back_own k = ap (λ b. cond b (variable [] (base + 1 + k)) (variable [] k)) (same_path_self p)

  back_apart : (k : ℕ) → back apart k ≡ variable [] k
  unfolding back
  back_apart k = elim (bool_cases (same_path apart p)) [
    | inl is ↦ absurd (other (sym (same_path_true apart p is)))
    | inr is ↦ ap (λ b. cond b (variable [] (base + 1 + k)) (variable [] k)) is
  ]

  back_read_by : (k : ℕ) (low : (k < base + 1) ⊎ (base + 1 ≤ k)) (high : (k < base + 1 + count) ⊎ (base + 1 + count ≤ k))
      → apply back (read_by k low high) ≡ variable [] k
  unfolding read_by
  back_read_by k (inl low) high = back_apart k
  back_read_by k (inr behind) (inl within) = let same : base + 1 + (k - (base + 1)) ≡ k =
      omega arith in back_own (k - (base + 1)) ∙ ap (λ m. variable [] m) same
  back_read_by k (inr behind) (inr above) = back_apart k

  back_read : (v : Path × ℕ) → IsCell v → apply back (read v.0 v.1) ≡ variable v.0 v.1
  unfolding read
  back_read v is = back_read_by v.1 (cases_lt v.1 (base + 1)) (cases_lt v.1 (base + 1 + count)) ∙ ap (λ (r : Path). variable r v.1) (sym is)

  -- The term in its cells, read so, is the term in its frame.
  read_own_by : (k : ℕ) → k < count
      → (low : (base + 1 + k < base + 1) ⊎ (base + 1 ≤ base + 1 + k)) (high : (base + 1 + k < base + 1 + count) ⊎ (base + 1 + count ≤ base + 1 + k))
      → read_by (base + 1 + k) low high ≡ variable p k
  unfolding read_by
  read_own_by k l (inl low) high = absurd (omega arith)
  read_own_by k l (inr behind) (inl within) = let same : base + 1 + k - (base + 1) ≡ k = omega arith in ap (λ m. variable p m) same
  read_own_by k l (inr behind) (inr above) = absurd (omega arith)

  read_placed : apply read (placed base t) ≡ framed p t
  unfolding read
  read_placed = apply_then (cells_from base) read t
      ∙ speaks_agree (IsOwn count) (then (cells_from base) read) (λ r k. variable p k) t
      (λ v o. read_own_by v.1 o.1 (cases_lt (base + 1 + v.1) (base + 1)) (cases_lt (base + 1 + v.1) (base + 1 + count))) (own_speaks count t own)

  -- What solves the equations gives a cell what it gives to the variable for which it stands.
  read_gives : (s : Substitution) → ((k : ℕ) → k < count → s p k ≡ s apart (base + 1 + k)) → (k : ℕ) (low : (k < base + 1) ⊎ (base + 1 ≤ k))
      (high : (k < base + 1 + count) ⊎ (base + 1 + count ≤ k)) → s apart k ≡ apply s (read_by k low high)
  unfolding read_by
  read_gives s same k (inl low) high = refl
  read_gives s same k (inr behind) (inl within) =
      let is : base + 1 + (k - (base + 1)) ≡ k = omega arith in
      let low : k - (base + 1) < count = omega arith in ap (λ m. s apart m) (sym is) ∙ sym (same (k - (base + 1)) low)
  read_gives s same k (inr behind) (inr above) = refl

  pub candidate_in_cells : Entails es (under (put_apart apart) cells)
      → ((s : Substitution) → Solves s es → (k : ℕ) → k < count → s p k ≡ s apart (base + 1 + k))
      → Candidate P es q (framed p t) c → Candidate P cells fresh (placed base t) c
  unfolding read
  candidate_in_cells states same candidate =
      let named : List Equation = under read cells in
      let follow : Entails es named = λ s h.
      then_under read s cells (speaks_solves IsCell (then (put_apart apart) s) (then read s) cells
      (λ v is. read_gives s (same s h) v.1 (cases_lt v.1 (base + 1)) (cases_lt v.1 (base + 1 + count))) speaks
      (under_then (put_apart apart) s cells (states s h))) in
      let fallen : Candidate P named q (framed p t) c = candidate_falls P named es q (framed p t) c follow candidate in
      let again : under back named ≡ cells = equations_back_again IsCell read back cells back_read speaks in
      let call_speaks : SpeaksOf IsCell (placed base t) =
      speaks_applied (IsOwn count) IsCell (cells_from base) t (λ v o. speaks_variable IsCell [] (base + 1 + v.1) refl) (own_speaks count t own) in
      let call_again : apply back (framed p t) ≡ placed base t =
      ap (apply back) (sym read_placed) ∙ back_again IsCell read back (placed base t) back_read call_speaks in
      let apart_from : (r : Path) → (r ≢ []) → (v : Path × ℕ) → IsCell v → not (same_path r v.0) ≡ true = λ r far v is. away r v.0 (λ e. far (e ∙ is)) in
      let in_frame : Path → Variables = λ r x k. same_path r x in
      let renamed : Candidate P (under back named) q (apply back (framed p t)) c =
      candidate_renamed P named back read (in_frame q) q (framed p t) c (λ k. same_path_self q)
      (subst (λ ds. EquationsOver (others (in_frame q)) ds) (sym again) (equations_speak_over IsCell (others (in_frame q)) (apart_from q longer) cells speaks))
      (subst (λ u. IsOver (others (in_frame q)) u) (sym call_again)
      (speaks_over IsCell (others (in_frame q)) (apart_from q longer) (placed base t) call_speaks))
      (ap (λ ds. under read ds) again) (ap (apply read) call_again ∙ read_placed) fallen in
      let moved : Candidate P cells q (placed base t) c =
      subst (λ u. Candidate P cells q u c) call_again (subst (λ ds. Candidate P ds q (apply back (framed p t)) c) again renamed) in
      candidate_fresh P cells (in_frame fresh) q fresh (placed base t) c (λ k. same_path_self fresh)
      (equations_speak_over IsCell (others (in_frame fresh)) (apart_from fresh no_cell) cells speaks)
      (speaks_over IsCell (others (in_frame fresh)) (apart_from fresh no_cell) (placed base t) call_speaks) moved
    where
      away : (r x : Path) → (r ≡ x → ⊥) → not (same_path r x) ≡ true
      away r x far = elim (bool_cases (same_path r x)) [ inl is ↦ absurd (far (same_path_true r x is)) | inr is ↦ ap not is ]
