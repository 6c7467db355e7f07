-- The frame in which a clause is tried: that of a path that no cell has, and cells behind the row.
use Rattle.std.proofs.Common.{ℕ, ◌+◌, ◌-◌, ◌≡◌, ◌<◌, ◌≤◌, cond, List, [], ◌∷◌, ◌++◌, length, refl, sym, ap, ◌∙◌, subst, inl, inr, ◌⊎◌, arith}
use Rattle.std.proofs.lemmas.Bool.{cases_lt}
use Rattle.and_model.specs.Terms.{Path, Term, variable, Substitution, apply, framed}
use Rattle.and_model.specs.Solutions.{Equation, Solves, Solvable}
use Rattle.and_model.specs.Lines.{same_path}
use Rattle.and_model.specs.declared.reference.Ref.{Ref}
use Rattle.and_laws.proofs.Solving.{solves_join, solves_front, solves_back}
use Rattle.and_laws.proofs.Substitutions.{then, apply_then}
use Rattle.and_cells.specs.Ranges.{NamedProgram}
use Rattle.and_cells.specs.Rows.{IsSound}
use Rattle.and_cells.specs.Meaning.{equations_of}
use Rattle.and_cells.proofs.OneTerm.{apply_agree}
use Rattle.and_branch_laws.specs.Variables.{SpeaksOf, cells_from, placed}
use Rattle.and_branch_laws.specs.Judging.{outside}
use Rattle.and_branch_laws.proofs.Speaking.{speaks_agree}
use Rattle.and_branch_laws.proofs.Widening.{AgreeBelow, solved_alike}

-- the variable is a cell below this one
abbrev pub IsLow : (words : ℕ) → Path × ℕ → Type 0
IsLow words v = (v.0 ≡ []) × (v.1 < words)

-- what agrees on such cells makes the same of a term that names them alone
pub low_same : (words : ℕ) (s t : Substitution) → AgreeBelow words s t → (u : Term) → SpeaksOf (IsLow words) u → apply s u ≡ apply t u
low_same words s t agree u speaks = speaks_agree (IsLow words) s t u (λ v low.
    let e = low.0 in
    subst (λ (q : Path). s q v.1 ≡ t q v.1) (sym e) (agree v.1 low.1)) speaks

-- The second gives the cells of the frame what the first gives the variables of the frame outside.
abbrev pub IsMoved : (floor : ℕ) → Substitution → Substitution → Type 0
IsMoved floor s t = (k : ℕ) → t [] (floor + 1 + k) ≡ s outside k

pub moved_same : (floor : ℕ) (s t : Substitution) → IsMoved floor s t → (u : Term) → apply t (placed floor u) ≡ apply s (framed outside u)
moved_same floor s t moved u =
    apply_then (cells_from floor) t u
    ∙ apply_agree (then (cells_from floor) t) (then (λ q k. variable outside k) s) u (λ v c. moved v.1)
    ∙ sym (apply_then (λ q k. variable outside k) s u)

-- ---- From the frame outside to cells

at_place : (floor : ℕ) → Substitution → (k : ℕ) → (k < floor + 1) ⊎ (floor + 1 ≤ k) → Term
at_place floor s k (inl low) = s [] k
at_place floor s k (inr past) = s outside (k - (floor + 1))

pub inward : (floor : ℕ) → Substitution → Substitution
inward floor s [] k = at_place floor s k (cases_lt k (floor + 1))
inward floor s (n ∷ q) k = s (n ∷ q) k

pub inward_agrees : (floor : ℕ) (s : Substitution) → AgreeBelow floor s (inward floor s)
unfolding inward at_place
inward_agrees floor s k low = go (cases_lt k (floor + 1))
  where
    go : (d : (k < floor + 1) ⊎ (floor + 1 ≤ k)) → s [] k ≡ at_place floor s k d
    go (inl below) = refl
    go (inr past) = absurd (omega arith)

pub inward_moved : (floor : ℕ) (s : Substitution) → IsMoved floor s (inward floor s)
unfolding inward at_place
inward_moved floor s k = go (cases_lt (floor + 1 + k) (floor + 1))
  where
    go : (d : (floor + 1 + k < floor + 1) ⊎ (floor + 1 ≤ floor + 1 + k)) → at_place floor s (floor + 1 + k) d ≡ s outside k
    go (inl below) = absurd (omega arith)
    go (inr past) = let e : (floor + 1 + k) - (floor + 1) ≡ k = omega arith in ap (s outside) e

-- ---- And back

outward : (floor : ℕ) → Substitution → Substitution
outward floor s q k = cond (same_path q outside) (s [] (floor + 1 + k)) (s q k)

outward_agrees : (floor : ℕ) (s : Substitution) → AgreeBelow floor s (outward floor s)
unfolding outward
outward_agrees floor s k low = refl

outward_moved : (floor : ℕ) (s : Substitution) → IsMoved floor (outward floor s) s
unfolding outward
outward_moved floor s k = refl

-- ---- Beside a row

module _ (P : NamedProgram) (row : List Ref) (sound : IsSound P row) (g : Term) (speaks : SpeaksOf (IsLow (length row)) g)
    (head : Term) where
  abbrev floor : ℕ
  floor = length row

  -- the call is made the same as the head in the frame outside,
  abbrev pub Outside : List Equation
  Outside = (g, framed outside head) ∷ equations_of P row

  -- or as the head in cells behind the row
  abbrev pub Inside : List Equation
  Inside = equations_of P row ++ (g, placed (length row) head) ∷ []

  goes_in : (s : Substitution) → Solves s Outside → Solves (inward (length row) s) Inside
  goes_in s solves =
      let t : Substitution = inward floor s in
      solves_join t (equations_of P row) ((g, placed floor head) ∷ [])
      (solved_alike P row s t sound (inward_agrees floor s) solves.1)
      (sym (low_same floor s t (inward_agrees floor s) g speaks) ∙ solves.0 ∙ sym (moved_same floor s t (inward_moved floor s) head), tt)

  goes_out : (s : Substitution) → Solves s Inside → Solves (outward (length row) s) Outside
  goes_out s solves =
      let t : Substitution = outward floor s in
      let asked = solves_back s (equations_of P row) ((g, placed floor head) ∷ []) solves in (
        sym (low_same floor s t (outward_agrees floor s) g speaks) ∙ asked.0 ∙ moved_same floor t s (outward_moved floor s) head,
        solved_alike P row s t sound (outward_agrees floor s) (solves_front s (equations_of P row) ((g, placed floor head) ∷ []) solves),
      )

  -- Either is solvable where the other is.
  pub solvable_inside : Solvable Outside → Solvable Inside
  solvable_inside so = (inward (length row) so.0, goes_in so.0 so.1)

  pub solvable_outside : Solvable Inside → Solvable Outside
  solvable_outside so = (outward (length row) so.0, goes_out so.0 so.1)

  -- What a term of the clause is in every solution of the one, it is in every solution of the other.
  pub known_inside : (t u : Term) → ((s : Substitution) → Solves s Outside → apply s (framed outside t) ≡ u) → (s : Substitution)
      → Solves s Inside → apply s (placed (length row) t) ≡ u
  known_inside t u known s solves =
      moved_same floor (outward floor s) s (outward_moved floor s) t ∙ known (outward floor s) (goes_out s solves)

  pub known_outside : (t u : Term) → ((s : Substitution) → Solves s Inside → apply s (placed (length row) t) ≡ u) → (s : Substitution)
      → Solves s Outside → apply s (framed outside t) ≡ u
  known_outside t u known s solves =
      sym (moved_same floor s (inward floor s) (inward_moved floor s) t) ∙ known (inward floor s) (goes_in s solves)
