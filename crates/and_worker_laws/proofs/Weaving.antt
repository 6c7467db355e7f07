-- What a journal with its runs contains.
use Rattle.std.proofs.Common.{ℕ, suc, ◌≡◌, ◌≤◌, Bool, cond, nat_eq, arith, List, [], ◌∷◌, ap, sym, subst, ◌∙◌, inl, inr, ◌⊎◌, map, filter, length}
use Rattle.std.proofs.Common.{Contains}
use Rattle.std.proofs.lemmas.Bool.Decides.{eqb_tells}
use Rattle.std.proofs.lemmas.List.Elements.{Contains-append_left, Contains-append_right, Contains-append_cases}
use Rattle.and_laws.proofs.Ordered.{contains_first, contains_more, contains_cases, contains_none}
use Rattle.and_phase_laws.specs.Journals.{Entry, Journal}
use Rattle.and_phase_laws.specs.Weaving.{Run, entry_of, runs_at, woven}

-- The runs of a length, with one more if the test holds.
abbrev with_one : ℕ → Run → List Run → Bool → Journal
with_one n x runs b = map entry_of (cond b (x ∷ filter (λ (y : Run). nat_eq y.at n) runs) (filter (λ (y : Run). nat_eq y.at n) runs))

-- Entries of runs of a length are those of the runs that name it.
pub run_at : (n : ℕ) (runs : List Run) (r : Run) → Contains runs r → r.at ≡ n → Contains (runs_at n runs) (entry_of r)
run_at n [] r h at = absurd (contains_none r h)
run_at n (x ∷ runs) r h at = elim (eqb_tells x.at n) [
  | inl same ↦ subst (λ (b : Bool). Contains (with_one n x runs b) (entry_of r))
      (sym same.0) (elim (contains_cases x r runs h) [
        | inl is ↦ subst (λ (y : Run). Contains (entry_of x ∷ runs_at n runs) (entry_of y)) (sym is) (contains_first (entry_of x) (runs_at n runs))
        | inr later ↦ contains_more (entry_of x) (entry_of r) (runs_at n runs) (run_at n runs r later at)
      ])
  | inr other ↦ subst (λ (b : Bool). Contains (with_one n x runs b) (entry_of r))
      (sym other.0) (elim (contains_cases x r runs h) [
        | inl is ↦ absurd (other.1 (ap (λ (y : Run). y.at) (sym is) ∙ at))
        | inr later ↦ run_at n runs r later at
      ])
]

pub run_of : (n : ℕ) (runs : List Run) (e : Entry) → Contains (runs_at n runs) e → (r : Run) × Contains runs r × (e ≡ entry_of r)
run_of n [] e h = absurd (contains_none e h)
run_of n (x ∷ runs) e h = elim (eqb_tells x.at n) [
  | inl same ↦
      let here = subst (λ (b : Bool). Contains (with_one n x runs b) e) same.0 h in
      elim (contains_cases (entry_of x) e (runs_at n runs) here) [
        | inl is ↦ (x, contains_first x runs, is)
        | inr later ↦ let r = run_of n runs e later in (r.0, contains_more x r.0 runs r.1, r.2)
      ]
  | inr other ↦
      let here = subst (λ (b : Bool). Contains (with_one n x runs b) e) other.0 h in
      let r = run_of n runs e here in (r.0, contains_more x r.0 runs r.1, r.2)
]

-- The journal's entries are there,
pub entry_woven : (runs : List Run) (j : Journal) (e : Entry) → Contains j e → Contains (woven runs j) e
entry_woven runs [] e h = absurd (contains_none e h)
entry_woven runs (d ∷ before) e h =
    Contains-append_right (runs_at (suc (length before)) runs) (d ∷ woven runs before) e (elim (contains_cases d e before h) [
      | inl is ↦ subst (λ x. Contains (d ∷ woven runs before) x) (sym is) (contains_first d (woven runs before))
      | inr earlier ↦ contains_more d e (woven runs before) (entry_woven runs before e earlier)
    ])

-- and those of the runs that had been made by then,
pub run_woven : (runs : List Run) (j : Journal) (r : Run) → Contains runs r → r.at ≤ length j → Contains (woven runs j) (entry_of r)
run_woven runs [] r h early =
    let first : r.at ≡ 0 = omega arith in Contains-append_left (runs_at 0 runs) [] (entry_of r) (run_at 0 runs r h first)
run_woven runs (d ∷ before) r h early = elim (eqb_tells r.at (suc (length before))) [
  | inl same ↦ Contains-append_left (runs_at (suc (length before)) runs) (d ∷ woven runs before) (entry_of r) (run_at (suc (length before)) runs r h same.1)
  | inr other ↦
      let differs = other.1 in
      let earlier : r.at ≤ length before = omega arith in
      Contains-append_right (runs_at (suc (length before)) runs) (d ∷ woven runs before) (entry_of r)
      (contains_more d (entry_of r) (woven runs before) (run_woven runs before r h earlier))
]

-- and no others.
pub woven_cases : (runs : List Run) (j : Journal) (e : Entry) → Contains (woven runs j) e → Contains j e ⊎ ((r : Run) × Contains runs r × (e ≡ entry_of r))
woven_cases runs [] e h = elim (Contains-append_cases (runs_at 0 runs) [] e h) [
  | inl of_run ↦ inr (run_of 0 runs e of_run)
  | inr of_none ↦ absurd (contains_none e of_none)
]
woven_cases runs (d ∷ before) e h = elim (Contains-append_cases (runs_at (suc (length before)) runs) (d ∷ woven runs before) e h) [
  | inl of_run ↦ inr (run_of (suc (length before)) runs e of_run)
  | inr of_entry ↦ elim (contains_cases d e (woven runs before) of_entry) [
    | inl is ↦ inl (subst (λ x. Contains (d ∷ before) x) (sym is) (contains_first d before))
    | inr earlier ↦ elim (woven_cases runs before e earlier) [ inl c ↦ inl (contains_more d e before c) | inr r ↦ inr r ]
  ]
]
