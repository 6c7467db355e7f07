-- Pairs one of whose sides names a word of a pair have no solution.
use Rattle.std.proofs.Common.{ℕ, ◌+◌, ◌≡◌, ◌<◌, ◌⊎◌, get_or, List, [], ◌∷◌, Some, sym, ◌∙◌, subst, inl, inr, arith}
use Rattle.std.specs.Prelude.{Contains, slice_get}
use Rattle.std.proofs.lemmas.Bool.{cases_lt, false≢true}
use Rattle.std.proofs.lemmas.List.Elements.{Contains-append_left, Contains-append_right}
use Rattle.std.proofs.lemmas.Option.{slice_get_within, get_or_from_slice_get}
use Rattle.and_model.specs.Terms.{Substitution}
use Rattle.and_model.specs.Solutions.{Solves, Solvable}
use Rattle.and_model.specs.declared.reference.Ref.{Ref}
use Rattle.and_cells.specs.Ranges.{NamedProgram}
use Rattle.and_cells.specs.Seen.{word_at}
use Rattle.and_cells.specs.Meaning.{Words, shallow_cells, equations_of, equations_between}
use Rattle.and_laws.proofs.Ordered.{contains_cases, contains_none}
use Rattle.and_laws.proofs.Solving.{solves_front, solves_back}
use Rattle.and_cell_laws.proofs.Between.{names_no_half}
use Rattle.and_unify.specs.declared.pairs.Pair.{Pair}
use Rattle.and_unify.specs.Pairs.{equations_of_pairs}
use Rattle.and_unify.specs.Settling.{equations_with}
use Rattle.and_unify.proofs.SettlingEnds.{NamesHalf}

-- What solves the equations of pairs solves those of each.
pub solves_pair : (P : NamedProgram) (w : Words) (t : Substitution) (pairs : List Pair) (p : Pair) → Contains pairs p → Solves t (equations_of_pairs P w pairs)
    → Solves t (equations_between P w p.left p.right)
solves_pair P w t [] p at s = absurd (contains_none p at)
solves_pair P w t (q ∷ pairs) p at s = elim (contains_cases q p pairs at) [
  | inl e ↦ subst (λ (x : Pair). Solves t (equations_between P w x.left x.right)) (sym e)
      (solves_front t (equations_between P w q.left q.right) (equations_of_pairs P w pairs) s)
  | inr i ↦ solves_pair P w t pairs p i (solves_back t (equations_between P w q.left q.right) (equations_of_pairs P w pairs) s)
]

-- The element at a place is in the list.
pub contains_place : {X : Type 0} (xs : List X) (k : ℕ) (x : X) → slice_get xs k ≡ Some x → Contains xs x
contains_place xs k x at = (k, slice_get_within xs k x at, get_or_from_slice_get xs k x x at)

-- So there is no solution where in each one a side of some pair names a word of a pair.
pub halved_pairs : (P : NamedProgram) (row : List Ref) (pairs : List Pair) (p : Pair) → Contains pairs p
    → ((t : Substitution) → Solves t (equations_of P row) → NamesHalf P row p.left ⊎ NamesHalf P row p.right) → Solvable (equations_with P row pairs) → ⊥
halved_pairs P row pairs p at halved solvable =
    let t : Substitution = solvable.0 in
    let of_row : Solves t (equations_of P row) = solves_front t (equations_of P row) (equations_of_pairs P (word_at row) pairs) solvable.1 in
    let of_pairs : Solves t (equations_of_pairs P (word_at row) pairs) =
    solves_back t (equations_of P row) (equations_of_pairs P (word_at row) pairs) solvable.1 in
    let between : Solves t (equations_between P (word_at row) p.left p.right) = solves_pair P (word_at row) t pairs p at of_pairs in
    let none = names_no_half P (word_at row) t p.left p.right between in
    elim (halved t of_row) [
      | inl left ↦
          let (cell, named, half) = left in
          false≢true (sym (none cell (Contains-append_left (shallow_cells P p.left) (shallow_cells P p.right) cell named)) ∙ half)
      | inr right ↦
          let (cell, named, half) = right in
          false≢true (sym (none cell (Contains-append_right (shallow_cells P p.left) (shallow_cells P p.right) cell named)) ∙ half)
    ]

-- What holds of each element before a place and of the one there holds of each before the next place.
pub one_more : {X : Type 0} (P : X → Type 0) (xs : List X) (place : ℕ) (x : X) → slice_get xs place ≡ Some x
    → ((k : ℕ) (d : X) → k < place → P (get_or xs k d)) → P x
    → (k : ℕ) (d : X) → k < place + 1 → P (get_or xs k d)
one_more P xs place x at before here k d below =
    elim (cases_lt k place) [
      | inl lower ↦ before k d lower
      | inr past ↦
          let same : place ≡ k = omega arith in
          let is : get_or xs place d ≡ x = get_or_from_slice_get xs place x d at in
          subst (λ (n : ℕ). P (get_or xs n d)) same (subst P (sym is) here)
    ]
