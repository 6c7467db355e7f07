-- Where an unfolding ends.
use Rattle.std.proofs.Common.{ℕ, zero, suc, ◌≡◌, ◌+◌, ◌<◌, ◌≤◌, true, Bool, List, [], ◌∷◌, ◌++◌, length, get_or, take, drop, refl, ap, sym, ◌∙◌, inl, inr}
use Rattle.std.proofs.Common.{arith, Some}
use Rattle.std.specs.Prelude.{slice_get, ◌==◌}
use Rattle.std.proofs.lemmas.Bool.{eqb-true}
use Rattle.std.proofs.lemmas.Option.{get_or_from_slice_get, slice_get_within}
use Rattle.and_model.specs.declared.reference.Ref.{Ref}
use Rattle.and_cells.specs.Ranges.{NamedProgram}
use Rattle.and_branch_laws.specs.OwnVariables.{IsLoaded}
use Rattle.and_proof.specs.Proofs.{HasProof}
use Rattle.and_proof.specs.Unfolding.{IsUnfolding, IsAtCall}
use Rattle.and_proof.specs.declared.goals.Goals.{Goals}
use Rattle.and_proof.proofs.Replacing.{not_whole}
use Rattle.and_proof.proofs.Stepped.{none_there}

-- A code is what stands before a place, the clause there, and what stands behind.
record PartsAt (xs : List ℕ) (n x : ℕ) : Type 0 where
  pub is : xs ≡ take n xs ++ x ∷ drop (n + 1) xs
  pub next : take (n + 1) xs ≡ take n xs ++ x ∷ []

parted : (xs : List ℕ) (n x : ℕ) → n < length xs → get_or xs n 0 ≡ x → PartsAt xs n x
parted [] n x l e = absurd (omega (arith, l))
parted (y ∷ ys) zero x l e = record { is = ap (λ (z : ℕ). z ∷ ys) e; next = ap (λ (z : ℕ). z ∷ []) e }
parted (y ∷ ys) (suc n) x l e =
    let one : suc n + 1 ≡ suc (n + 1) = omega arith in
    let p = parted ys n x (omega (arith, l)) e in record {
      is = ap (λ (zs : List ℕ). y ∷ zs) p.is ∙ ap (λ (k : ℕ). (y ∷ take n ys) ++ x ∷ drop k (y ∷ ys)) (sym one);
      next = ap (λ (k : ℕ). take k (y ∷ ys)) one ∙ ap (λ (zs : List ℕ). y ∷ zs) p.next;
    }

pub parts_at : (xs : List ℕ) (n x : ℕ) → slice_get xs n ≡ Some x → (xs ≡ take n xs ++ x ∷ drop (n + 1) xs) × (take (n + 1) xs ≡ take n xs ++ x ∷ [])
parts_at xs n x e = let p = parted xs n x (slice_get_within xs n x e) (get_or_from_slice_get xs n x 0 e) in (p.is, p.next)

pub take_whole : (xs : List ℕ) (n : ℕ) → length xs ≤ n → take n xs ≡ xs
take_whole [] zero l = refl
take_whole [] (suc n) l = refl
take_whole (x ∷ xs) zero l = absurd (omega (arith, l))
take_whole (x ∷ xs) (suc n) l = ap (λ (zs : List ℕ). x ∷ zs) (take_whole xs n (omega (arith, l)))

-- Whether a list is empty.
pub empty_is : {X : Type 0} (xs : List X) (r : Bool) → r ≡ (length xs == 0) → r ≡ true → xs ≡ []
empty_is xs r e is = none_there xs (eqb-true (length xs) 0 (sym e ∙ is))

pub some_is : {X : Type 0} (xs : List X) (r : Bool) → r ≡ (length xs == 0) → (r ≡ true → ⊥) → xs ≡ [] → ⊥
some_is xs r e other is = other (e ∙ ap (λ l. length l == 0) is)

-- Where a call is left the code has no proof.
pub none_whole : (P : NamedProgram) (loaded : IsLoaded P) (row : List Ref) (goals : Goals) (cs : List ℕ) → IsUnfolding P row goals cs
    → IsAtCall P goals → (goals.ahead.items ≡ [] → ⊥) → HasProof P.program cs → ⊥
none_whole P loaded row goals cs x at some has = elim at [
  | inl e ↦ some e
  | inr other ↦ let (rest, next, term, is, item) = other in not_whole P loaded row goals cs rest next term x is item has
]
