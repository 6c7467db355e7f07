-- Pairs that are taken out, and what a turn with one of them does.
use Rattle.std.proofs.Common.{ℕ, ◌+◌, ◌-◌, ◌*◌, ◌^◌, ◌≡◌, ◌<◌, ◌≤◌, Bool, true, false, List, [], ◌∷◌, ◌++◌, length, refl, sym, ap, subst, ◌∙◌, inl, inr}
use Rattle.std.proofs.Common.{arith, ◌||◌, if◌then◌else◌}
use Rattle.std.specs.Prelude.{Contains}
use Rattle.std.specs.List.{list_any}
use Rattle.std.proofs.lemmas.List.{length_push}
use Rattle.and_model.specs.declared.reference.Ref.{Ref}
use Rattle.and_cells.specs.Ranges.{NamedProgram}
use Rattle.and_cells.specs.Seen.{Seen, OnlyReads}
use Rattle.and_laws.proofs.Ordered.{contains_first, contains_more}
use Rattle.indexmap.specs.IndexSet.{insert_key}
use Rattle.and_unify.specs.declared.pairs.Pair.{Pair}
use Rattle.and_unify.specs.Pairs.{AreInRange, AreWritten}
use Rattle.and_unify.specs.Turns.{Stand, PicksOld, PicksNew, weight}
use Rattle.and_unify.proofs.ClassLinks.{is_same, same_is}
use Rattle.and_unify.proofs.TurnPlaces.{IsFit, fit_later}
use Rattle.and_unify.proofs.TurnStands.{fits_asked, last_was}

-- A reference that is not in a list is not found there,
not_found : (xs : List Ref) (r : Ref) → (Contains xs r → ⊥) → list_any (is_same r) xs ≡ false
not_found [] r new = refl
not_found (x ∷ xs) r new = by (is_same r x) refl (not_found xs r (λ at. new (contains_more x r xs at)))
  where
    by : (b : Bool) → is_same r x ≡ b → list_any (is_same r) xs ≡ false → (b || list_any (is_same r) xs) ≡ false
    by true e rest = absurd (new (subst (λ y. Contains (x ∷ xs) y) (sym (same_is r x e)) (contains_first x xs)))
    by false e rest = rest

-- and goes last where it is inserted.
pub inserted_last : (xs : List Ref) (r : Ref) → (Contains xs r → ⊥) → insert_key is_same xs r ≡ xs ++ r ∷ []
inserted_last xs r new = ap (λ b. if b then xs else xs ++ r ∷ []) (not_found xs r new)

-- The last of pairs that fit fits,
pub last_fits : (P : NamedProgram) (s : Seen) (xs rest : List Pair) (p : Pair) → xs ≡ rest ++ p ∷ [] → AreInRange P s.words xs × AreWritten s xs
    → IsFit P s.words s p
last_fits P s xs rest p e fits = fits_asked P s s.words xs fits.0 fits.1 p (last_was xs rest p e)

-- and so does a pair that was taken out.
fit_after : (P : NamedProgram) (p : Pair) (old new : Seen) → OnlyReads old new → IsFit P old.words old p → IsFit P new.words new p
fit_after P p old new reads fit = subst (λ n. IsFit P n new p) (sym reads.words) (fit_later P old.words old new p reads.keeps fit)

-- where it costs nothing,
pub old_fits : (P : NamedProgram) (p : Pair) (old new : Stand) → PicksOld p old new → AreInRange P old.seen.words old.pairs × AreWritten old.seen old.pairs
    → AreInRange P old.seen.words old.rights × AreWritten old.seen old.rights → IsFit P new.seen.words new.seen p
old_fits P p old new picks pairs rights = fit_after P p old.seen new.seen picks.reads (elim picks.out [
  | inl right ↦ last_fits P old.seen old.rights new.rights p right.0 rights
  | inr pair ↦ last_fits P old.seen old.pairs new.pairs p pair.0 pairs
])

-- and where its place is new.
pub new_fits : (P : NamedProgram) (p : Pair) (old new : Stand) → PicksNew p old new → AreInRange P old.seen.words old.pairs × AreWritten old.seen old.pairs
    → IsFit P new.seen.words new.seen p
new_fits P p old new picks pairs = fit_after P p old.seen new.seen picks.reads (last_fits P old.seen old.pairs new.pairs p picks.out pairs)

-- a list with one more is longer by one
length_last : (xs rest : List Pair) (p : Pair) → xs ≡ rest ++ p ∷ [] → length xs ≡ length rest + 1
length_last xs rest p e = ap (λ l. length l) e ∙ length_push rest p

-- What is to do gets lighter with each turn: a pair was taken out, and no step makes links and its list heavier.
lighter_old : (p : Pair) (old new : Stand) → PicksOld p old new → length old.pairs + length old.rights ≡ length new.pairs + length new.rights + 1
lighter_old p old new picks = elim picks.out [
  | inl right ↦
      let one = length_last old.rights new.rights p right.0 in
      let two : length new.pairs ≡ length old.pairs = ap (λ l. length l) right.1 in
      omega arith
  | inr pair ↦
      let one = length_last old.pairs new.pairs p pair.0 in
      let two : length new.rights ≡ length old.rights = ap (λ l. length l) pair.1 in
      omega arith
]

-- after a step on a pair that costs nothing
pub lighter_after_old : (p : Pair) (old mid : Stand) (links : List (Ref × Ref)) (rights : List Pair) → PicksOld p old mid
    → weight links rights ≤ weight mid.links mid.rights
    → weight links mid.pairs + length rights < weight old.links old.pairs + length old.rights
lighter_after_old p old mid links rights picks light =
    let before : ℕ = 256 * (2 ^ 64 - length mid.links) in
    let after : ℕ = 256 * (2 ^ 64 - length links) in
    let weighs : after + length rights ≤ before + length mid.rights = light in
    let one = lighter_old p old mid picks in
    let goal : after + length mid.pairs + length rights < before + length old.pairs + length old.rights = omega arith in
    subst (λ ls. weight links mid.pairs + length rights < weight ls old.pairs + length old.rights) picks.links goal

-- after a step on a pair whose place is new
pub lighter_after_new : (p : Pair) (old mid : Stand) (links : List (Ref × Ref)) (pairs : List Pair) → PicksNew p old mid
    → weight links pairs ≤ weight mid.links mid.pairs
    → weight links pairs + length mid.rights < weight old.links old.pairs + length old.rights
lighter_after_new p old mid links pairs picks light =
    let before : ℕ = 256 * (2 ^ 64 - length mid.links) in
    let after : ℕ = 256 * (2 ^ 64 - length links) in
    let weighs : after + length pairs ≤ before + length mid.pairs = light in
    let one = length_last old.pairs mid.pairs p picks.out in
    let two : length mid.rights ≡ length old.rights = ap (λ l. length l) picks.rights in
    let goal : after + length pairs + length mid.rights < before + length old.pairs + length old.rights = omega arith in
    subst (λ ls. weight links pairs + length mid.rights < weight ls old.pairs + length old.rights) picks.links goal
