-- The items of outlines name parts that are there.
use Rattle.std.proofs.Common.{ℕ, zero, suc, ◌≡◌, ◌<◌, List, [], ◌∷◌, ◌++◌, length, get_or, map, set, ap, sym, arith, subst}
use Rattle.std.specs.Prelude.{None}
use Rattle.and_program.specs.Skeletons.{Shape}
use Rattle.and_judging.specs.Sorted as sorted
use Rattle.and_judging.specs.Sorts.{AreItemsThere, AreOutlinesThere, outline_in, outlines_in, piece_in, sorting_in}
use Rattle.and_judging.specs.declared.sorting.Piece.{Piece}
use Rattle.and_judging.specs.declared.sorting.Piece.TheVariants.{Item, Disjunction}
use Rattle.and_judging.specs.declared.sorting.Outline.{Outline}
use Rattle.and_judging.specs.declared.sorting.Sorting.{Sorting}

items_append : (n : ℕ) (ps qs : List Piece) → AreItemsThere n ps → AreItemsThere n qs → AreItemsThere n (ps ++ qs)
items_append n [] qs a b = b
items_append n (Item i ∷ ps) qs a b = (a.0, items_append n ps qs a.1 b)
items_append n (Disjunction d ∷ ps) qs a b = items_append n ps qs a b

outlines_append : (n : ℕ) (os us : List Outline) → AreOutlinesThere n os → AreOutlinesThere n us → AreOutlinesThere n (os ++ us)
outlines_append n [] us a b = b
outlines_append n (o ∷ os) us a b = (a.0, outlines_append n os us a.1 b)

outline_at : (n : ℕ) (os : List Outline) (i : ℕ) (d : Outline) → i < length os → AreOutlinesThere n os → AreItemsThere n (get_or os i d).pieces.items
outline_at n [] i d lt a = absurd (omega arith)
outline_at n (o ∷ os) zero d lt a = a.0
outline_at n (o ∷ os) (suc i) d lt a = outline_at n os i d (omega arith) a.1

replaced : (n : ℕ) (os : List Outline) (i : ℕ) (o : Outline) → AreItemsThere n o.pieces.items → AreOutlinesThere n os → AreOutlinesThere n (set os i o)
replaced n [] i o h a = tt
replaced n (x ∷ os) zero o h a = (h, a.1)
replaced n (x ∷ os) (suc i) o h a = (a.0, replaced n os i o h a.1)

-- a piece more in one of them
pub set_there : (n : ℕ) (os : List Outline) (i : ℕ) (old new : Outline) (p : Piece) → i < length os → old ≡ get_or os i old
    → new.pieces.items ≡ old.pieces.items ++ p ∷ [] → AreItemsThere n (p ∷ []) → AreOutlinesThere n os → AreOutlinesThere n (set os i new)
set_there n os i old new p lt at pushed one all =
    let before : AreItemsThere n old.pieces.items =
    subst (λ (o : Outline). AreItemsThere n o.pieces.items) (sym at) (outline_at n os i old lt all) in
    replaced n os i new (subst (AreItemsThere n) (sym pushed) (items_append n old.pieces.items (p ∷ []) before one)) all

-- one outline more, that has no items
pub outline_there : (n : ℕ) (os us : List Outline) (o : Outline) → us ≡ os ++ o ∷ [] → o.pieces.items ≡ [] → AreOutlinesThere n os → AreOutlinesThere n us
outline_there n os us o pushed none all =
    subst (AreOutlinesThere n) (sym pushed) (outlines_append n os (o ∷ []) all (subst (AreItemsThere n) (sym none) tt, tt))

no_pieces : (n : ℕ) (ss : List Shape) (ps : List Piece) → map (piece_in ss) ps ≡ [] → AreItemsThere n ps
no_pieces n ss [] e = tt
no_pieces n ss (p ∷ ps) e = absurd (omega (arith, ap length e))

-- and at first
pub begun_there : (n : ℕ) (s : Sorting) → sorting_in [] s ≡ sorted.begun → AreOutlinesThere n s.sorted.outlines.items
begun_there n s e = by s.sorted.outlines.items (ap (λ (x : sorted.Sorting). x.outlines) e)
  where
    by : (os : List Outline) → outlines_in [] os ≡ record { scope = None; pieces = [] } ∷ [] → AreOutlinesThere n os
    by [] f = tt
    by (o ∷ []) f =
        let last : outline_in [] o ≡ record { scope = None; pieces = [] } = ap (λ (xs : List sorted.Outline). get_or xs 0 (outline_in [] o)) f in
        (no_pieces n [] o.pieces.items (ap (λ (x : sorted.Outline). x.pieces) last), tt)
    by (o ∷ u ∷ os) f = absurd (omega (arith, ap length f))
