-- One of a list is changed in place.
use Rattle.std.proofs.Common.{ℕ, zero, suc, ◌+◌, ◌*◌, ◌≡◌, ◌<◌, ◌≤◌, List, [], ◌∷◌, ◌++◌, length, get_or, map, set, drop, Option, refl}
use Rattle.std.proofs.Common.{ap, sym, ◌∙◌, arith}
use Rattle.std.proofs.lemmas.List.{length-map, get_or-map, map_push, drop_more}
use Rattle.std.proofs.lemmas.Nat.{mul-le}
use Rattle.and_model.specs.Lines.{first_seen}
use Rattle.and_model.specs.Terms.{Path}
use Rattle.and_program.specs.Skeletons.{Shape}
use Rattle.and_judging.specs.Sorted as sorted
use Rattle.and_judging.specs.Sorted.{alter, alter_in, variables_in_scope, with_piece, with_variables, with_alternative, locals_size}
use Rattle.and_judging.specs.Sorts.{locals_in, local_in, own, piece_in, outline_in, outlines_in, AreFew, AreNarrow}
use Rattle.and_judging.specs.declared.sorting.Disjunction.{Disjunction}
use Rattle.and_judging.specs.declared.sorting.Outline.{Outline}
use Rattle.and_judging.specs.declared.sorting.Piece.{Piece}
use Rattle.and_judging.proofs.SortedWhole.{few_at, narrow_at}

module _ {X Y : Type 0} (view : X → Y) (f : Y → Y) where
  pub altered : (xs : List X) (n : ℕ) (x d : X) → n < length xs → view x ≡ f (view (get_or xs n d)) → map view (set xs n x) ≡ alter n f (map view xs)
  altered [] n x d lt e = absurd (omega arith)
  altered (y ∷ xs) zero x d lt e = ap (λ z. z ∷ map view xs) e
  altered (y ∷ xs) (suc n) x d lt e = ap (λ zs. view y ∷ zs) (altered xs n x d (omega arith) e)

  pub unaltered : (xs : List X) (n : ℕ) → length xs ≤ n → map view xs ≡ alter n f (map view xs)
  unaltered [] n le = refl
  unaltered (y ∷ xs) zero le = absurd (omega arith)
  unaltered (y ∷ xs) (suc n) le = ap (λ zs. view y ∷ zs) (unaltered xs n (omega arith))

-- ---- What is put into an outline, and noted in a disjunction.
pub piece_more : (ss : List Shape) (os : List Outline) (n : ℕ) (old new : Outline) (p : Piece) → n < length os → old ≡ get_or os n old → new.scope ≡ old.scope
    → new.pieces.items ≡ old.pieces.items ++ p ∷ [] → outlines_in ss (set os n new) ≡ alter n (with_piece (piece_in ss p)) (outlines_in ss os)
piece_more ss os n old new p lt at same pushed =
    let made : Option ℕ → List sorted.Piece → sorted.Outline = λ s ps. record { scope = s; pieces = ps } in
    let e : outline_in ss new ≡ with_piece (piece_in ss p) (outline_in ss old) =
    ap (λ s. made s (map (piece_in ss) new.pieces.items)) same
    ∙ ap (made old.scope) (ap (map (piece_in ss)) pushed ∙ map_push (piece_in ss) old.pieces.items p) in
    altered (outline_in ss) (with_piece (piece_in ss p)) os n new old lt (e ∙ ap (λ o. with_piece (piece_in ss p) (outline_in ss o)) at)

pub noted_in : (ds : List Disjunction) (n : ℕ) (old new : Disjunction) (vs : List (Path × ℕ)) → n < length ds → old ≡ get_or ds n old
    → own new.variables.items ≡ first_seen (own old.variables.items) vs → new.count ≡ old.count
    → locals_in (set ds n new) ≡ alter n (with_variables vs) (locals_in ds)
noted_in ds n old new vs lt at noted same =
    let made : ℕ → List (Path × ℕ) → sorted.Local = λ k us. record { variables = us; count = k } in
    let e : local_in new ≡ with_variables vs (local_in old) = ap (λ k. made k (own new.variables.items)) same ∙ ap (made old.count) noted in
    altered local_in (with_variables vs) ds n new old lt (e ∙ ap (λ d. with_variables vs (local_in d)) at)

pub counted_in : (ds : List Disjunction) (n : ℕ) (old new : Disjunction) → n < length ds → old ≡ get_or ds n old
    → new.variables.items ≡ old.variables.items → new.count ≡ old.count + 1 → locals_in (set ds n new) ≡ alter n with_alternative (locals_in ds)
counted_in ds n old new lt at same more =
    let made : ℕ → List ℕ → sorted.Local = λ k us. record { variables = own us; count = k } in
    let e : local_in new ≡ with_alternative (local_in old) = ap (λ k. made k new.variables.items) more ∙ ap (made (old.count + 1)) same in
    altered local_in with_alternative ds n new old lt (e ∙ ap (λ d. with_alternative (local_in d)) at)

-- the disjunction of a place
pub local_at : (ds : List Disjunction) (n : ℕ) (d : Disjunction) → n < length ds → d ≡ get_or ds n d → get_or (locals_in ds) n (local_in d) ≡ local_in d
local_at ds n d lt at = get_or-map local_in ds n d (local_in d) lt ∙ ap local_in (sym at)

pub count_few : (m : ℕ) (ds : List Disjunction) (n : ℕ) (d : Disjunction) → n < length ds → d ≡ get_or ds n d → AreFew m (locals_in ds) → d.count ≤ m
count_few m ds n d lt at few =
    let h : (get_or (locals_in ds) n (local_in d)).count ≤ m = few_at m (locals_in ds) n (local_in d) (omega (arith, length-map ds local_in)) few in
    let e : (get_or (locals_in ds) n (local_in d)).count ≡ d.count = ap (λ (l : sorted.Local). l.count) (local_at ds n d lt at) in
    omega (arith, h, e)

pub variables_few : (m : ℕ) (ds : List Disjunction) (n : ℕ) (d : Disjunction) → n < length ds → d ≡ get_or ds n d → AreNarrow m (locals_in ds)
    → length d.variables.items ≤ m
variables_few m ds n d lt at few =
    let h : length (get_or (locals_in ds) n (local_in d)).variables ≤ m =
    narrow_at m (locals_in ds) n (local_in d) (omega (arith, length-map ds local_in)) few in
    let e : length (get_or (locals_in ds) n (local_in d)).variables ≡ length (own d.variables.items) =
    ap (λ (l : sorted.Local). length l.variables) (local_at ds n d lt at) in
    omega (arith, h, e, length-map d.variables.items (λ k. let v : Path × ℕ = ([], k) in v))

-- the sizes of those from a place on
pub size_from : (ds : List Disjunction) (n : ℕ) (d : Disjunction) → n < length ds → d ≡ get_or ds n d
    → locals_size (locals_in (drop n ds)) ≡ (d.count + 1) * (length d.variables.items + 1) + locals_size (locals_in (drop (n + 1) ds))
size_from ds n d lt at =
    let rest : ℕ = locals_size (locals_in (drop (n + 1) ds)) in
    let e : suc (length (own d.variables.items)) ≡ length d.variables.items + 1 =
    omega (arith, length-map d.variables.items (λ k. let v : Path × ℕ = ([], k) in v)) in
    let f : suc d.count ≡ d.count + 1 = omega arith in
    ap (λ xs. locals_size (locals_in xs)) (drop_more ds n d lt ∙ ap (λ x. x ∷ drop (n + 1) ds) (sym at))
    ∙ ap (λ k. suc d.count * k + rest) e ∙ ap (λ k. k * (length d.variables.items + 1) + rest) f

pub product_few : (a b : ℕ) → a ≤ 4294967297 → b ≤ 256 → a * b ≤ 1099511628032
product_few a b h k = omega (arith, mul-le a b 4294967297 256 h k)
