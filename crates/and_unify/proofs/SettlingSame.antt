-- The equations of a row with pairs, and those of the row to which the pairs were bound, have the same solutions.
use Rattle.std.proofs.Common.{ℕ, suc, ◌≡◌, ◌≢◌, ◌⊎◌, Bool, false, cond, List, [], ◌∷◌, ◌++◌, map, Option, Some, refl, sym, ap, ◌∙◌, subst, inl, inr}
use Rattle.std.specs.Prelude.{Contains, filter, flat_map}
use Rattle.std.proofs.lemmas.List.Elements.{All-contains}
use Rattle.and_model.specs.Terms.{Term, Substitution, number}
use Rattle.and_model.specs.Solutions.{Equation, Solves, falsehood}
use Rattle.and_model.specs.Store.{is_half}
use Rattle.and_model.specs.declared.reference.Ref.{Ref}
use Rattle.and_model.specs.declared.reference.Ref.TheVariants.{Free, Cell, Node, Number, Half}
use Rattle.and_cells.specs.Ranges.{NamedProgram}
use Rattle.and_cells.specs.Numbers.{number_of}
use Rattle.and_cells.specs.Rows.{IsSound, plain}
use Rattle.and_cells.specs.Seen.{word_at, IsSetTo, IsKnownWritten, IsWrittenIfNumber}
use Rattle.and_cells.specs.Meaning.{number_in, shallow_term, shallow_cells, same_terms, equations_of, equations_between}
use Rattle.and_cells.proofs.Chains.{written_since_known}
use Rattle.and_laws.proofs.Ordered.{contains_first, contains_more}
use Rattle.and_laws.proofs.Solving.{solves_join, solves_front, solves_back}
use Rattle.and_cells.specs.Known.{SolvesKnown}
use Rattle.and_cells.specs.Solved.{IsMostGeneral}
use Rattle.and_cell_laws.proofs.Told.{told_rows_are_known}
use Rattle.and_unify.specs.declared.pairs.Pair.{Pair}
use Rattle.and_unify.specs.Pairs.{equations_of_pairs, AreWritten}
use Rattle.and_unify.specs.Following.{NewFollow}
use Rattle.and_unify.specs.Settling.{equations_with}

-- Words that are set stay so, and none that is set newly is a half.
pub record Grows (old new : List Ref) : Type 0 where
  pub stays : (place : ℕ) (r : Ref) → IsSetTo old place r → IsSetTo new place r
  pub fresh : (place : ℕ) (r : Ref) → IsSetTo new place r → IsSetTo old place r ⊎ (is_half r ≡ false)

-- A word is free, or it is set.
pub free_or_set : (r : Ref) → (r ≡ Free) ⊎ (r ≢ Free)
free_or_set Free = inl refl
free_or_set (Cell cell) = inr (λ e. absurd (cc))
free_or_set (Node node base) = inr (λ e. absurd (cc))
free_or_set (Number pair) = inr (λ e. absurd (cc))
free_or_set (Half bits) = inr (λ e. absurd (cc))

-- A word that is set stays the same,
stays_word : (old new : List Ref) (place : ℕ) → Grows old new → word_at old place ≢ Free → word_at old place ≡ word_at new place
stays_word old new place grows set = let still = grows.stays place (word_at old place) (refl, set) in sym still.0

fresh_is_whole : (old new : List Ref) (place : ℕ) → Grows old new → word_at old place ≡ Free → (word_at new place ≡ Free) ⊎ (word_at new place ≢ Free)
    → is_half (word_at new place) ≡ false
fresh_is_whole old new place grows free (inl same) = ap is_half same
fresh_is_whole old new place grows free (inr set) = elim (grows.fresh place (word_at new place) (refl, set)) [
  | inl was ↦ absurd (was.1 (sym was.0 ∙ free))
  | inr whole ↦ whole
]

same_half_by : (old new : List Ref) (place : ℕ) → Grows old new → (word_at old place ≡ Free) ⊎ (word_at old place ≢ Free)
    → is_half (word_at old place) ≡ is_half (word_at new place)
same_half_by old new place grows (inl free) = ap is_half free ∙ sym (fresh_is_whole old new place grows free (free_or_set (word_at new place)))
same_half_by old new place grows (inr set) = ap is_half (stays_word old new place grows set)

-- and the halves are those that were there.
pub same_half : (old new : List Ref) (place : ℕ) → Grows old new → is_half (word_at old place) ≡ is_half (word_at new place)
same_half old new place grows = same_half_by old new place grows (free_or_set (word_at old place))

-- So a number that is written stays the same,
same_number : (P : NamedProgram) (old new : List Ref) (pair : ℕ) → IsSound P old → Grows old new → IsKnownWritten (plain old) pair
    → number_in (word_at old) pair ≡ number_in (word_at new) pair
same_number P old new pair sound grows (inl both) =
    let (high, low) = both in
    let high_stays = grows.stays pair high.0 high.1 in
    let low_stays = grows.stays (suc pair) low.0 low.1 in
    let one : word_at old pair ≡ word_at new pair = high.1.0 ∙ sym high_stays.0 in
    let other : word_at old (suc pair) ≡ word_at new (suc pair) = low.1.0 ∙ sym low_stays.0 in
    ap (λ (r : Ref). number (number_of r (word_at old (suc pair)))) one ∙ ap (λ (r : Ref). number (number_of (word_at new pair) r)) other
same_number P old new pair sound grows (inr held) =
    let (cell, set) = held in
    let (high, low) = sound.written cell pair set.0 in
    let one : word_at old pair ≡ word_at new pair = stays_word old new pair grows high in
    let other : word_at old (suc pair) ≡ word_at new (suc pair) = stays_word old new (suc pair) grows low in
    ap (λ (r : Ref). number (number_of r (word_at old (suc pair)))) one ∙ ap (λ (r : Ref). number (number_of (word_at new pair) r)) other

-- and so does the term of a reference.
same_term : (P : NamedProgram) (old new : List Ref) (r : Ref) → IsSound P old → Grows old new → IsWrittenIfNumber (plain old) r
    → shallow_term P (word_at old) r ≡ shallow_term P (word_at new) r
same_term P old new Free sound grows written = refl
same_term P old new (Cell cell) sound grows written = refl
same_term P old new (Node node base) sound grows written = refl
same_term P old new (Number pair) sound grows written = ap (λ (t : Term). Some t) (same_number P old new pair sound grows (written pair refl))
same_term P old new (Half bits) sound grows written = refl

filter_same : (p q : ℕ → Bool) (xs : List ℕ) → ((x : ℕ) → p x ≡ q x) → filter p xs ≡ filter q xs
filter_same p q [] same = refl
filter_same p q (x ∷ xs) same =
    ap (λ (b : Bool). cond b (x ∷ filter p xs) (filter p xs)) (same x) ∙ ap (λ (ys : List ℕ). cond (q x) (x ∷ ys) ys) (filter_same p q xs same)

-- So the equations between two references stay the same,
pub same_between : (P : NamedProgram) (old new : List Ref) (l r : Ref) → IsSound P old → Grows old new → IsWrittenIfNumber (plain old) l
    → IsWrittenIfNumber (plain old) r
    → equations_between P (word_at old) l r ≡ equations_between P (word_at new) l r
same_between P old new l r sound grows left right =
    let cells : List ℕ = shallow_cells P l ++ shallow_cells P r in
    let halves : filter (λ (cell : ℕ). is_half (word_at old cell)) cells ≡ filter (λ (cell : ℕ). is_half (word_at new cell)) cells =
    filter_same (λ (cell : ℕ). is_half (word_at old cell)) (λ (cell : ℕ). is_half (word_at new cell)) cells (λ cell. same_half old new cell grows) in
    let falsehoods : List ℕ → List Equation = λ (xs : List ℕ). map (λ (cell : ℕ). falsehood) xs in
    ap (λ (t : Option Term). same_terms t (shallow_term P (word_at old) r) ++ falsehoods (filter (λ (cell : ℕ). is_half (word_at old cell)) cells))
    (same_term P old new l sound grows left)
    ∙ ap (λ (t : Option Term). same_terms (shallow_term P (word_at new) l) t ++ falsehoods (filter (λ (cell : ℕ). is_half (word_at old cell)) cells))
    (same_term P old new r sound grows right)
    ∙ ap (λ (xs : List ℕ). same_terms (shallow_term P (word_at new) l) (shallow_term P (word_at new) r) ++ falsehoods xs) halves

flat_map_same : {X : Type 0} (f g : X → List Equation) (xs : List X) → ((x : X) → Contains xs x → f x ≡ g x) → flat_map f xs ≡ flat_map g xs
flat_map_same f g [] same = refl
flat_map_same f g (x ∷ xs) same =
    ap (λ (es : List Equation). es ++ flat_map f xs) (same x (contains_first x xs))
    ∙ ap (λ (es : List Equation). g x ++ es) (flat_map_same f g xs (λ y at. same y (contains_more x y xs at)))

-- and those of pairs.
pub same_pairs : (P : NamedProgram) (old new : List Ref) (pairs : List Pair) → IsSound P old → Grows old new → AreWritten (plain old) pairs
    → equations_of_pairs P (word_at old) pairs ≡ equations_of_pairs P (word_at new) pairs
same_pairs P old new pairs sound grows written =
    flat_map_same (λ (p : Pair). equations_between P (word_at old) p.left p.right) (λ (p : Pair). equations_between P (word_at new) p.left p.right) pairs
    (λ p at.
    let both = All-contains (λ (p : Pair). IsWrittenIfNumber (plain old) p.left × IsWrittenIfNumber (plain old) p.right) pairs p written at in
    same_between P old new p.left p.right sound grows both.0 both.1)

-- A cell is no number.
cell_is_no_number : (row : List Ref) (cell : ℕ) → IsWrittenIfNumber (plain row) (Cell cell)
cell_is_no_number row cell = λ pair is. absurd (cc)

same_setting : (P : NamedProgram) (old new : List Ref) (place : ℕ) (r : Ref) → IsSound P old → Grows old new → IsSetTo old place r
    → equations_between P (word_at old) (Cell place) r ≡ equations_between P (word_at new) (Cell place) r
same_setting P old new place r sound grows set =
    same_between P old new (Cell place) r sound grows (cell_is_no_number old place) (written_since_known (plain old) place r set)

-- What solves the equations of a row solves what was known of it, under the words that it has now,
pub known_now : (P : NamedProgram) (old new : List Ref) (t : Substitution) → IsSound P old → Grows old new → Solves t (equations_of P old)
    → SolvesKnown P (word_at new) (plain old) t
known_now P old new t sound grows s = λ place r set whole.
    let told = told_rows_are_known P old t in
    subst (Solves t) (same_setting P old new place r sound grows set) (told.1 s place r set whole)

-- and the converse holds where it solves all that is known now.
pub known_before : (P : NamedProgram) (old new : List Ref) (t : Substitution) → IsSound P old → Grows old new → SolvesKnown P (word_at new) (plain new) t
    → Solves t (equations_of P old)
known_before P old new t sound grows known =
    let told = told_rows_are_known P old t in
    told.0 (λ place r set whole. subst (Solves t) (sym (same_setting P old new place r sound grows set)) (known place r (grows.stays place r set) whole))

-- A solution of a row with pairs solves all that is known now, if that follows,
pub solves_now : (P : NamedProgram) (old new : List Ref) (pairs : List Pair) (t : Substitution) → IsSound P old → Grows old new → AreWritten (plain old) pairs
    → NewFollow P pairs (plain old) (plain new) → Solves t (equations_with P old pairs)
    → SolvesKnown P (word_at new) (plain new) t × Solves t (equations_of_pairs P (word_at new) pairs)
solves_now P old new pairs t sound grows written follow s =
    let of_row : Solves t (equations_of P old) = solves_front t (equations_of P old) (equations_of_pairs P (word_at old) pairs) s in
    let of_pairs : Solves t (equations_of_pairs P (word_at old) pairs) = solves_back t (equations_of P old) (equations_of_pairs P (word_at old) pairs) s in
    let now : Solves t (equations_of_pairs P (word_at new) pairs) = subst (Solves t) (same_pairs P old new pairs sound grows written) of_pairs in
    (follow (word_at new) (λ place r set. set.0) t (known_now P old new t sound grows of_row) now, now)

-- and so the equations of the row.
pub solves_new : (P : NamedProgram) (old new : List Ref) (pairs : List Pair) (t : Substitution) → IsSound P old → Grows old new → AreWritten (plain old) pairs
    → NewFollow P pairs (plain old) (plain new) → Solves t (equations_with P old pairs) → Solves t (equations_of P new)
solves_new P old new pairs t sound grows written follow s =
    let told = told_rows_are_known P new t in
    let both = solves_now P old new pairs t sound grows written follow s in
    told.0 both.0

-- A solution of the equations of the row now solves those of the row before with the pairs, where the pairs are equal.
pub solves_old : (P : NamedProgram) (old new : List Ref) (pairs : List Pair) (t : Substitution) → IsSound P old → Grows old new → AreWritten (plain old) pairs
    → ((t : Substitution) → SolvesKnown P (word_at new) (plain new) t → Solves t (equations_of_pairs P (word_at new) pairs))
    → Solves t (equations_of P new) → Solves t (equations_with P old pairs)
solves_old P old new pairs t sound grows written equal s =
    let told = told_rows_are_known P new t in
    let known = told.1 s in
    let of_pairs : Solves t (equations_of_pairs P (word_at old) pairs) =
    subst (Solves t) (sym (same_pairs P old new pairs sound grows written)) (equal t known) in
    solves_join t (equations_of P old) (equations_of_pairs P (word_at old) pairs) (known_before P old new t sound grows known) of_pairs

-- A most general solution of equations is one of all that have the same solutions.
pub most_general_of : (P : NamedProgram) (row : List Ref) (es ds : List Equation) → ((t : Substitution) → Solves t es → Solves t ds)
    → ((t : Substitution) → Solves t ds → Solves t es)
    → IsMostGeneral P row es → IsMostGeneral P row ds
most_general_of P row es ds onto back m = record {
  solution = m.solution;
  most_general = (onto m.solution m.most_general.0, λ t s q k. m.most_general.1 t (back t s) q k);
  of_cells = m.of_cells;
}
