-- What becomes of a row to which pairs were bound: a most general solution of what it was and of the pairs, or none.
use Rattle.std.proofs.Common.{ℕ, ◌≡◌, ◌≢◌, ◌<◌, ◌⊎◌, true, false, List, [], ◌++◌, refl, ap, sym, ◌∙◌, subst, inl, inr}
use Rattle.std.specs.Prelude.{Contains, All, length}
use Rattle.and_model.specs.Store.{AreDistinct}
use Rattle.and_model.specs.declared.reference.Ref.TheVariants.{Free}
use Rattle.and_cells.proofs.Keeping.{free_or_set}
use Rattle.and_cells.specs.Seen.{IsSetTo}
use Rattle.and_unify.specs.Setting.{WasSet, Lists, HaveBeenSet}
use Rattle.and_unify.specs.Places.{sides, IsPlace}
use Rattle.std.proofs.lemmas.List.Elements.{All-weaker}
use Rattle.and_model.specs.Terms.{Substitution}
use Rattle.and_model.specs.Solutions.{Solves, Solvable}
use Rattle.and_model.specs.Store.{is_half}
use Rattle.and_model.specs.declared.reference.Ref.{Ref}
use Rattle.and_cells.specs.Ranges.{NamedProgram}
use Rattle.and_cells.specs.Rows.{plain}
use Rattle.and_cells.specs.Seen.{word_at, Keeps}
use Rattle.and_cells.specs.Meaning.{Words, IsSettled, shallow_cells, equations_of}
use Rattle.and_cells.proofs.Chains.{reads_nothing, reads_keeps}
use Rattle.and_cells.specs.Known.{HasKnown, SolvesKnown}
use Rattle.and_cells.specs.Solved.{AllHaveTerms, IsMostGeneral}
use Rattle.and_cell_laws.proofs.Settling.{settled_rows_have_terms}
use Rattle.and_cell_laws.proofs.TermsOfRows.{rows_with_terms_are_solutions}
use Rattle.and_unify.specs.declared.pairs.Pair.{Pair}
use Rattle.and_unify.specs.Pairs.{equations_of_pairs, AreWritten, NameNoHalf}
use Rattle.and_unify.specs.Following.{NewFollow}
use Rattle.and_unify.specs.declared.settling.Settled.{Settled}
use Rattle.and_unify.specs.declared.settling.Settled.TheVariants.{Solved, NoSolution, Memory}
use Rattle.and_unify.specs.Settling.{equations_with, Settles, SetsPlaces}
use Rattle.and_unify.proofs.SettlingSame.{Grows, same_half, solves_now, solves_new, solves_old, most_general_of}
use Rattle.and_unify.proofs.SettlingTerms.{Binds, BoundEnd, bound_grows, all_terms}

-- The list of what was set began empty, so all of it are cells of the row.
pub listed_in_row : (old new : List Ref) (start items : List ℕ) → start ≡ [] → Keeps (plain old) (plain new) → Lists (plain old) (plain new) start items
    → All (λ (cell : ℕ). cell < length new) items
listed_in_row old new start items none keeps l =
    subst (All (λ (cell : ℕ). cell < length new)) (sym (l.listed ∙ ap (λ xs. xs ++ l.gained) none))
    (All-weaker (WasSet (plain old) (plain new)) (λ (cell : ℕ). cell < length new) (λ cell was. subst (λ n. cell < n) (sym keeps.words) was.below)
    l.gained l.were_set)

-- So the list has the cells that were free and are set now, each once, and no other word changed.
pub have_been_set : (P : NamedProgram) (old new : List Ref) (pairs : List Pair) (start items : List ℕ) → start ≡ [] → Keeps (plain old) (plain new)
    → ((place : ℕ) (r : Ref) → IsSetTo new place r → IsSetTo old place r ⊎ (Contains items place × IsPlace P (plain old) (sides pairs) r))
    → Lists (plain old) (plain new) start items → HaveBeenSet old new items
have_been_set P old new pairs start items none keeps made l =
    let is : items ≡ l.gained = l.listed ∙ ap (λ xs. xs ++ l.gained) none in record {
      once = subst AreDistinct (sym is) l.once;
      in_row = subst (All (λ (cell : ℕ). cell < length old)) (sym is)
          (All-weaker (WasSet (plain old) (plain new)) (λ (cell : ℕ). cell < length old) (λ cell was. was.below) l.gained l.were_set);
      were_free = subst (All (λ (cell : ℕ). word_at old cell ≡ Free)) (sym is)
          (All-weaker (WasSet (plain old) (plain new)) (λ (cell : ℕ). word_at old cell ≡ Free)
          (λ cell was. elim (free_or_set (word_at old cell)) [ inl free ↦ free | inr set ↦ absurd (was.not_known (word_at old cell) (refl, set)) ])
          l.gained l.were_set);
      are_set = subst (All (λ (cell : ℕ). word_at new cell ≢ Free)) (sym is)
          (All-weaker (WasSet (plain old) (plain new)) (λ (cell : ℕ). word_at new cell ≢ Free)
          (λ cell was. subst (λ r. r ≢ Free) (sym was.known.0) was.known.1) l.gained l.were_set);
      words = keeps.words;
      others = λ place out. elim (free_or_set (word_at new place)) [
        | inl free ↦ elim (free_or_set (word_at old place)) [
          | inl was ↦ free ∙ sym was
          | inr set ↦ (keeps.knows place (word_at old place) (refl, set)).0
        ]
        | inr set ↦ elim (made place (word_at new place) (refl, set)) [
          | inl before ↦ sym before.0
          | inr on ↦ absurd (out on.0)
        ]
      ];
    }

-- What was set is something to which the row and the sides lead.
pub sets_places : (P : NamedProgram) (old new : List Ref) (pairs : List Pair) (items : List ℕ)
    → ((place : ℕ) (r : Ref) → IsSetTo new place r → IsSetTo old place r ⊎ (Contains items place × IsPlace P (plain old) (sides pairs) r))
    → SetsPlaces P old new pairs
sets_places P old new pairs items made = record {
  each = λ cell r set. elim (made cell r set) [ inl before ↦ inl before | inr on ↦ inr on.1 ];
}

-- What the sides name is no half now if it was none.
no_half_now : (P : NamedProgram) (old new : List Ref) (pairs : List Pair) → Grows old new → NameNoHalf P (word_at old) pairs → NameNoHalf P (word_at new) pairs
no_half_now P old new pairs grows none =
    All-weaker (λ (p : Pair). All (λ (cell : ℕ). is_half (word_at old cell) ≡ false) (shallow_cells P p.left ++ shallow_cells P p.right))
    (λ (p : Pair). All (λ (cell : ℕ). is_half (word_at new cell) ≡ false) (shallow_cells P p.left ++ shallow_cells P p.right))
    (λ p each. All-weaker (λ (cell : ℕ). is_half (word_at old cell) ≡ false) (λ (cell : ℕ). is_half (word_at new cell) ≡ false)
    (λ cell was. sym (same_half old new cell grows) ∙ was) (shallow_cells P p.left ++ shallow_cells P p.right) each)
    pairs none

-- A half now was one before.
no_new_half : (P : NamedProgram) (old new : List Ref) (pairs : List Pair) (floor : ℕ) (bindings : List ℕ) → Binds P old new pairs floor bindings
    → (cell : ℕ) → is_half (word_at new cell) ≡ true → is_half (word_at old cell) ≡ true
no_new_half P old new pairs floor bindings b cell half = same_half old new cell (bound_grows P old new pairs floor bindings b) ∙ half

-- The row is settled,
settled_now : (P : NamedProgram) (old new : List Ref) (pairs : List Pair) (floor : ℕ) (bindings : List ℕ) → Binds P old new pairs floor bindings
    → BoundEnd P new floor bindings → IsSettled P new
settled_now P old new pairs floor bindings b ends = let terms =
    settled_rows_have_terms P new ends.sound in terms.1 (all_terms P old new pairs floor bindings b ends)

-- and a most general solution, where the pairs are equal in each of its solutions.
solved_now : (P : NamedProgram) (old new : List Ref) (pairs : List Pair) (floor : ℕ) (bindings : List ℕ) → Binds P old new pairs floor bindings
    → BoundEnd P new floor bindings
    → AreWritten (plain old) pairs → NewFollow P pairs (plain old) (plain new)
    → ((w : Words) → HasKnown (plain new) w → NameNoHalf P w pairs → (t : Substitution) → SolvesKnown P w (plain new) t
    → Solves t (equations_of_pairs P w pairs))
    → IsMostGeneral P new (equations_with P old pairs)
solved_now P old new pairs floor bindings b ends written follow equal =
    let grows : Grows old new = bound_grows P old new pairs floor bindings b in
    let all : AllHaveTerms P new = all_terms P old new pairs floor bindings b ends in
    let of_pairs : (t : Substitution) → SolvesKnown P (word_at new) (plain new) t → Solves t (equations_of_pairs P (word_at new) pairs) =
    equal (word_at new) (λ place r set. set.0) (no_half_now P old new pairs grows b.no_half) in
    most_general_of P new (equations_of P new) (equations_with P old pairs)
    (λ t s. solves_old P old new pairs t b.old_sound grows written of_pairs s)
    (λ t s. solves_new P old new pairs t b.old_sound grows written follow s)
    (rows_with_terms_are_solutions P new ends.sound all)

-- There is no solution where the row has none now,
unsolved_now : (P : NamedProgram) (old new : List Ref) (pairs : List Pair) (floor : ℕ) (bindings : List ℕ) → Binds P old new pairs floor bindings
    → AreWritten (plain old) pairs
    → NewFollow P pairs (plain old) (plain new) → (Solvable (equations_of P new) → ⊥) → Solvable (equations_with P old pairs) → ⊥
unsolved_now P old new pairs floor bindings b written follow none solvable =
    none (solvable.0, solves_new P old new pairs solvable.0 b.old_sound (bound_grows P old new pairs floor bindings b) written follow solvable.1)

-- nor where the pairs have none under what is known now.
apart_now : (P : NamedProgram) (old new : List Ref) (pairs : List Pair) (floor : ℕ) (bindings : List ℕ) → Binds P old new pairs floor bindings
    → AreWritten (plain old) pairs
    → NewFollow P pairs (plain old) (plain new)
    → ((w : Words) → HasKnown (plain new) w → (t : Substitution) → SolvesKnown P w (plain new) t → Solves t (equations_of_pairs P w pairs) → ⊥)
    → Solvable (equations_with P old pairs) → ⊥
apart_now P old new pairs floor bindings b written follow none solvable =
    let both = solves_now P old new pairs solvable.0 b.old_sound (bound_grows P old new pairs floor bindings b) written follow solvable.1 in
    none (word_at new) (λ place r set. set.0) solvable.0 both.0 both.1

module _ (P : NamedProgram) (old new : List Ref) (pairs : List Pair) (floor : ℕ) (bindings : List ℕ) where
  -- each solution of what is known now makes the pairs equal
  abbrev AreEqual : Type 0
  AreEqual =
      (w : Words) → HasKnown (plain new) w → NameNoHalf P w pairs → (t : Substitution) → SolvesKnown P w (plain new) t
      → Solves t (equations_of_pairs P w pairs)

  -- none does
  abbrev AreNeverEqual : Type 0
  AreNeverEqual =
      (w : Words) → HasKnown (plain new) w → (t : Substitution) → SolvesKnown P w (plain new) t → Solves t (equations_of_pairs P w pairs) → ⊥

  module _ (b : Binds P old new pairs floor bindings) (keeps : Keeps (plain old) (plain new)) where
    -- So this is what settling comes to for want of memory,
    pub broken_off : Settles P old new pairs Memory
    broken_off = record {
      solved = λ is. absurd (cc);
      settled = λ is. absurd (cc);
      no_solution = λ is. absurd (cc);
      keeps = keeps;
      halves = no_new_half P old new pairs floor bindings b;
    }

    module _ (written : AreWritten (plain old) pairs) (follow : NewFollow P pairs (plain old) (plain new)) where
      -- where two were apart,
      pub settled_apart : AreNeverEqual → Settles P old new pairs NoSolution
      settled_apart none = record {
        solved = λ is. absurd (cc);
        settled = λ is. absurd (cc);
        no_solution = λ is. apart_now P old new pairs floor bindings b written follow none;
        keeps = keeps;
        halves = no_new_half P old new pairs floor bindings b;
      }

      -- and where what the bound cells lead to was explored.
      pub judged : (answer : Settled) → AreEqual → (answer ≡ Solved → BoundEnd P new floor bindings)
          → (answer ≡ NoSolution → Solvable (equations_of P new) → ⊥) → Settles P old new pairs answer
      judged answer equal ends none = record {
        solved = λ is. solved_now P old new pairs floor bindings b (ends is) written follow equal;
        settled = λ is. settled_now P old new pairs floor bindings b (ends is);
        no_solution = λ is. unsolved_now P old new pairs floor bindings b written follow (none is);
        keeps = keeps;
        halves = no_new_half P old new pairs floor bindings b;
      }

-- Where nothing was set, there is no solution or no memory.
pub unsettled : (P : NamedProgram) (row : List Ref) (pairs : List Pair) (answer : Settled) → answer ≢ Solved
    → (answer ≡ NoSolution → Solvable (equations_with P row pairs) → ⊥) → Settles P row row pairs answer
unsettled P row pairs answer other none = record {
  solved = λ is. absurd (other is);
  settled = λ is. absurd (other is);
  no_solution = none;
  keeps = reads_keeps (plain row) (plain row) (reads_nothing (plain row));
  halves = λ cell half. half;
}

-- Nor was anything set to what no word of the row or side leads to.
pub places_stay : (P : NamedProgram) (row : List Ref) (pairs : List Pair) → SetsPlaces P row row pairs
places_stay P row pairs = record { each = λ cell r set. inl set }
