-- Where the sides of what is to do lie: in range, and at places of the sides that were asked for.
use Rattle.std.proofs.Common.{ℕ, suc, ◌≡◌, ◌≢◌, List, [], ◌∷◌, ◌++◌, length, subst, inl, inr, arith}
use Rattle.std.specs.Prelude.{Contains, All, AllPairs}
use Rattle.std.proofs.lemmas.List.Elements.{All-contains_itself, All-nil, All-cons, All-push, All-weaker}
use Rattle.std.proofs.lemmas.List.{length_push}
use Rattle.and_laws.proofs.Pairwise.{all_pairs_join}
use Rattle.and_model.specs.declared.reference.Ref.{Ref}
use Rattle.and_model.specs.declared.reference.Ref.TheVariants.{Cell, Node}
use Rattle.and_program.specs.Skeletons.{AllFall}
use Rattle.and_cells.specs.Ranges.{NamedProgram, IsInRange}
use Rattle.and_cells.specs.Seen.{Seen, Knows, LeadsTo, here, onward, IsWrittenIfNumber}
use Rattle.and_cells.proofs.Chains.{written_later}
use Rattle.and_cells.specs.Parts.{IsStructure, parts_of}
use Rattle.and_unify.specs.declared.pairs.Pair.{Pair}
use Rattle.and_unify.specs.Places.{IsPlace, root, set, part, Places}
use Rattle.and_unify.specs.Turns.{Steps}
use Rattle.and_unify.proofs.TurnParts.{part_in_range, part_written, sides_of_pairs}
use Rattle.and_unify.proofs.TurnClosed.{Leaves, steps_keep}
use Rattle.and_unify.proofs.TurnSound.{IsPartOf, step_adds}

-- both sides of a pair are in range, and those that are numbers are written
pub record IsFit (P : NamedProgram) (words : ℕ) (s : Seen) (p : Pair) : Type 0 where
  pub left_in_range : IsInRange P words p.left
  pub right_in_range : IsInRange P words p.right
  pub left_written : IsWrittenIfNumber s p.left
  pub right_written : IsWrittenIfNumber s p.right

-- A pair that fits does so later.
pub fit_later : (P : NamedProgram) (words : ℕ) (old new : Seen) (p : Pair) → ((place : ℕ) (r : Ref) → Knows old place r → Knows new place r)
    → IsFit P words old p → IsFit P words new p
fit_later P words old new p knows fit = record {
  left_in_range = fit.left_in_range;
  right_in_range = fit.right_in_range;
  left_written = written_later old new p.left knows fit.left_written;
  right_written = written_later old new p.right knows fit.right_written;
}

-- Pairs of arguments fit.
part_fits : (P : NamedProgram) (words : ℕ) (s : Seen) (p q : Pair) → AllFall 0 P.skeleton.nodes → IsPartOf P s words p q → IsFit P words s q
part_fits P words s p q fall is =
    let (left, right) = sides_of_pairs (parts_of P is.one) (parts_of P is.other) q is.at in record {
      left_in_range = part_in_range P words is.one q.left fall is.shape.left_in_range left;
      right_in_range = part_in_range P words is.other q.right fall is.shape.right_in_range right;
      left_written = part_written P s is.one q.left left;
      right_written = part_written P s is.other q.right right;
    }

-- So all that is to do fits after a step.
pub fits_steps : (P : NamedProgram) (p : Pair) (old new : Seen) (links more_links : List (Ref × Ref)) (list longer : List Pair) (bound further : List ℕ)
    (Todo Later : Pair → Type 0) (words : ℕ)
    → AllFall 0 P.skeleton.nodes → old.words ≡ words → Leaves p list longer Todo Later → Steps P p old new links more_links list longer bound further
    → ((q : Pair) → Todo q → IsFit P words old q) → (q : Pair) → Later q → IsFit P words new q
fits_steps P p old new links more_links list longer bound further Todo Later words fall same leaves steps fit q l =
    let knows = (steps_keep P p old new links more_links list longer bound further steps).knows in
    elim (leaves.comes q l) [
      | inl was ↦ fit_later P words old new q knows (fit q was)
      | inr at ↦ elim (step_adds P p old new links more_links list longer bound further steps q at) [
        | inl listed ↦ fit_later P words old new q knows (fit q (leaves.list_was q listed))
        | inr is ↦ subst (λ n. IsFit P n new q) same (part_fits P old.words new p q fall is)
      ]
    ]

-- A place stays one as more is known.
pub place_later : (P : NamedProgram) (old new : Seen) (roots : List Ref) (r : Ref) → ((place : ℕ) (x : Ref) → Knows old place x → Knows new place x)
    → IsPlace P old roots r → IsPlace P new roots r
place_later P old new roots r knows (root x at) = root x at
place_later P old new roots r knows (set cell x at k) = set cell x (place_later P old new roots (Cell cell) knows at) (knows cell x k)
place_later P old new roots r knows (part node base x at among) = part node base x (place_later P old new roots (Node node base) knows at) among

-- What a place leads to is a place, where what is known is set to places,
pub place_leads : (P : NamedProgram) (s now : Seen) (roots : List Ref) (r to : Ref)
    → ((cell : ℕ) (x : Ref) → Knows now cell x → IsPlace P s roots (Cell cell) → IsPlace P s roots x)
    → LeadsTo now r to → IsPlace P s roots r → IsPlace P s roots to
place_leads P s now roots r to each (here x) at = at
place_leads P s now roots r to each (onward cell x y knows leads) at = place_leads P s now roots x y each leads (each cell x knows at)

-- and so are the parts of a structure that is a place.
place_part : (P : NamedProgram) (s : Seen) (roots : List Ref) (one : Ref) (name count : ℕ) (q : Ref) → IsStructure P one name count → IsPlace P s roots one
    → Contains (parts_of P one) q
    → IsPlace P s roots q
place_part P s roots one name count q is at among =
    part is.node is.base q (subst (IsPlace P s roots) is.reference at) (subst (λ r. Contains (parts_of P r) q) is.reference among)

-- A pair of arguments has its left side at a place where that of the whole is at one, and so its right side.
pub part_left : (P : NamedProgram) (s now : Seen) (words : ℕ) (roots : List Ref) (p q : Pair)
    → ((cell : ℕ) (x : Ref) → Knows now cell x → IsPlace P s roots (Cell cell) → IsPlace P s roots x)
    → IsPartOf P now words p q → IsPlace P s roots p.left → IsPlace P s roots q.left
part_left P s now words roots p q each is at =
    let (left, right) = sides_of_pairs (parts_of P is.one) (parts_of P is.other) q is.at in
    place_part P s roots is.one is.shape.name is.shape.count q.left is.shape.left_is (place_leads P s now roots p.left is.one each is.left_leads at) left

-- the right side
pub part_right : (P : NamedProgram) (s now : Seen) (words : ℕ) (roots : List Ref) (p q : Pair)
    → ((cell : ℕ) (x : Ref) → Knows now cell x → IsPlace P s roots (Cell cell) → IsPlace P s roots x)
    → IsPartOf P now words p q → IsPlace P s roots p.right → IsPlace P s roots q.right
part_right P s now words roots p q each is at =
    let (left, right) = sides_of_pairs (parts_of P is.one) (parts_of P is.other) q is.at in
    place_part P s roots is.other is.shape.name is.shape.count q.right is.shape.right_is
    (place_leads P s now roots p.right is.other each is.right_leads at) right

-- what is set at a place under what is known is a place
pub place_set : (P : NamedProgram) (s : Seen) (roots : List Ref) (cell : ℕ) (x : Ref) → Knows s cell x → IsPlace P s roots (Cell cell) → IsPlace P s roots x
place_set P s roots cell x knows at = set cell x at knows

-- After a step the left sides of a list are places, where they were and the pair's is.
pub lefts_steps : (P : NamedProgram) (p : Pair) (old new : Seen) (links more_links : List (Ref × Ref)) (list longer : List Pair)
    (bound further : List ℕ) (roots : List Ref)
    → Steps P p old new links more_links list longer bound further → IsPlace P new roots p.left → ((q : Pair) → Contains list q → IsPlace P new roots q.left)
    → (q : Pair) → Contains longer q → IsPlace P new roots q.left
lefts_steps P p old new links more_links list longer bound further roots steps own each q at =
    elim (step_adds P p old new links more_links list longer bound further steps q at) [
      | inl listed ↦ each q listed
      | inr is ↦ part_left P new new old.words roots p q (place_set P new roots) is own
    ]

-- One more element that is not in a list leaves its elements distinct.
pub distinct_push : (xs : List Ref) (x : Ref) → (Contains xs x → ⊥) → AllPairs (λ (r q : Ref). r ≢ q) xs → AllPairs (λ (r q : Ref). r ≢ q) (xs ++ x ∷ [])
distinct_push xs x new distinct =
    let apart : (r : Ref) → Contains xs r → All (λ (q : Ref). r ≢ q) (x ∷ []) =
    λ r at. All-cons (λ (q : Ref). r ≢ q) x [] (λ e. new (subst (Contains xs) e at)) (All-nil (λ (q : Ref). r ≢ q)) in
    let one : AllPairs (λ (r q : Ref). r ≢ q) (x ∷ []) = λ i j d less within. absurd (omega arith) in
    all_pairs_join (λ (r q : Ref). r ≢ q) xs (x ∷ []) distinct one
    (All-weaker (Contains xs) (λ r. All (λ (q : Ref). r ≢ q) (x ∷ [])) apart xs (All-contains_itself xs))

-- So places that were taken, and one more, are so many places.
pub places_push : (P : NamedProgram) (s : Seen) (roots : List Ref) (taken : List Ref) (r : Ref) → (Contains taken r → ⊥)
    → AllPairs (λ (r q : Ref). r ≢ q) taken → All (IsPlace P s roots) taken → IsPlace P s roots r
    → Places P s roots (suc (length taken))
places_push P s roots taken r new distinct places own = record {
  places = taken ++ r ∷ [];
  distinct = distinct_push taken r new distinct;
  of_roots = All-push (IsPlace P s roots) taken r places own;
  counted = let e = length_push taken r in omega arith;
}
