-- What suffices that each path from a reference ends, when it is followed by one place.
use Rattle.std.proofs.Common.{ℕ, zero, suc, ◌+◌, ◌≡◌, ◌<◌, ◌≤◌, ◌≢◌, ◌⊎◌, inl, inr, List, [], ◌∷◌, ◌++◌, length, get_or, refl, ap, sym, subst, ◌∙◌, arith}
use Rattle.std.proofs.Common.{append_assoc, false}
use Rattle.std.specs.Prelude.{Bool, Contains, All}
use Rattle.std.proofs.lemmas.Bool.{cases_lt}
use Rattle.std.proofs.lemmas.List.{append-nil}
use Rattle.std.proofs.lemmas.List.Elements.{All-nil, All-cons, All-head, All-append, All-push, All-contains, All-weaker, All-contains_itself, All-from_get_or}
use Rattle.std.proofs.lemmas.List.Elements.{Contains-append_left, Contains-append_right, Contains-push, Contains-get_or}
use Rattle.and_model.specs.declared.numbers.NodeNo.{NodeNo}
use Rattle.and_model.specs.declared.reference.Ref.{Ref}
use Rattle.and_model.specs.declared.reference.Ref.TheVariants.{Free, Cell, Node, Number, Half}
use Rattle.and_program.specs.Skeletons.{AllFall}
use Rattle.and_program.specs.Loaded.{arguments_at, skeleton_of}
use Rattle.and_program.specs.declared.loaded.Loaded.{Loaded}
use Rattle.and_cells.specs.Ranges.{NamedProgram, IsInRange}
use Rattle.and_cells.specs.Rows.{IsSound}
use Rattle.and_cells.specs.Seen.{word_at}
use Rattle.and_cells.specs.Parts.{named, part_at}
use Rattle.and_cells.specs.Ends.{Ends}
use Rattle.and_cells.specs.Ground.{EndsGround}
use Rattle.and_cells.proofs.Among.{among_map, map_among}
use Rattle.and_circles.specs.Following.{argument_part, Suffice, Puts, LeadsOn, step_beyond}
use Rattle.and_circles.proofs.Parts.{part_in_range, step_in_range}

-- from what is ground each path ends
pub ground_ends : (P : NamedProgram) (row : List Ref) (floor : ℕ) (halves : Bool) (r : Ref) → EndsGround P row r → Ends P row floor halves r
ground_ends P row floor halves r (EndsGround.set cell to is_set ground) = Ends.set cell to is_set (ground_ends P row floor halves to ground)
ground_ends P row floor halves r (EndsGround.parts node base each) = Ends.parts node base (λ part has. ground_ends P row floor halves part (each part has))
ground_ends P row floor halves r (EndsGround.number pair) = Ends.number pair

-- a reference in range is put on a list of such, or is not
pub all_noted : (P : NamedProgram) (words : ℕ) (at : Ref) (old new : List Ref) → All (IsInRange P words) old → IsInRange P words at
    → (new ≡ old) ⊎ (new ≡ old ++ at ∷ []) → All (IsInRange P words) new
all_noted P words at old new all fits (inl same) = subst (All (IsInRange P words)) (sym same) all
all_noted P words at old new all fits (inr more) = subst (All (IsInRange P words)) (sym more) (All-push (IsInRange P words) old at all fits)

module _ {X : Type 0} (P : X → Type 0) (xs ys : List X) (all : All P (xs ++ ys)) where
  -- what holds of a list, holds of its beginning
  all_front : All P xs
  all_front = All-weaker (Contains xs) P (λ x c. All-contains P (xs ++ ys) x all (Contains-append_left xs ys x c)) xs (All-contains_itself xs)

  -- and of its end
  all_back : All P ys
  all_back = All-weaker (Contains ys) P (λ x c. All-contains P (xs ++ ys) x all (Contains-append_right xs ys x c)) ys (All-contains_itself ys)

-- the arguments of a structure in range, by their places
module _ (P : NamedProgram) (row : List Ref) (node : NodeNo) (base : ℕ) where
  -- how a part is found
  pub part_found : (l : Loaded) (argument place : ℕ) (part : Ref) → P ≡ named l → part ≡ part_at (named l) base argument
      → argument ≡ get_or (arguments_at (skeleton_of l) node.0) place 0 → part ≡ argument_part P node base place
  part_found l argument place part same resolved is =
      subst (λ (Q : NamedProgram). part ≡ argument_part Q node base place) (sym same)
      (◌∙◌ {b = part_at (named l) base argument} resolved (ap (part_at (named l) base) is))

  -- each is in range,
  pub part_fits : AllFall 0 P.skeleton.nodes → IsInRange P (length row) (Node node base) → (place : ℕ) → place < length (arguments_at P.skeleton node.0)
      → IsInRange P (length row) (argument_part P node base place)
  part_fits falls fits place below =
      part_in_range P falls (length row) node base (argument_part P node base place) fits
      (among_map (part_at P base) (get_or (arguments_at P.skeleton node.0) place 0) (arguments_at P.skeleton node.0)
      (Contains-get_or (arguments_at P.skeleton node.0) place 0 below))

  -- and where each path from each of them ends, so does each from the structure.
  pub structure_ends : (floor : ℕ) → ((place : ℕ) → place < length (arguments_at P.skeleton node.0) → Ends P row floor false (argument_part P node base place))
      → Ends P row floor false (Node node base)
  structure_ends floor each = Ends.parts node base (λ r c. by_argument r (map_among (part_at P base) r (arguments_at P.skeleton node.0) c))
    where
      by_argument : (r : Ref) → (m : ℕ) × Contains (arguments_at P.skeleton node.0) m × (part_at P base m ≡ r) → Ends P row floor false r
      by_argument r w =
          subst (Ends P row floor false) w.2
          (All-contains (λ (m : ℕ). Ends P row floor false (part_at P base m)) (arguments_at P.skeleton node.0) w.0
          (All-from_get_or (λ (m : ℕ). Ends P row floor false (part_at P base m)) (arguments_at P.skeleton node.0) 0 each) w.1)

module _ (P : NamedProgram) (row : List Ref) (floor : ℕ) where
  -- what holds needs nothing on the list
  pub puts_nothing : (goal : Type 0) (list : List Ref) → goal → Puts P row floor goal list list
  puts_nothing goal list holds = ([], sym (append-nil list), record { in_range = All-nil (IsInRange P (length row)); owes = λ all. holds })

  -- a reference is put on the list itself
  pub puts_one : (r : Ref) (old new : List Ref) → IsInRange P (length row) r → new ≡ old ++ r ∷ [] → Puts P row floor (Ends P row floor false r) old new
  puts_one r old new fits is = (
    r ∷ [],
    is,
    record {
      in_range = All-cons (IsInRange P (length row)) r [] fits (All-nil (IsInRange P (length row)));
      owes = λ all. All-head (Ends P row floor false) r [] all;
    },
  )

  -- what was put for one goal and then for another suffices for what follows from both
  pub puts_both : (one other goal : Type 0) (old mid new : List Ref) → Puts P row floor one old mid → Puts P row floor other mid new → (one → other → goal)
      → Puts P row floor goal old new
  puts_both one other goal old mid new first second join =
      let more : List Ref = first.0 in
      let further : List Ref = second.0 in (
        more ++ further,
        second.1 ∙ ap (λ (rs : List Ref). rs ++ further) first.1 ∙ append_assoc old more further,
        record {
          in_range = All-append (IsInRange P (length row)) more further first.2.in_range second.2.in_range;
          owes = λ all. join (first.2.owes (all_front (Ends P row floor false) more further all))
              (second.2.owes (all_back (Ends P row floor false) more further all));
        },
      )

  -- what was put for a goal suffices for what follows from it
  puts_weaker : (one goal : Type 0) (old new : List Ref) → Puts P row floor one old new → (one → goal) → Puts P row floor goal old new
  puts_weaker one goal old new put then = (put.0, put.1, record { in_range = put.2.in_range; owes = λ all. then (put.2.owes all) })

  -- the same, where what is on the list sufficed for the first goal
  pub suffice_with : (one other goal : Type 0) (old new : List Ref) → Suffice P row floor old one → Puts P row floor other old new → (one → other → goal)
      → Suffice P row floor new goal
  suffice_with one other goal old new first second join =
      let more : List Ref = second.0 in
      subst (λ (rs : List Ref). Suffice P row floor rs goal) (sym second.1) (record {
        in_range = All-append (IsInRange P (length row)) old more first.in_range second.2.in_range;
        owes = λ all. join (first.owes (all_front (Ends P row floor false) old more all)) (second.2.owes (all_back (Ends P row floor false) old more all));
      })

  -- a reference is taken from the list
  pub suffice_taken : (goal : Type 0) (old new : List Ref) (next : Ref) → Suffice P row floor old goal → old ≡ new ++ next ∷ []
      → IsInRange P (length row) next × Suffice P row floor new (Ends P row floor false next → goal)
  suffice_taken goal old new next given is =
      let now : Suffice P row floor (new ++ next ∷ []) goal = subst (λ (rs : List Ref). Suffice P row floor rs goal) is given in (
        All-contains (IsInRange P (length row)) (new ++ next ∷ []) next now.in_range (Contains-push new next),
        record {
          in_range = all_front (IsInRange P (length row)) new (next ∷ []) now.in_range;
          owes = λ all ends. now.owes (All-push (Ends P row floor false) new next all ends);
        },
      )

  -- nothing is on the list
  pub suffice_nothing : (goal : Type 0) (list : List Ref) → Suffice P row floor list goal → list ≡ [] → goal
  suffice_nothing goal list given none = given.owes (subst (All (Ends P row floor false)) (sym none) (All-nil (Ends P row floor false)))

  -- a path goes on from a cell as its word says
  pub leads_beyond : AllFall 0 P.skeleton.nodes → IsSound P row → (cell : ℕ) (word : Ref) (list : List Ref) → cell < length row → word_at row cell ≡ word
      → LeadsOn P row floor (Cell cell) list list (step_beyond word)
  leads_beyond falls sound cell Free list below is = puts_nothing (Ends P row floor false (Cell cell)) list (Ends.free cell is)
  leads_beyond falls sound cell (Cell other) list below is =
      let set : Cell other ≢ Free = λ e. cc in (
        step_in_range P falls row sound (Cell cell) (Cell other) below (is, set) refl,
        puts_nothing (Ends P row floor false (Cell other) → Ends P row floor false (Cell cell)) list (Ends.set cell (Cell other) (is, set)),
      )
  leads_beyond falls sound cell (Node node base) list below is =
      let set : Node node base ≢ Free = λ e. cc in (
        step_in_range P falls row sound (Cell cell) (Node node base) below (is, set) refl,
        puts_nothing (Ends P row floor false (Node node base) → Ends P row floor false (Cell cell)) list (Ends.set cell (Node node base) (is, set)),
      )
  leads_beyond falls sound cell (Number pair) list below is =
      let set : Number pair ≢ Free = λ e. cc in (
        step_in_range P falls row sound (Cell cell) (Number pair) below (is, set) refl,
        puts_nothing (Ends P row floor false (Number pair) → Ends P row floor false (Cell cell)) list (Ends.set cell (Number pair) (is, set)),
      )
  leads_beyond falls sound cell (Half bits) list below is = tt

  -- the parts of a structure behind the first, up to a place
  module _ (node : NodeNo) (base place : ℕ) (old mid : List Ref) where
    abbrev Behind : ℕ → Type 0
    Behind end = (k : ℕ) → 0 < k → k < end → Ends P row floor false (argument_part P node base k)

    -- one more is put on the list
    pub covers_next : (new : List Ref) → Puts P row floor (Behind place) old mid
        → Puts P row floor (Ends P row floor false (argument_part P node base place)) mid new → Puts P row floor (Behind (place + 1)) old new
    covers_next new before next =
        puts_both (Behind place) (Ends P row floor false (argument_part P node base place)) (Behind (place + 1)) old mid new before next
        (λ each last k above below. elim (cases_lt k place) [
          | inl earlier ↦ each k above earlier
          | inr other ↦ let same : place ≡ k = omega arith in subst (λ (n : ℕ). Ends P row floor false (argument_part P node base n)) same last
        ])

    -- once all are there, the structure ends as its first part does
    pub covers_all : Puts P row floor (Behind place) old mid → length (arguments_at P.skeleton node.0) ≤ place
        → Puts P row floor (Ends P row floor false (argument_part P node base 0) → Ends P row floor false (Node node base)) old mid
    covers_all before all_there =
        puts_weaker (Behind place) (Ends P row floor false (argument_part P node base 0) → Ends P row floor false (Node node base)) old mid before
        (λ each first. structure_ends P row node base floor (λ k below. by_place each first k (omega arith)))
      where
        by_place : Behind place → Ends P row floor false (argument_part P node base 0) → (k : ℕ) → k < place
            → Ends P row floor false (argument_part P node base k)
        by_place each first zero below = first
        by_place each first (suc k) below = each (suc k) (omega arith) below
