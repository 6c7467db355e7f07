-- What comes of two references that were compared, or of which one was set to the other.
use Rattle.std.proofs.Common.{ℕ, ◌≡◌, ◌≢◌, List, [], ◌∷◌, ◌++◌, false, refl, sym, ap, subst, ◌∙◌, inl, inr, append-nil}
use Rattle.std.proofs.lemmas.List.Elements.{All-nil, All-cons}
use Rattle.and_model.specs.Store.{is_half}
use Rattle.and_model.specs.declared.reference.Ref.{Ref}
use Rattle.and_cells.specs.Ranges.{NamedProgram, IsInRange, IsInRangeOrHalf}
use Rattle.and_cells.specs.Seen.{Seen, Sets, OnlyReads, IsWrittenIfNumber}
use Rattle.and_cells.proofs.Chains.{reads_nothing}
use Rattle.and_cells.specs.Parts.{parts_of}
use Rattle.and_unify.specs.declared.pairs.Pair.{Pair}
use Rattle.and_unify.specs.declared.heads.Head.{Head}
use Rattle.and_unify.specs.Heads.{HasHead}
use Rattle.and_unify.specs.Meeting.{AreOfOneShape, IsToBeSet, MeetStructures, MeetFree}
use Rattle.and_unify.specs.Turns.{alike, sets, pairs_of}
use Rattle.and_unify.specs.Descending.{StepsPlainly}
use Rattle.and_unify.specs.Running.{arguments_of_both}
use Rattle.and_unify.proofs.MeetingHeads.{heads_apart}
use Rattle.and_unify.proofs.MeetingSteps.{lead_here, alike_here, free_left, free_right}
use Rattle.and_unify.proofs.DescentKept.{plainly_joins}
use Rattle.and_heads.specs.declared.parts.Part.{Part}
use Rattle.and_heads.specs.declared.entering.Entered.{Entered}
use Rattle.and_heads.specs.declared.entering.Entered.TheVariants.{Done, Apart, GivenUp}
use Rattle.and_heads.specs.Parts.{HasShape, Puts, arguments_in, arguments_of_parts, both_of, named_by}
use Rattle.and_heads.specs.Entering.{StepsToParts, Meets}
use Rattle.and_heads.proofs.Begins.{of_one_shape, alike_at_once}

-- two references as a pair
abbrev pub pair_of : (one other : Ref) → Pair
pair_of one other = record { left = one; right = other }

-- A step that puts no part behind the list.
pub steps_alone : (P : NamedProgram) (p : Pair) (old new : Seen) (parts longer : List Part) (bound further : List ℕ) → longer ≡ parts
    → ((list : List Pair) → StepsPlainly P p old new list (list ++ []) bound further) → StepsToParts P p old new parts longer bound further
steps_alone P p old new parts longer bound further same steps = record {
  more = [];
  gains = same ∙ sym (append-nil parts);
  shapes = All-nil (HasShape P old.words);
  steps = steps;
}

module _ (P : NamedProgram) (s : Seen) (one other : Ref) (parts longer : List Part) (bound : List ℕ) where
  -- They are one.
  pub meets_one : one ≡ other → is_half one ≡ false → longer ≡ parts → StepsToParts P (pair_of one other) s s parts longer bound bound
  meets_one same whole stays = steps_alone P (pair_of one other) s s parts longer bound bound stays
      (λ list links. (links, alike (alike_here P one other s same whole) refl (append-nil list) refl))

  module _ (a b : Head) (first : HasHead P s one a) (second : HasHead P s other b) where
    -- They begin differently,
    pub compared_apart : a ≢ b → Meets P (pair_of one other) s s parts longer bound bound Apart
    compared_apart differ =
        ((one, other, record { lead = lead_here one other s s (reads_nothing s); apart = heads_apart P s one other a b first second differ }), refl)

    module _ (same : a ≡ b) (left : IsInRange P s.words one) (right : IsInRange P s.words other) where
      -- or they begin alike, and have no arguments,
      pub compared_alike : arguments_in a ≡ 0 → longer ≡ parts → Meets P (pair_of one other) s s parts longer bound bound Done
      compared_alike none stays = steps_alone P (pair_of one other) s s parts longer bound bound stays
          (λ list. alike_at_once P s one other a b first second same none left right list bound)

      -- or have some.
      pub compared_put : (count : ℕ) → arguments_in a ≡ count → count ≢ 0 → Puts one other parts longer
          → Meets P (pair_of one other) s s parts longer bound bound Done
      compared_put count counted some (inl put) = meets_one put.0 put.1 put.2
      compared_put count counted some (inr put) =
          let part : Part = put.0 in
          let shape : AreOfOneShape P s.words one other =
          of_one_shape P s s.words one other a b count first second same counted some left right in
          let met : MeetStructures P one other s s one other = record { lead = lead_here one other s s (reads_nothing s); shape = shape } in
          let own : HasShape P s.words part =
          subst (λ r. AreOfOneShape P s.words r (named_by part.right)) put.1 (subst (AreOfOneShape P s.words one) put.2 shape) in
          let arguments : arguments_of_parts P (part ∷ []) ≡ pairs_of (parts_of P one) (parts_of P other) =
          append-nil (arguments_of_both P (both_of part))
          ∙ ap (λ r. pairs_of (parts_of P r) (parts_of P (named_by part.right))) (sym put.1)
          ∙ ap (λ r. pairs_of (parts_of P one) (parts_of P r)) (sym put.2) in
          record {
            more = part ∷ [];
            gains = put.3;
            shapes = All-cons (HasShape P s.words) part [] own (All-nil (HasShape P s.words));
            steps = λ list.
                plainly_joins P P (pair_of one other) one other s s list (list ++ arguments_of_parts P (part ∷ [])) bound bound refl met refl
                (ap (λ xs. list ++ xs) arguments);
          }

      -- So it is where these were to be put on the list.
      pub put_so : (count : ℕ) → arguments_in a ≡ count → count ≢ 0 → (r : Entered) → (r ≡ Done → Puts one other parts longer) → r ≢ Apart
          → Meets P (pair_of one other) s s parts longer bound bound r
      put_so count counted some Done done apart = compared_put count counted some (done refl)
      put_so count counted some Apart done apart = absurd (apart refl)
      put_so count counted some GivenUp done apart = (reads_nothing s, refl)

-- What comes of a cell that was to be set to a reference, where that was done or nothing.
module _ (P : NamedProgram) (s new : Seen) (one other : Ref) (cell : ℕ) (parts : List Part) (bound last : List ℕ) (r : Entered)
    (apart : r ≢ Apart) (given_up : r ≡ GivenUp → OnlyReads s new × (last ≡ bound)) where
  set_so : (to : Ref) → (r ≡ Done → Sets cell to s new × (last ≡ bound ++ cell ∷ [])) → (Sets cell to s new → MeetFree P one other cell s new)
      → Meets P (pair_of one other) s new parts parts bound last r
  set_so to done free = by r refl
    where
      by : (q : Entered) → r ≡ q → Meets P (pair_of one other) s new parts parts bound last q
      by Done is = steps_alone P (pair_of one other) s new parts parts bound last refl
          (λ list links. (links, sets cell (free (done is).0) refl (append-nil list) (done is).1))
      by Apart is = absurd (apart is)
      by GivenUp is = given_up is

  pub set_left : (r ≡ Done → Sets cell other s new × (last ≡ bound ++ cell ∷ [])) → IsToBeSet cell one other → IsInRangeOrHalf P s.words one
      → IsInRangeOrHalf P s.words other → IsWrittenIfNumber s other → Meets P (pair_of one other) s new parts parts bound last r
  set_left done set own fits written = set_so other done (λ was. free_left P one other cell cell s new set own fits written was refl)

  pub set_right : (r ≡ Done → Sets cell one s new × (last ≡ bound ++ cell ∷ [])) → IsToBeSet cell other one → IsInRangeOrHalf P s.words other
      → IsInRangeOrHalf P s.words one → IsWrittenIfNumber s one → Meets P (pair_of one other) s new parts parts bound last r
  set_right done set own fits written = set_so one done (λ was. free_right P one other cell cell s new set own fits written was refl)
