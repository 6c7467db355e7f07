-- Parts that are taken from a list.
use Rattle.std.proofs.Common.{ℕ, ◌≡◌, List, [], ◌∷◌, ◌++◌, refl, sym, ap, subst, ◌∙◌, append-nil}
use Rattle.std.specs.Prelude.{All, Contains}
use Rattle.std.proofs.lemmas.List.Concat.{flat_map-append}
use Rattle.std.proofs.lemmas.List.Elements.{All-append, All-cons, All-nil, All-contains, All-contains_itself, All-weaker, Contains-append_left}
use Rattle.std.proofs.lemmas.List.Elements.{Contains-append_right}
use Rattle.and_cells.specs.Ranges.{NamedProgram}
use Rattle.and_cells.specs.Seen.{Seen}
use Rattle.and_laws.proofs.Ordered.{contains_first}
use Rattle.and_unify.specs.declared.pairs.Pair.{Pair}
use Rattle.and_cells.proofs.Chains.{reads_nothing}
use Rattle.and_unify.specs.Meeting.{MeetStructures}
use Rattle.and_unify.proofs.MeetingSteps.{lead_here}
use Rattle.and_unify.proofs.DescentKept.{plainly_joins}
use Rattle.and_unify.specs.Running.{Runs, sorted, arguments_of_both}
use Rattle.and_unify.proofs.DescentRuns.{same_swapped, runs_words}
use Rattle.and_heads.specs.declared.parts.Part.{Part}
use Rattle.and_heads.specs.Parts.{HasShape, both_of, arguments_of_parts}
use Rattle.and_heads.specs.Entering.{StepsToParts}

module _ (P : NamedProgram) (parts rest : List Part) (part : Part) (last : parts ≡ rest ++ part ∷ []) where
  -- The arguments of the last part come first,
  last_first : (old s : Seen) (todo : List Pair) (began bound : List ℕ) → Runs P old todo began s (arguments_of_parts P parts) bound
      → Runs P old todo began s (arguments_of_both P (both_of part) ++ arguments_of_parts P rest) bound
  last_first old s todo began bound runs =
      let one : List Pair = arguments_of_both P (both_of part) in
      let others : List Pair = arguments_of_parts P rest in
      let is : arguments_of_parts P parts ≡ others ++ one =
      ap (arguments_of_parts P) last
      ∙ flat_map-append (λ (x : Part). arguments_of_both P (both_of x)) rest (part ∷ [])
      ∙ ap (λ xs. others ++ xs) (append-nil one) in
      sorted s (others ++ one) (one ++ others) bound (subst (λ xs. Runs P old todo began s xs bound) is runs) (same_swapped others one)

  -- and all are of one shape.
  last_shape : (words : ℕ) → All (HasShape P words) parts → HasShape P words part × All (HasShape P words) rest
  last_shape words all =
      let each : All (HasShape P words) (rest ++ part ∷ []) = subst (All (HasShape P words)) last all in (
        All-contains (HasShape P words) (rest ++ part ∷ []) part each (Contains-append_right rest (part ∷ []) part (contains_first part [])),
        All-weaker (λ (x : Part). Contains rest x) (HasShape P words)
            (λ x at. All-contains (HasShape P words) (rest ++ part ∷ []) x each (Contains-append_left rest (part ∷ []) x at))
            rest (All-contains_itself rest),
      )

-- A turn: a part and all others are of one shape, and the arguments of the part are the first that are to do.
pub record PartTurn (P : NamedProgram) (old s : Seen) (todo : List Pair) (began bound : List ℕ) (part : Part) (rest : List Part) : Type 0 where
  pub words : s.words ≡ old.words
  pub shape : HasShape P s.words part
  pub shapes : All (HasShape P s.words) rest
  pub runs : Runs P old todo began s (arguments_of_both P (both_of part) ++ arguments_of_parts P rest) bound

-- A turn at the last part of a list.
pub part_turn : (P : NamedProgram) (parts rest : List Part) (part : Part) → parts ≡ rest ++ part ∷ [] → (old s : Seen) (todo : List Pair) (began bound : List ℕ)
    → All (HasShape P old.words) parts → Runs P old todo began s (arguments_of_parts P parts) bound → PartTurn P old s todo began bound part rest
part_turn P parts rest part last old s todo began bound shapes runs =
    let words = runs_words P old todo began s (arguments_of_parts P parts) bound runs in
    let each = last_shape P parts rest part last s.words (subst (λ n. All (HasShape P n) parts) (sym words) shapes) in
    record { words = words; shape = each.0; shapes = each.1; runs = last_first P parts rest part last old s todo began bound runs }

-- Two structures of one shape are put on the list of parts.
pub whole_put : (P : NamedProgram) (s : Seen) (pair : Pair) (whole : Part) (parts longer : List Part) (bound : List ℕ) → both_of whole ≡ pair
    → HasShape P s.words whole → longer ≡ parts ++ whole ∷ [] → StepsToParts P pair s s parts longer bound bound
whole_put P s pair whole parts longer bound is shape gains =
    let both : Pair = both_of whole in
    let met : MeetStructures P both.left both.right s s both.left both.right =
    record { lead = lead_here both.left both.right s s (reads_nothing s); shape = shape } in
    let steps : StepsToParts P both s s parts longer bound bound = record {
      more = whole ∷ [];
      gains = gains;
      shapes = All-cons (HasShape P s.words) whole [] shape (All-nil (HasShape P s.words));
      steps = λ list.
          plainly_joins P P both both.left both.right s s list (list ++ arguments_of_parts P (whole ∷ [])) bound bound refl met refl
          (ap (λ xs. list ++ xs) (append-nil (arguments_of_both P both)));
    } in
    subst (λ p. StepsToParts P p s s parts longer bound bound) is steps

-- Parts that are put behind others of one shape are of one shape with them.
pub shapes_behind : (P : NamedProgram) (words : ℕ) (parts more longer : List Part) → longer ≡ parts ++ more → All (HasShape P words) parts
    → All (HasShape P words) more → All (HasShape P words) longer
shapes_behind P words parts more longer is one other = subst (All (HasShape P words)) (sym is) (All-append (HasShape P words) parts more one other)

-- Where no part is left, nothing is.
pub none_left : (P : NamedProgram) (old s : Seen) (todo : List Pair) (parts : List Part) (began bound : List ℕ) → parts ≡ []
    → Runs P old todo began s (arguments_of_parts P parts) bound → Runs P old todo began s [] bound
none_left P old s todo parts began bound none runs = subst (λ (xs : List Part). Runs P old todo began s (arguments_of_parts P xs) bound) none runs
