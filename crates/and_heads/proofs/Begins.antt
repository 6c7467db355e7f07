-- What comes of two references that begin alike: they are one number, or structures of one shape.
use Rattle.std.proofs.Common.{ℕ, ◌≡◌, ◌≢◌, List, [], ◌∷◌, ◌++◌, length, refl, sym, ap, subst, ◌∙◌, append-nil, arith}
use Rattle.and_model.specs.declared.reference.Ref.{Ref}
use Rattle.and_cells.specs.Ranges.{NamedProgram, IsInRange}
use Rattle.and_cells.specs.Seen.{Seen}
use Rattle.and_cells.specs.Parts.{IsStructure, parts_of}
use Rattle.and_cells.proofs.Chains.{reads_nothing}
use Rattle.and_unify.specs.declared.pairs.Pair.{Pair}
use Rattle.and_unify.specs.declared.heads.Head.{Head}
use Rattle.and_unify.specs.declared.heads.Head.TheVariants.{Number, Name}
use Rattle.and_unify.specs.Heads.{HasHead}
use Rattle.and_unify.specs.Meeting.{AreOfOneShape, MeetAlike, MeetStructures}
use Rattle.and_unify.specs.Descending.{StepsPlainly}
use Rattle.and_unify.specs.Turns.{alike, pairs_of}
use Rattle.and_unify.proofs.MeetingHeads.{numbers_alike}
use Rattle.and_unify.proofs.MeetingSteps.{lead_here}
use Rattle.and_unify.proofs.TurnParts.{parts_counted}
use Rattle.and_unify.proofs.DescentKept.{plainly_joins}
use Rattle.and_heads.specs.Parts.{arguments_in}

-- Where both begin alike and have arguments, they are structures of one shape.
pub of_one_shape : (P : NamedProgram) (s : Seen) (words : ℕ) (one other : Ref) (a b : Head) (count : ℕ) → HasHead P s one a → HasHead P s other b → a ≡ b
    → arguments_in a ≡ count → count ≢ 0 → IsInRange P words one → IsInRange P words other → AreOfOneShape P words one other
of_one_shape P s words one other (Number z) b count first second same counted some left right = absurd (some (sym counted))
of_one_shape P s words one other (Name name many) b count first second same counted some left right = record {
  name = name.0;
  count = many;
  left_is = first;
  right_is = subst (HasHead P s other) (sym same) second;
  left_in_range = left;
  right_in_range = right;
}

none_there : (rs : List Ref) → length rs ≡ 0 → rs ≡ []
none_there [] e = refl
none_there (r ∷ rs) e = absurd (omega arith)

-- where both begin alike and have no arguments, they are a step that leaves nothing
pub alike_at_once : (P : NamedProgram) (s : Seen) (one other : Ref) (a b : Head) → HasHead P s one a → HasHead P s other b → a ≡ b
    → arguments_in a ≡ 0 → IsInRange P s.words one → IsInRange P s.words other → (list : List Pair) (bound : List ℕ)
    → StepsPlainly P (record { left = one; right = other }) s s list (list ++ []) bound bound
alike_at_once P s one other (Number z) b first second same empty left right list bound = λ links.
    let also : HasHead P s other (Number z) = subst (HasHead P s other) (sym same) second in
    let met : MeetAlike P one other s s = record {
      one = one;
      other = other;
      lead = lead_here one other s s (reads_nothing s);
      alike = numbers_alike P s one other (Number z) (Number z) z refl refl first also;
    } in
    (links, alike met refl (append-nil list) refl)
alike_at_once P s one other (Name name many) b first second same empty left right list bound =
    let is : IsStructure P one name.0 many = first in
    let parts : parts_of P one ≡ [] = none_there (parts_of P one) (parts_counted P one name.0 many is ∙ empty) in
    let met : MeetStructures P one other s s one other = record {
      lead = lead_here one other s s (reads_nothing s);
      shape = record {
        name = name.0;
        count = many;
        left_is = first;
        right_is = subst (HasHead P s other) (sym same) second;
        left_in_range = left;
        right_in_range = right;
      };
    } in
    plainly_joins P P (record { left = one; right = other }) one other s s list (list ++ []) bound bound refl met refl
    (ap (λ rs. list ++ pairs_of rs (parts_of P other)) (sym parts))
