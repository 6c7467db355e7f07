-- The written names of variables, as they are met.
use Rattle.std.proofs.Common.{ℕ, suc, ◌+◌, ◌≡◌, ◌<◌, ◌||◌, Bool, true, false, not, cond, List, [], ◌∷◌, ◌++◌, length, get_or, drop, refl, ap, sym, ◌∙◌}
use Rattle.std.proofs.Common.{arith, subst, codes}
use Rattle.std.specs.Str.{bytes_eq}
use Rattle.std.proofs.lemmas.List.{drop_more}
use Rattle.and_model.specs.Lines.{Bytes}
use Rattle.and_syntax.specs.Written.{has, is_new, place, variable_number}
use Rattle.and_drafts.specs.declared.draft.DraftPart.{DraftPart}
use Rattle.and_drafts.specs.Numbered.{met_with}
use Rattle.and_drafts.specs.Parts.{part_shape}
use Rattle.and_drafts.specs.Variables.{IsNumbered, AllNumbered}

-- what was met has a place
has-place : (x : Bytes) (met : List Bytes) → has x met ≡ true → place x met < length met
has-place x [] e = absurd cc
has-place x (y ∷ met) e = by (bytes_eq x y) (λ h. has-place x met h) e
  where
    by : (b : Bool) → (has x met ≡ true → place x met < length met) → b || has x met ≡ true → cond (not b) (1 + place x met) 0 < suc (length met)
    by true k h = omega arith
    by false k h = omega (arith, k h)

known-number : (x : Bytes) (met : List Bytes) → is_new x met ≡ false → variable_number x met < length met
known-number x met e = by (bytes_eq x (codes "_")) (has x met) (λ h. has-place x met h) e
  where
    by : (b h : Bool) → (h ≡ true → place x met < length met) → b || not h ≡ false → cond (b || not h) (length met) (place x met) < length met
    by true h k f = absurd cc
    by false true k f = k refl
    by false false k f = absurd cc

-- the next variable has as its number how many were met
pub next_met : (x : Bytes) (met new : List Bytes) (n : ℕ) → n ≡ variable_number x met → n ≡ length met → new ≡ met ++ x ∷ []
    → new ≡ cond (is_new x met) (met ++ x ∷ []) met
next_met x met new n is last made = made ∙ by (is_new x met) refl
  where
    by : (b : Bool) → is_new x met ≡ b → met ++ x ∷ [] ≡ cond b (met ++ x ∷ []) met
    by true e = refl
    by false e = absurd (omega (arith, known-number x met e, is, last))

pub old_met : (x : Bytes) (met : List Bytes) (n : ℕ) → n ≡ variable_number x met → (n ≡ length met → ⊥) → met ≡ cond (is_new x met) (met ++ x ∷ []) met
old_met x met n is other = by (is_new x met) refl
  where
    by : (b : Bool) → is_new x met ≡ b → met ≡ cond b (met ++ x ∷ []) met
    by true e = absurd (other (is ∙ ap (λ b. cond b (length met) (place x met)) e))
    by false e = refl

-- the part at that place is numbered, and those behind it too
pub numbered_at : (met : List Bytes) (parts : List DraftPart) (i : ℕ) (p : DraftPart) → i < length parts → p ≡ get_or parts i p → AllNumbered met (drop i parts)
    → IsNumbered met p × AllNumbered (met_with met (part_shape p)) (drop (i + 1) parts)
numbered_at met parts i p lt at a =
    subst (AllNumbered met) (drop_more parts i p lt ∙ ap (λ q. q ∷ drop (i + 1) parts) (sym at)) a
