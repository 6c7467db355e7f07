-- Structures that are kept: what comes to their list, and what all of them have.
use Rattle.std.proofs.Common.{ℕ, ◌≡◌, ◌≤◌, ◌⊎◌, inl, inr, Bool, true, false, cond, List, [], ◌++◌, length, replicate, set, take, refl, ap, sym, subst, ◌∙◌}
use Rattle.std.specs.Prelude.{Contains, All}
use Rattle.std.proofs.lemmas.List.{take_all}
use Rattle.std.proofs.lemmas.List.Elements.{All-contains, All-replicate, All-set, All-weaker, All-contains_itself, Contains-get_or, Contains-append_cases}
use Rattle.std.proofs.lemmas.List.Elements.{Contains-append_left, Contains-append_right}
use Rattle.and_model.specs.declared.reference.Ref.{Ref}
use Rattle.and_circles.specs.Marked.{Listed, Adds, AreUnmarked}
use Rattle.and_circles.specs.Explored.{done_from}
use Rattle.and_circles.proofs.Marking.{none_done}

-- what is put into a slot
pub put_at : (rs : List Ref) (slot : ℕ) (at : Ref) → Adds at rs (set rs slot at)
put_at rs slot at r c =
    let Q : Ref → Type 0 = λ q. (q ≡ at) ⊎ Contains rs q in
    let before : All Q rs = All-weaker (Contains rs) Q (λ q d. inr d) rs (All-contains_itself rs) in
    All-contains Q (set rs slot at) r (All-set Q rs slot at (inl refl) before) c

-- what is put into slots that are made
pub slots_made : (rs new : List Ref) (ok : Bool) (n more : ℕ) (at : Ref) → length rs ≤ n
    → new ≡ cond ok (take n rs ++ replicate more at) rs → Adds at rs new
slots_made rs new true n more at longer is r c =
    let all : new ≡ rs ++ replicate more at = is ∙ ap (λ (l : List Ref). l ++ replicate more at) (take_all n rs longer) in
    elim (Contains-append_cases rs (replicate more at) r (subst (λ (l : List Ref). Contains l r) all c)) [
      | inl before ↦ inr before
      | inr made ↦ inl (All-contains (λ q. q ≡ at) (replicate more at) r (All-replicate (λ q. q ≡ at) more at refl) made)
    ]
slots_made rs new false n more at longer is r c = inr (subst (λ (l : List Ref). Contains l r) is c)

module _ (E : Ref → Type 0) where
  -- what all had, all have, if what came has it
  pub added : (at : Ref) (old new : List Ref) → E at → Adds at old new → All E old → All E new
  added at old new has adds all = all_of new (λ r c. elim (adds r c) [ inl same ↦ subst E (sym same) has | inr before ↦ All-contains E old r all before ])
    where
      all_of : (rs : List Ref) → ((r : Ref) → Contains rs r → E r) → All E rs
      all_of rs each k d lt = each _ (Contains-get_or rs k d lt)

  -- a part of a list
  pub first_part : (rs qs : List Ref) → All E (rs ++ qs) → All E rs
  first_part rs qs all = λ k d lt. All-contains E (rs ++ qs) _ all (Contains-append_left rs qs _ (Contains-get_or rs k d lt))

  pub second_part : (rs qs : List Ref) → All E (rs ++ qs) → All E qs
  second_part rs qs all = λ k d lt. All-contains E (rs ++ qs) _ all (Contains-append_right rs qs _ (Contains-get_or qs k d lt))

-- without marks and structures nothing is known to end
pub nothing_known : (ms : Listed) (rs : List Ref) → AreUnmarked ms → rs ≡ [] → done_from 0 ms ++ rs ≡ []
nothing_known ms rs none empty = ap (λ (places : List Ref). places ++ rs) (none_done 0 ms none) ∙ empty
