-- Reductions that are linked one after another, and what is found along the links.
use Rattle.std.proofs.Common.{ℕ, zero, suc, ◌+◌, ◌-◌, ◌≡◌, ◌≢◌, ◌<◌, List, [], ◌∷◌, ◌++◌, length, get_or, set, take, replicate, Some, refl, sym, ap, ◌∙◌}
use Rattle.std.proofs.Common.{subst, inl, inr, arith}
use Rattle.std.specs.Prelude.{All, slice_get}
use Rattle.std.proofs.lemmas.Bool.{cases_lt, cases_eq}
use Rattle.std.proofs.lemmas.Grind.{get_or-set_at}
use Rattle.std.proofs.lemmas.List.{get_or-set_other, get_or_append_left, get_or_at, length-append, take_all}
use Rattle.std.proofs.lemmas.List.Elements.{All-contains}
use Rattle.std.proofs.lemmas.Option.{same_Some, slice_get_within, get_or_from_slice_get, slice_get-get_or}
use Rattle.and_model.specs.declared.goal.Reduction.{Reduction}
use Rattle.and_code.specs.Places.{IsLast, AreLinked, IsFound, IsMissing, IsLeft, IsPlace, IsPassed}

-- ---- One more

module _ (rs : List Reduction) (r : Reduction) (k : ℕ) (here_is : slice_get rs k ≡ Some r) where
  same_here : (j : ℕ) (x : Reduction) → j ≡ k → slice_get rs j ≡ Some x → x ≡ r
  same_here j x at e = same_Some x r (sym e ∙ ap (slice_get rs) at ∙ here_is)

  last_now : (node : ℕ) → node ≡ r.parent → IsLast rs node (k + 1) (k + 1)
  last_now node is = record {
    low = omega arith;
    takes = λ j x at e. let same : j ≡ k = omega arith in ap (λ (y : Reduction). y.parent) (same_here j x same e) ∙ sym is;
    none = λ j x after low e. absurd (omega arith);
  }

  last_still : (node last : ℕ) → node ≢ r.parent → IsLast rs node k last → IsLast rs node (k + 1) last
  last_still node last apart is = record {
    low = let l = is.low in omega arith;
    takes = is.takes;
    none = λ j x after low e. elim (cases_lt j k) [
      | inl before ↦ is.none j x after before e
      | inr past ↦ λ parent. apart (sym parent ∙ ap (λ (y : Reduction). y.parent) (same_here j x (omega arith) e))
    ];
  }

  -- The reduction at this place is linked too.
  pub linked_more : (last before new_last new_before : List ℕ) → AreLinked rs last before k → r.parent < length last
      → new_last ≡ set last r.parent (k + 1) → new_before ≡ before ++ get_or last r.parent 0 ∷ [] → AreLinked rs new_last new_before (k + 1)
  linked_more last before new_last new_before are room last_is before_is = record {
    many = let m = are.many in let l = length-append before (get_or last r.parent 0 ∷ []) in
        let e = ap (λ (ls : List ℕ). length ls) before_is in
        omega arith;
    at_node = λ node. elim (cases_eq node r.parent) [
      | inl same ↦ subst (IsLast rs node (k + 1))
          (sym (ap (λ (ls : List ℕ). get_or ls node 0) last_is ∙ get_or-set_at last r.parent node (k + 1) 0 same room)) (last_now node same)
      | inr apart ↦ subst (IsLast rs node (k + 1))
          (sym (ap (λ (ls : List ℕ). get_or ls node 0) last_is ∙ get_or-set_other last r.parent node (k + 1) 0 apart))
          (last_still node (get_or last node 0) apart (are.at_node node))
    ];
    at_place = λ j x low e. elim (cases_lt j k) [
      | inl early ↦
          let inside : j < length before = let m = are.many in omega arith in
          subst (IsLast rs x.parent j)
          (sym (ap (λ (ls : List ℕ). get_or ls j 0) before_is ∙ get_or_append_left before (get_or last r.parent 0 ∷ []) 0 j inside))
          (are.at_place j x early e)
      | inr late ↦
          let at : k ≡ j = omega arith in
          let same : r.parent ≡ x.parent = ap (λ (y : Reduction). y.parent) (sym (same_here j x (sym at) e)) in
          let read : get_or new_before j 0 ≡ get_or last r.parent 0 =
          ap (λ (ls : List ℕ). get_or ls j 0) before_is ∙ get_or_at before (get_or last r.parent 0) [] 0 j (are.many ∙ at) in
          subst (IsLast rs x.parent j) (sym read)
          (subst (λ (i : ℕ). IsLast rs x.parent i (get_or last r.parent 0)) at
          (subst (λ (n : ℕ). IsLast rs n k (get_or last r.parent 0)) same (are.at_node r.parent)))
    ];
  }

abbrev nothings : ℕ → List ℕ
nothings n = replicate n 0

nothing_at : (n node : ℕ) → get_or (nothings n) node 0 ≡ 0
nothing_at zero node = refl
nothing_at (suc n) zero = refl
nothing_at (suc n) (suc node) = nothing_at n node

many_nothings : (n : ℕ) → length (nothings n) ≡ n
many_nothings zero = refl
many_nothings (suc n) = let m = many_nothings n in omega arith

-- what an empty list is, filled up
filled : (n count : ℕ) (old new : List ℕ) → old ≡ [] → count ≡ 0 → new ≡ take n old ++ replicate (n - count) 0 → new ≡ nothings n
filled n count old new empty none_is is =
    let long : length old ≡ 0 = ap (λ (ls : List ℕ). length ls) empty in
    let all : n - count ≡ n = omega arith in
    is ∙ ap (λ (ls : List ℕ). ls ++ nothings (n - count)) (take_all n old (omega arith) ∙ empty) ∙ ap nothings all

-- None is linked yet.
pub none_linked : (rs : List Reduction) (n count : ℕ) (old last before : List ℕ) → old ≡ [] → count ≡ 0
    → last ≡ take n old ++ replicate (n - count) 0 → before ≡ [] → AreLinked rs last before 0
none_linked rs n count old last before empty none_is is nothing = record {
  many = ap (λ (ls : List ℕ). length ls) nothing;
  at_node = λ node.
      let zero_is = ap (λ (ls : List ℕ). get_or ls node 0) (filled n count old last empty none_is is) ∙ nothing_at n node in
      subst (IsLast rs node 0) (sym zero_is) (record {
        low = omega arith;
        takes = λ k r at e. absurd (omega arith);
        none = λ k r after low e. absurd (omega arith);
      });
  at_place = λ k r low e. absurd (omega arith);
}

pub room_made : (rs : List Reduction) (n count : ℕ) (old last : List ℕ) → old ≡ [] → count ≡ 0
    → last ≡ take n old ++ replicate (n - count) 0 → All (λ (r : Reduction). r.parent < n) rs
    → All (λ (r : Reduction). r.parent < length last) rs
room_made rs n count old last empty none_is is all =
    let long : length last ≡ n = ap length (filled n count old last empty none_is is) ∙ many_nothings n in
    subst (λ (m : ℕ). All (λ (r : Reduction). r.parent < m) rs) (sym long) all

pub room_for : (rs : List Reduction) (n k : ℕ) (r : Reduction) → slice_get rs k ≡ Some r → All (λ (x : Reduction). x.parent < n) rs → r.parent < n
room_for rs n k r e all =
    All-contains (λ (x : Reduction). x.parent < n) rs r all (k, slice_get_within rs k r e, get_or_from_slice_get rs k r r e)

-- ---- Along the links

module _ (rs : List Reduction) (node item : ℕ) where
  -- Behind the last at the node none takes the call,
  pub left_first : (last : ℕ) → IsLast rs node (length rs) last → IsLeft rs node item last
  left_first last is = record {
    low = is.low;
    takes = is.takes;
    none = λ k r after e parent same. is.none k r after (slice_get_within rs k r e) e parent;
  }

  -- nor behind the one before, where that one doesn't.
  pub left_next : (k before : ℕ) (r : Reduction) → slice_get rs k ≡ Some r → r.item ≢ item → IsLeft rs node item (k + 1)
      → IsLast rs r.parent k before → IsLeft rs node item before
  left_next k before r here_is other left is =
      let at_node : r.parent ≡ node = left.takes k r refl here_is in record {
        low = let a = is.low in let b = left.low in omega arith;
        takes = λ j x at e. is.takes j x at e ∙ at_node;
        none = λ j x after e parent. elim (cases_lt j k) [
          | inl early ↦ absurd (is.none j x after early e (parent ∙ sym at_node))
          | inr late ↦ elim (cases_eq j k) [
            | inl same ↦ λ takes. other (ap (λ (y : Reduction). y.item) (sym (same_here rs r k here_is j x same e)) ∙ takes)
            | inr apart ↦ left.none j x (omega arith) e parent
          ]
        ];
      }

  -- One that takes it was found,
  pub found_here : (k : ℕ) (r : Reduction) → slice_get rs k ≡ Some r → r.item ≡ item → IsLeft rs node item (k + 1) → IsFound rs node item r
  found_here k r here_is same left =
      ((k, slice_get_within rs k r here_is, get_or_from_slice_get rs k r r here_is), left.takes k r refl here_is, same)

  -- or there is none.
  pub found_none : IsLeft rs node item 0 → IsMissing rs node item
  found_none left r (k, low, is) parent same =
      left.none k r (omega arith) (slice_get-get_or rs k r low ∙ ap (λ (x : Reduction). Some x) is) parent same

-- ---- Place by place

-- The reduction that is read at such a place takes the call,
pub place_found : (rs : List Reduction) (node item place : ℕ) (r : Reduction) → IsPlace rs node item place → slice_get rs place ≡ Some r
    → IsFound rs node item r
place_found rs node item place r (x, there, found) e = subst (IsFound rs node item) (same_Some x r (sym there ∙ e)) found

-- and there is one.
pub place_within : (rs : List Reduction) (node item place : ℕ) → IsPlace rs node item place → place < length rs
place_within rs node item place (x, there, found) = slice_get_within rs place x there

-- One more place is passed,
pub passed_more : (rs : List Reduction) (node item from k : ℕ) (r : Reduction) → slice_get rs k ≡ Some r → IsPassed rs node item from k
    → (r.parent ≡ node → r.item ≢ item) → IsPassed rs node item from (k + 1)
passed_more rs node item from k r here_is passed none = λ j x low high e. elim (cases_lt j k) [
  | inl before ↦ passed j x low before e
  | inr past ↦
      subst (λ (y : Reduction). y.parent ≡ node → y.item ≢ item) (sym (same_here rs r k here_is j x (omega arith) e)) none
]

-- or all are.
pub none_anywhere : (rs : List Reduction) (node item count : ℕ) → count ≡ length rs → IsPassed rs node item 0 count → IsMissing rs node item
none_anywhere rs node item count long passed = λ r there.
    passed there.0 r (omega arith) (let low = there.1 in omega arith)
    (slice_get-get_or rs there.0 r there.1 ∙ ap (λ (x : Reduction). Some x) there.2)
