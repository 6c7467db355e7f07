-- Lifting keeps the unfoldings and the listing.
use Rattle.std.proofs.Common.{ℕ, suc, ◌≡◌, ◌+◌, ◌≤◌, ◌<◌, ◌↔◌, true≢false, List, [], ◌∷◌, ◌++◌, Option, Some, None, ap, sym, ◌∙◌, subst, inl, inr, arith}
use Rattle.and_model.specs.Programs.{clause_at, clause_weight, Of}
use Rattle.and_model.specs.Trees.{QueryTree, query_agenda, blank, Open, IsLeftmost, call_of, reduce, weight, code, then, extend, extend_all, unfold_code}
use Rattle.and_model.specs.Lines.{Bytes}
use Rattle.and_model.specs.Listing.{Entry, Lists, ListsFrom, Listing, answered, nothing, calls, no_more, other, heavy, light, of_query, too_heavy, Exhausted}
use Rattle.and_laws.proofs.Order.{open_or_whole, reduce_weight, blank_weighs, same_proof, whole_has_none}
use Rattle.and_laws.proofs.Splitting.{leftmost}
use Rattle.and_laws.proofs.Unfolding.{extend_leftmost}
use Rattle.and_model.specs.Output.{Finish, Output}
use Rattle.and_source.specs.Source.{SourceProgram, source_weight, IsNumbered}
use Rattle.and_source.specs.Unfolding.{Unfolding, taken, source_extend, source_extend_all, source_start, source_unfold}
use Rattle.and_source.specs.SourceListing.{SourceLists, SourceListsFrom, SourceListing, source_answered, source_nothing, source_calls, source_no_more}
use Rattle.and_source.specs.SourceListing.{source_other, source_heavy, source_light, source_query, source_too_heavy, SourceExhausted, SourceOutput}
use Rattle.and_source.specs.Lifted.{lift}
use Rattle.and_lifting.specs.Alike.{AreAlike, neither, both}
use Rattle.and_lifting.proofs.Numbered.{as_many}
use Rattle.and_lifting.proofs.Taking.{clause_weighs_same}
use Rattle.and_lifting.proofs.Stages.{Stage, start_stage, progress, whole_down, whole_up, extend_whole, extend_none, start_code, reduce_code}
use Rattle.and_lifting.proofs.Outcomes.{ends_down, ends_up, outcome_down, outcome_up}

module _ (P : SourceProgram) (n : IsNumbered P) where
  alike : (u : Unfolding) (t : QueryTree (lift P)) → Stage P u t → AreAlike P (Some u) (Some t)
  alike u t s = both u t s.weighs (whole_down P u t s, whole_up P u t s) (λ o. (ends_down P u t s o, ends_up P u t s o))

  all_alike : (cs : List ℕ) (u : Unfolding) (t : QueryTree (lift P)) → Stage P u t → AreAlike P (source_extend_all P u cs) (extend_all t cs)
  all_alike [] u t s = alike u t s
  all_alike (c ∷ cs) u t s = elim (open_or_whole t) [
    | inr w ↦ none (ap (λ a. taken P c a u.equations u.arithmetics u.weight) (whole_up P u t s w)) (extend_whole t c w)
    | inl any ↦
        let o : Open t = (leftmost t any).0 in
        let m : IsLeftmost t o = (leftmost t any).1 in
        elim (progress P n u t s o m c) [
          | inl e ↦ none e.0 (extend_none t o c m e.1)
          | inr x ↦ some x.0 (reduce t o c x.2) x.1 (extend_leftmost t o c x.2 m) (all_alike cs x.0 (reduce t o c x.2) x.3)
        ]
  ]
    where
      none : source_extend P u c ≡ None → extend t c ≡ None
          → AreAlike P (then (source_extend P u c) (λ v. source_extend_all P v cs)) (then (extend t c) (λ r. extend_all r cs))
      none e f =
          subst (λ x. AreAlike P (then x (λ v. source_extend_all P v cs)) (then (extend t c) (λ r. extend_all r cs))) (sym e)
          (subst (λ y. AreAlike P None (then y (λ r. extend_all r cs))) (sym f) neither)

      some : (v : Unfolding) (r : QueryTree (lift P)) → source_extend P u c ≡ Some v → extend t c ≡ Some r
          → AreAlike P (source_extend_all P v cs) (extend_all r cs)
          → AreAlike P (then (source_extend P u c) (λ v. source_extend_all P v cs)) (then (extend t c) (λ r. extend_all r cs))
      some v r e f a =
          subst (λ x. AreAlike P (then x (λ v. source_extend_all P v cs)) (then (extend t c) (λ r. extend_all r cs))) (sym e)
          (subst (λ y. AreAlike P (source_extend_all P v cs) (then y (λ r. extend_all r cs))) (sym f) a)

  -- Both unfoldings of a code are alike.
  pub unfoldings_alike : (cs : List ℕ) → AreAlike P (source_unfold P cs) (unfold_code (lift P) cs)
  unfoldings_alike cs = all_alike cs (source_start P) (blank (query_agenda (lift P))) (start_stage P n)

  -- what goes on with a number that takes the call
  record Taken (u : Unfolding) (t : QueryTree (lift P)) (o : Open t) (c : ℕ) (v : Unfolding) (h : Of (lift P) (call_of t o) c) : Type 0 where
    pub stage : Stage P v (reduce t o c h)
    pub weighs : v.weight ≡ weight t + clause_weight (clause_at (lift P) c)

  taken_of : (u : Unfolding) (t : QueryTree (lift P)) (o : Open t) (c : ℕ) (v : Unfolding) (h : Of (lift P) (call_of t o) c) → Stage P v (reduce t o c h)
      → Taken u t o c v h
  taken_of u t o c v h s = record { stage = s; weighs = s.weighs ∙ omega (arith, reduce_weight t o c h) }

  down_some : (u : Unfolding) (t : QueryTree (lift P)) → Stage P u t → (o : Open t) → IsLeftmost t o → (c : ℕ) (v : Unfolding) → source_extend P u c ≡ Some v
      → (h : Of (lift P) (call_of t o) c) × Taken u t o c v h
  down_some u t s o m c v e = elim (progress P n u t s o m c) [
    | inl x ↦ (let wrong : None ≡ Some v = sym x.0 ∙ e in absurd (cc))
    | inr x ↦
        let same : Some x.0 ≡ Some v = sym x.1 ∙ e in
        let one : x.0 ≡ v = ap (λ (y : Option Unfolding). elim y as (λ y. Unfolding) [ None ↦ v | Some z ↦ z ]) same in
        (x.2, taken_of u t o c v x.2 (subst (λ z. Stage P z (reduce t o c x.2)) one x.3))
  ]

  up_some : (u : Unfolding) (t : QueryTree (lift P)) → Stage P u t → (o : Open t) → IsLeftmost t o → (c : ℕ) (h : Of (lift P) (call_of t o) c)
      → (v : Unfolding) × (source_extend P u c ≡ Some v) × Taken u t o c v h
  up_some u t s o m c h = elim (progress P n u t s o m c) [
    | inl x ↦ absurd (true≢false (sym h ∙ x.1))
    | inr x ↦ (x.0, x.1, taken_of u t o c x.0 h (subst (λ z. Stage P x.0 (reduce t o c z)) (same_proof x.2 h) x.3))
  ]

  module _ (limit : ℕ) where
    -- What is listed of the unfolding is listed of the tree,
    mutual
      lists_down : (cs : List ℕ) (u : Unfolding) (ls : List Entry) → SourceLists P limit cs u ls → (t : QueryTree (lift P)) → Stage P u t → cs ≡ code t
          → Lists (lift P) limit t ls
      lists_down cs u ls (source_answered cs' u' o e) t s same =
          subst (λ l. Lists (lift P) limit t (record { code = l; outcome = o } ∷ [])) (sym same) (answered t o (ends_down P u' t s o e))
      lists_down cs u ls (source_nothing cs' u' w none) t s same = nothing t (whole_down P u' t s w) (λ out. none (outcome_up P u' t s out))
      lists_down cs u ls (source_calls cs' u' ls' not_whole f) t s same = elim (open_or_whole t) [
        | inr w ↦ absurd (not_whole (whole_up P u' t s w))
        | inl any ↦ calls t (leftmost t any).0 ls' (leftmost t any).1 (lists_from_down cs' u' 1 ls' f t s same (leftmost t any).0 (leftmost t any).1)
      ]

      lists_from_down : (cs : List ℕ) (u : Unfolding) (c : ℕ) (ls : List Entry) → SourceListsFrom P limit cs u c ls → (t : QueryTree (lift P)) → Stage P u t
          → cs ≡ code t
          → (o : Open t) → IsLeftmost t o → ListsFrom (lift P) limit t o c ls
      lists_from_down cs u c ls (source_no_more cs' u' c' e) t s same o m = no_more t o c' (omega (arith, e, (as_many P).1))
      lists_from_down cs u c ls (source_other cs' u' c' ls' low e r) t s same o m =
          other t o c' ls' (omega (arith, low, (as_many P).1))
          (elim (progress P n u' t s o m c') [ inl x ↦ x.1 | inr x ↦ (let wrong : None ≡ Some x.0 = sym e ∙ x.1 in absurd (cc)) ])
          (lists_from_down cs' u' (suc c') ls' r t s same o m)
      lists_from_down cs u c ls (source_heavy cs' u' v c' ls' e big r) t s same o m =
          let x = down_some u' t s o m c' v e in
          heavy t o c' ls' x.0 (subst (λ w. limit < w) x.1.weighs big) (lists_from_down cs' u' (suc c') ls' r t s same o m)
      lists_from_down cs u c ls (source_light cs' u' v c' ks ls' e small l r) t s same o m =
          let x = down_some u' t s o m c' v e in
          light t o c' ks ls' x.0 (subst (λ w. w ≤ limit) x.1.weighs small)
          (lists_down (cs' ++ c' ∷ []) v ks l (reduce t o c' x.0) x.1.stage (ap (λ l. l ++ c' ∷ []) same ∙ sym (reduce_code t o c' x.0 m s.open_behind)))
          (lists_from_down cs' u' (suc c') ls' r t s same o m)

    -- and the other way round.
    mutual
      lists_up : (t : QueryTree (lift P)) (ls : List Entry) → Lists (lift P) limit t ls → (cs : List ℕ) (u : Unfolding) → Stage P u t → cs ≡ code t
          → SourceLists P limit cs u ls
      lists_up t ls (answered t' o e) cs u s same =
          subst (λ l. SourceLists P limit cs u (record { code = l; outcome = o } ∷ [])) same (source_answered cs u o (ends_up P u t' s o e))
      lists_up t ls (nothing t' w none) cs u s same = source_nothing cs u (whole_up P u t' s w) (λ out. none (outcome_down P u t' s out))
      lists_up t ls (calls t' o ls' m f) cs u s same =
          source_calls cs u ls' (λ w. whole_has_none t' (whole_down P u t' s w) o) (lists_from_up t' o 1 ls' f m cs u s same)

      lists_from_up : (t : QueryTree (lift P)) (o : Open t) (c : ℕ) (ls : List Entry) → ListsFrom (lift P) limit t o c ls → IsLeftmost t o
          → (cs : List ℕ) (u : Unfolding) → Stage P u t → cs ≡ code t
          → SourceListsFrom P limit cs u c ls
      lists_from_up t o c ls (no_more t' o' c' e) m cs u s same = source_no_more cs u c' (omega (arith, e, (as_many P).1))
      lists_from_up t o c ls (other t' o' c' ls' low e r) m cs u s same =
          source_other cs u c' ls' (omega (arith, low, (as_many P).1))
          (elim (progress P n u t' s o' m c') [ inl x ↦ x.0 | inr x ↦ absurd (true≢false (sym x.2 ∙ e)) ])
          (lists_from_up t' o' (suc c') ls' r m cs u s same)
      lists_from_up t o c ls (heavy t' o' c' ls' h big r) m cs u s same =
          let x = up_some u t' s o' m c' h in
          source_heavy cs u x.0 c' ls' x.1 (subst (λ w. limit < w) (sym x.2.weighs) big) (lists_from_up t' o' (suc c') ls' r m cs u s same)
      lists_from_up t o c ls (light t' o' c' ks ls' h small l r) m cs u s same =
          let x = up_some u t' s o' m c' h in
          source_light cs u x.0 c' ks ls' x.1 (subst (λ w. w ≤ limit) (sym x.2.weighs) small)
          (lists_up (reduce t' o' c' h) ks l (cs ++ c' ∷ []) x.0 x.2.stage (ap (λ l. l ++ c' ∷ []) same ∙ sym (reduce_code t' o' c' h m s.open_behind)))
          (lists_from_up t' o' (suc c') ls' r m cs u s same)

    query_weighs : source_weight P.query ≡ weight (blank {P = lift P} (query_agenda (lift P)))
    query_weighs = omega (arith, clause_weighs_same P.query, blank_weighs (lift P) (query_agenda (lift P)))

    pub listing_down : (ls : List Entry) → SourceListing P limit ls → Listing (lift P) limit ls
    listing_down ls (source_query ls' small l) =
        of_query ls' (subst (λ w. w ≤ limit) query_weighs small)
        (lists_down [] (source_start P) ls' l (blank (query_agenda (lift P))) (start_stage P n) (sym (start_code P)))
    listing_down ls (source_too_heavy big) = too_heavy (subst (λ w. limit < w) query_weighs big)

    pub listing_up : (ls : List Entry) → Listing (lift P) limit ls → SourceListing P limit ls
    listing_up ls (of_query ls' small l) =
        source_query ls' (subst (λ w. w ≤ limit) (sym query_weighs) small)
        (lists_up (blank (query_agenda (lift P))) ls' l [] (source_start P) (start_stage P n) (sym (start_code P)))
    listing_up ls (too_heavy big) = source_too_heavy (subst (λ w. limit < w) (sym query_weighs) big)

pub lifting_keeps : (P : SourceProgram) (limit : ℕ) (ls : List Entry) → IsNumbered P → SourceListing P limit ls ↔ Listing (lift P) limit ls
lifting_keeps P limit ls n = (listing_down P n limit ls, listing_up P n limit ls)

-- So what every larger limit lists is the same.
pub exhausted_alike : (P : SourceProgram) (limit : ℕ) → IsNumbered P → SourceExhausted P limit ↔ Exhausted (lift P) limit
exhausted_alike P limit n = (
  λ x larger h ls. (
    λ l. listing_down P n limit ls ((x larger h ls).0 (listing_up P n larger ls l)),
    λ l. listing_down P n larger ls ((x larger h ls).1 (listing_up P n limit ls l)),
  ),
  λ x larger h ls. (
    λ l. listing_up P n limit ls ((x larger h ls).0 (listing_down P n larger ls l)),
    λ l. listing_up P n larger ls ((x larger h ls).1 (listing_down P n limit ls l)),
  ),
)

-- And what a run writes is the same.
pub outputs_alike : (P : SourceProgram) (limit : ℕ) (finish : Finish) (bytes : Bytes) → IsNumbered P
    → SourceOutput P limit finish bytes ↔ Output (lift P) limit finish bytes
outputs_alike P limit finish bytes n =
    (λ x. (x.0, listing_down P n limit x.0 x.1, x.2), λ x. (x.0, listing_up P n limit x.0 x.1, x.2))
