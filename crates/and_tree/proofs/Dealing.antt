-- Seats of a tree's table are cut in two and put together, and the rule of the table is kept.
use Rattle.std.proofs.Common.{ℕ, ◌≡◌, ◌≢◌, List, [], ◌∷◌, ◌++◌, map}
use Rattle.std.proofs.Common.{set, refl, sym, ap, subst, ◌∙◌, append_assoc, append-nil, arith, Option, All}
use Rattle.std.specs.Prelude.{nat_eq}
use Rattle.std.specs.List.Sorted.{IsPermutation}
use Rattle.std.proofs.lemmas.Bool.Decides.{nat_tests, Decides-eqb}
use Rattle.std.proofs.lemmas.List.{set_comm}
use Rattle.std.proofs.lemmas.List.Elements.{All-set, All-push}
use Rattle.std.proofs.lemmas.List.Sorted.{length_permutation, All-permutation, Contains-permutation, IsPermutation-refl, IsPermutation-sym}
use Rattle.std.proofs.lemmas.List.Sorted.{IsPermutation-trans, IsPermutation-map, IsPermutation-middle, IsPermutation-to_front}
use Rattle.std.proofs.lemmas.List.Sorted.{IsPermutation-append_comm, IsPermutation-append_left}
use Rattle.std.proofs.lemmas.Map.Keys.{IsDistinct-IsPermutation}
use Rattle.std.proofs.lemmas.Map.Made.{AllPairs-from_IsDistinct, IsDistinct-from_AllPairs}
use mathlib.Core.Option.{some}
use lib.ListN.{get_elem?}
use Rattle.atomic_table.specs.Table.{State, Splits, Joins}
use Rattle.atomic_table.proofs.Lists.{set_else, set_again}
use Rattle.std.proofs.lemmas.Grind.{flat_map-append}
use Rattle.and_model.specs.Prefixes.{IsPrefix}
use Rattle.and_model.specs.Store.{AreDistinct}
use Rattle.and_histories.specs.PlainTree.{Key}
use Rattle.and_tree.specs.Sight.{About, Member, Sight, mine_of, without_first, only_first, dealing_left, dealing_right, taken_in, spent, note_of}
use Rattle.and_tree.specs.Sight.{unchanged, hears}
use Rattle.and_tree.specs.AtWork.{Held, AtWork, Works, team_at, all_members}
use Rattle.and_tree.specs.Kept.{Kept, IsOpening}
use Rattle.and_tree.proofs.Keeping.{all_at, around, members_around, slot_on, works}

flips : (x y : ℕ) → nat_eq x y ≡ nat_eq y x
flips x y = grind (arith, nat_tests)

distinct_still : (ns ks : List ℕ) → IsPermutation ns ks → AreDistinct ns → AreDistinct ks
distinct_still ns ks p d = AllPairs-from_IsDistinct Decides-eqb ks (IsDistinct-IsPermutation nat_eq flips ns ks p (IsDistinct-from_AllPairs Decides-eqb ns d))

-- The order of the passes does not matter.
at_work_still : (a : About) (members after : List Member) (h : Held) → IsPermutation members after → AtWork a members h → AtWork a after h
at_work_still a members after h p was = record {
  carried = was.carried;
  few = was.few;
  by_teams = was.by_teams;
  each = All-permutation (Works a h) members after p was.each;
  distinct = distinct_still (map team_at members) (map team_at after) (IsPermutation-map team_at members after p) was.distinct;
  all_teams = length_permutation members after p ∙ was.all_teams;
  seen = (was.seen.0, Contains-permutation members after was.seen.0 p was.seen.1, was.seen.2);
}

-- ---- passes that change their place

to_front : {X : Type 0} (front xs back : List X) → IsPermutation (front ++ (xs ++ back)) (xs ++ (front ++ back))
to_front front xs back =
    subst (λ l. IsPermutation l (xs ++ (front ++ back))) (append_assoc front xs back)
    (subst (IsPermutation ((front ++ xs) ++ back)) (append_assoc xs front back)
    (IsPermutation-append_left back (front ++ xs) (xs ++ front) (IsPermutation-append_comm front xs)))

first_to_end : {X : Type 0} (front back : List X) (x : X) → IsPermutation (front ++ x ∷ back) ((front ++ back) ++ x ∷ [])
first_to_end front back x =
    IsPermutation-trans (front ++ x ∷ back) (x ∷ (front ++ back)) ((front ++ back) ++ x ∷ []) (IsPermutation-middle front x back)
    (IsPermutation-sym ((front ++ back) ++ x ∷ []) (x ∷ (front ++ back)) (IsPermutation-to_front (front ++ back) x))

members_set : (views : List Sight) (id : ℕ) (v w : Sight) → get_elem? views id ≡ some v → w.members ≡ v.members
    → all_members (set views id w) ≡ all_members views
members_set views id v w at same =
    let r = around views id v at in
    ap all_members (r.becomes w) ∙ members_around r.front r.back w ∙ ap (λ l. all_members r.front ++ (l ++ all_members r.back)) same
    ∙ sym (members_around r.front r.back v) ∙ ap all_members (sym r.was)

dealt_members : (views : List Sight) (id : ℕ) (v : Sight) → get_elem? views id ≡ some v
    → IsPermutation (all_members views) (all_members (set views id (dealing_left v) ++ dealing_right v ∷ []))
dealt_members views id v at = by_members v.members refl
  where
    by_members : (members : List Member) → v.members ≡ members
        → IsPermutation (all_members views) (all_members (set views id (dealing_left v) ++ dealing_right v ∷ []))
    by_members [] e =
        let same : all_members (set views id (dealing_left v) ++ dealing_right v ∷ []) ≡ all_members views =
        flat_map-append (λ (v : Sight). v.members) (set views id (dealing_left v)) (dealing_right v ∷ [])
        ∙ ap (λ l. all_members (set views id (dealing_left v)) ++ (only_first l ++ [])) e
        ∙ append-nil (all_members (set views id (dealing_left v)))
        ∙ members_set views id v (dealing_left v) at (ap without_first e ∙ sym e) in
        subst (IsPermutation (all_members views)) (sym same) (IsPermutation-refl (all_members views))
    by_members (m ∷ members) e =
        let r = around views id v at in
        let front = all_members r.front in
        let back = all_members r.back in
        let before : all_members views ≡ front ++ m ∷ (members ++ back) =
        ap all_members r.was ∙ members_around r.front r.back v ∙ ap (λ l. front ++ (l ++ back)) e in
        let after : all_members (set views id (dealing_left v) ++ dealing_right v ∷ []) ≡ (front ++ (members ++ back)) ++ m ∷ [] =
        flat_map-append (λ (v : Sight). v.members) (set views id (dealing_left v)) (dealing_right v ∷ [])
        ∙ ap (λ l. all_members l ++ (only_first v.members ++ [])) (r.becomes (dealing_left v))
        ∙ ap (λ l. l ++ (only_first v.members ++ [])) (members_around r.front r.back (dealing_left v))
        ∙ ap (λ l. (front ++ (without_first l ++ back)) ++ (only_first l ++ [])) e in
        subst (λ l. IsPermutation l (all_members (set views id (dealing_left v) ++ dealing_right v ∷ []))) (sym before)
        (subst (IsPermutation (front ++ m ∷ (members ++ back))) (sym after) (first_to_end front (members ++ back) m))

gathered_members : (views : List Sight) (id other : ℕ) (v w : Sight) → id ≢ other → get_elem? views id ≡ some v → get_elem? views other ≡ some w
    → IsPermutation (all_members views) (all_members (set (set views id (taken_in v w)) other spent))
gathered_members views id other v w apart at at_other =
    let middle : List Sight = set views other spent in
    let after : List Sight = set middle id (taken_in v w) in
    let r = around views other w at_other in
    let there = set_else views other id spent apart ∙ at in
    let q = around middle id v there in
    let one : all_members views ≡ all_members r.front ++ (w.members ++ all_members r.back) = ap all_members r.was ∙ members_around r.front r.back w in
    let two : all_members middle ≡ all_members r.front ++ all_members r.back = ap all_members (r.becomes spent) ∙ members_around r.front r.back spent in
    let three : all_members middle ≡ (all_members q.front ++ v.members) ++ all_members q.back =
    ap all_members q.was ∙ members_around q.front q.back v ∙ sym (append_assoc (all_members q.front) v.members (all_members q.back)) in
    let four : all_members after ≡ (all_members q.front ++ v.members) ++ (w.members ++ all_members q.back) =
    ap all_members (q.becomes (taken_in v w)) ∙ members_around q.front q.back (taken_in v w)
    ∙ ap (λ l. all_members q.front ++ l) (append_assoc v.members w.members (all_members q.back))
    ∙ sym (append_assoc (all_members q.front) v.members (w.members ++ all_members q.back)) in
    let first : IsPermutation (all_members views) (w.members ++ all_members middle) =
    subst (λ l. IsPermutation l (w.members ++ all_members middle)) (sym one)
    (subst (λ l. IsPermutation (all_members r.front ++ (w.members ++ all_members r.back)) (w.members ++ l)) (sym two)
    (to_front (all_members r.front) w.members (all_members r.back))) in
    let second : IsPermutation (all_members after) (w.members ++ all_members middle) =
    subst (λ l. IsPermutation l (w.members ++ all_members middle)) (sym four)
    (subst (λ l. IsPermutation ((all_members q.front ++ v.members) ++ (w.members ++ all_members q.back)) (w.members ++ l)) (sym three)
    (to_front (all_members q.front ++ v.members) w.members (all_members q.back))) in
    subst (λ l. IsPermutation (all_members views) (all_members l)) (set_comm views other id spent (taken_in v w) (λ e. apart (sym e)))
    (IsPermutation-trans (all_members views) (w.members ++ all_members middle) (all_members after) first
    (IsPermutation-sym (all_members after) (w.members ++ all_members middle) second))

module _ {B : Type 0} (key_of : B → Key) (Stands : ℕ → B → Type 0) (a : About) where
  -- The views change, and have the same passes in some order.
  seated : (s : State (Option B) Sight) (views : List Sight) → (kept : Kept key_of Stands a s)
      → IsPermutation (all_members s.views) (all_members views)
      → All (λ (v : Sight). v.members ≢ [] → v.about ≡ a) views → All (λ (v : Sight). IsPrefix v.told kept.held.history) views
      → Kept key_of Stands a (record { words = s.words; homes = s.homes; views = views })
  seated s views kept p about told = record {
    held = kept.held;
    words = kept.words;
    slots = kept.slots;
    at_work = at_work_still a (all_members s.views) (all_members views) kept.held p kept.at_work;
    slot = λ cell c is. slot_on key_of Stands a.limit (all_members s.views) (all_members views) s
        (record { words = s.words; homes = s.homes; views = views }) cell c.content refl
        (λ (o : IsOpening (all_members s.views) cell). (o.0, o.1, Contains-permutation (all_members s.views) (all_members views) o.0 p o.2, o.3))
        (kept.slot cell c is);
    about = about;
    told = told;
  }

  pub deals : (id : ℕ) (v : Sight) → Splits (Kept key_of Stands a) id v (dealing_left v) (dealing_right v)
  deals id v s kept at =
      let about = all_at (λ (v : Sight). v.members ≢ [] → v.about ≡ a) s.views id v kept.about at in
      let told = all_at (λ (v : Sight). IsPrefix v.told kept.held.history) s.views id v kept.told at in
      seated s (set s.views id (dealing_left v) ++ dealing_right v ∷ []) kept (dealt_members s.views id v at)
      (All-push (λ (v : Sight). v.members ≢ [] → v.about ≡ a) (set s.views id (dealing_left v)) (dealing_right v)
      (All-set (λ (v : Sight). v.members ≢ [] → v.about ≡ a) s.views id (dealing_left v)
      (λ some_member. about (λ none. some_member (ap without_first none))) kept.about)
      (λ some_member. about (λ none. some_member (ap only_first none))))
      (All-push (λ (v : Sight). IsPrefix v.told kept.held.history) (set s.views id (dealing_left v)) (dealing_right v)
      (All-set (λ (v : Sight). IsPrefix v.told kept.held.history) s.views id (dealing_left v) told kept.told) told)

  pub gathers : (id other : ℕ) (v w : Sight) → v.members ≡ mine_of v ∷ [] → Joins (Kept key_of Stands a) id v other w (taken_in v w) spent
  gathers id other v w alone s kept at apart at_other =
      let was : get_elem? s.views other ≡ some w = sym (set_else s.views id other (taken_in v w) apart) ∙ at_other in
      let about = all_at (λ (v : Sight). v.members ≢ [] → v.about ≡ a) s.views id v kept.about at (λ none. let e = sym alone ∙ none in absurd (cc)) in
      let told = all_at (λ (v : Sight). IsPrefix v.told kept.held.history) s.views id v kept.told at in
      seated s (set (set s.views id (taken_in v w)) other spent) kept (gathered_members s.views id other v w (λ e. apart (sym e)) at was)
      (All-set (λ (v : Sight). v.members ≢ [] → v.about ≡ a) (set s.views id (taken_in v w)) other spent (λ some_member. absurd (some_member refl))
      (All-set (λ (v : Sight). v.members ≢ [] → v.about ≡ a) s.views id (taken_in v w) (λ some_member. about) kept.about))
      (All-set (λ (v : Sight). IsPrefix v.told kept.held.history) (set s.views id (taken_in v w)) other spent (kept.held.history, refl)
      (All-set (λ (v : Sight). IsPrefix v.told kept.held.history) s.views id (taken_in v w) told kept.told))

  -- A note says what its pass has seen.
  pub notes : (id : ℕ) (v : Sight) → v.members ≡ mine_of v ∷ [] → Splits (Kept key_of Stands a) id v (unchanged v) (note_of v)
  notes id v alone s kept at =
      let same : set s.views id v ≡ s.views = set_again s.views id v at in
      let members : all_members (set s.views id v ++ note_of v ∷ []) ≡ all_members s.views =
      ap (λ l. all_members (l ++ note_of v ∷ [])) same ∙ flat_map-append (λ (v : Sight). v.members) s.views (note_of v ∷ [])
      ∙ append-nil (all_members s.views) in
      let seen = (works key_of Stands a s id v kept at alone).seen in
      seated s (set s.views id v ++ note_of v ∷ []) kept (subst (IsPermutation (all_members s.views)) (sym members) (IsPermutation-refl (all_members s.views)))
      (All-push (λ (v : Sight). v.members ≢ [] → v.about ≡ a) (set s.views id v) (note_of v)
      (subst (All (λ (v : Sight). v.members ≢ [] → v.about ≡ a)) (sym same) kept.about) (λ some_member. absurd (some_member refl)))
      (All-push (λ (v : Sight). IsPrefix v.told kept.held.history) (set s.views id v) (note_of v)
      (subst (All (λ (v : Sight). IsPrefix v.told kept.held.history)) (sym same) kept.told) seen)

  pub tells : (id other : ℕ) (v w : Sight) → v.members ≡ mine_of v ∷ [] → w.members ≡ [] → Joins (Kept key_of Stands a) id v other w (hears v w) spent
  tells id other v w alone none s kept at apart at_other =
      let was : get_elem? s.views other ≡ some w = sym (set_else s.views id other (hears v w) apart) ∙ at_other in
      let about = all_at (λ (v : Sight). v.members ≢ [] → v.about ≡ a) s.views id v kept.about at in
      let told = all_at (λ (v : Sight). IsPrefix v.told kept.held.history) s.views other w kept.told was in
      let members : all_members (set (set s.views id (hears v w)) other spent) ≡ all_members s.views =
      members_set (set s.views id (hears v w)) other w spent at_other (sym none) ∙ members_set s.views id v (hears v w) at refl in
      seated s (set (set s.views id (hears v w)) other spent) kept
      (subst (IsPermutation (all_members s.views)) (sym members) (IsPermutation-refl (all_members s.views)))
      (All-set (λ (v : Sight). v.members ≢ [] → v.about ≡ a) (set s.views id (hears v w)) other spent (λ some_member. absurd (some_member refl))
      (All-set (λ (v : Sight). v.members ≢ [] → v.about ≡ a) s.views id (hears v w) about kept.about))
      (All-set (λ (v : Sight). IsPrefix v.told kept.held.history) (set s.views id (hears v w)) other spent (kept.held.history, refl)
      (All-set (λ (v : Sight). IsPrefix v.told kept.held.history) s.views id (hears v w) told kept.told))
