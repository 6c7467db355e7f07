-- The seats of all passes are put together, and the tree is closed.
use Rattle.std.proofs.Common.{ℕ, zero, suc, ◌≡◌, ◌≤◌, ◌<◌, Bool, true, false, cond, List, [], ◌∷◌, ◌++◌, map, length, refl, sym, ap, subst}
use Rattle.std.proofs.Common.{◌∙◌, arith, append_assoc, append-nil, length-append, Option, All, Contains}
use Rattle.std.specs.Prelude.{leb}
use Rattle.std.proofs.lemmas.Bool.Decides.{nat_tests}
use Rattle.std.proofs.lemmas.List.{length-map}
use Rattle.std.proofs.lemmas.List.Elements.{All-head, All-tail, All-cons, All-contains, All-map, All-weaker}
use Rattle.atomic_table.specs.Seated.{TableId}
use Rattle.atomic_table.specs.Table.{State, Final, Seen}
use Rattle.and_model.specs.Prefixes.{IsPrefix}
use Rattle.and_model.specs.Store.{AreDistinct}
use Rattle.and_histories.specs.PlainTree.{Key}
use Rattle.and_histories.specs.Histories.{HistoryEntry, calls, team_of}
use Rattle.and_tree.specs.Plain.{Tally}
use Rattle.and_tree.specs.Sight.{About, Member, Sight, mine_of, taken_in, longer_of}
use Rattle.and_tree.specs.AtWork.{Held, AtWork, Works, team_at, all_members}
use Rattle.and_tree.specs.Kept.{Kept}
use Rattle.and_tree.specs.Passes.{TreeId, PassSeen, IsPass, tally_of}
use Rattle.and_tree.specs.Ended.{IsGathered, Closes, tally_of_all, history_of, of_member, of_pass}
use Rattle.and_tree.proofs.Keeping.{around, members_around}
use Rattle.and_tree.proofs.Going.{contains_middle}
use Rattle.and_tree.proofs.Tallies.{tallies_agree, all_there}
use Rattle.and_tree.proofs.Telling.{pass_of}

map_append : {X Y : Type 0} (f : X → Y) (xs ys : List X) → map f (xs ++ ys) ≡ map f xs ++ map f ys
map_append f [] ys = refl
map_append f (x ∷ xs) ys = ap (λ l. f x ∷ l) (map_append f xs ys)

map_map : {X Y Z : Type 0} (f : Y → Z) (g : X → Y) (xs : List X) → map f (map g xs) ≡ map (λ x. f (g x)) xs
map_map f g [] = refl
map_map f g (x ∷ xs) = ap (λ l. f (g x) ∷ l) (map_map f g xs)

all_unmap : {X Y : Type 0} (f : X → Y) (Q : Y → Type 0) (xs : List X) → All Q (map f xs) → All (λ x. Q (f x)) xs
all_unmap f Q [] h = λ i d within. absurd (omega (arith, within))
all_unmap f Q (x ∷ xs) h = All-cons (λ x. Q (f x)) x xs (All-head Q (f x) (map f xs) h) (all_unmap f Q xs (All-tail Q (f x) (map f xs) h))

-- ---- the seat that takes in the others

pub gathers_one : (a : About) (v : Sight) (p : PassSeen) → v.about ≡ a → v.members ≡ mine_of v ∷ [] → (mine_of v).team ≡ p.team
    → (mine_of v).seen ≡ p.seen → IsGathered a v (p ∷ [])
gathers_one a v p about alone team seen = record { about = about; each = ap (map of_member) alone ∙ (λ i. (team i, seen i) ∷ []) }

pub gathers_on : (a : About) (v w : Sight) (p : PassSeen) (ps : List PassSeen) → IsGathered a v (p ∷ []) → IsGathered a w ps
    → IsGathered a (taken_in v w) (p ∷ ps)
gathers_on a v w p ps g h = record {
  about = g.about;
  each = map_append of_member v.members w.members ∙ ap (λ l. l ++ map of_member w.members) g.each ∙ ap (λ l. of_pass p ∷ l) h.each;
}

-- what a pass keeps counts the calls that it shows
pub keeps_count : (table : TableId) (v : Sight) (team : ℕ) (tally : Tally) (p : PassSeen) → IsPass v team tally → pass_of table v ≡ p
    → tally ≡ tally_of (calls p.seen p.team)
keeps_count table v team tally p is view =
    is.tally_is ∙ ap (λ t. tally_of (calls (mine_of v).seen t)) (sym is.team_is) ∙ ap (λ (q : PassSeen). tally_of (calls q.seen q.team)) view

pub of_tree : (tree : TreeId) (all left rest ps : List PassSeen) (p : PassSeen) → All (λ (p : PassSeen). p.tree ≡ tree) all → all ≡ left ++ ps
    → left ≡ rest ++ p ∷ [] → p.tree ≡ tree
of_tree tree all left rest ps p h e f =
    All-contains (λ (p : PassSeen). p.tree ≡ tree) (rest ++ p ∷ ps) p
    (subst (All (λ (p : PassSeen). p.tree ≡ tree)) (e ∙ ap (λ l. l ++ ps) f ∙ append_assoc rest (p ∷ []) ps) h)
    (contains_middle rest p ps)

-- ---- the longest history that was seen is all of it

prefix_long : (xs ys : List HistoryEntry) → IsPrefix xs ys → length xs ≤ length ys
prefix_long xs ys p = let e = ap length p.1 in let long = length-append xs p.0 in omega (arith, e, long)

prefix_whole : (xs ys : List HistoryEntry) → IsPrefix xs ys → length ys ≤ length xs → xs ≡ ys
prefix_whole xs ys (rest, is) long = by_rest rest is
  where
    by_rest : (rest : List HistoryEntry) → ys ≡ xs ++ rest → xs ≡ ys
    by_rest [] e = sym (e ∙ append-nil xs)
    by_rest (x ∷ rest) e = let f = ap length e in let more = length-append xs (x ∷ rest) in absurd (omega (arith, f, more, long))

longer_prefix : (one other history : List HistoryEntry) → IsPrefix one history → IsPrefix other history → IsPrefix (longer_of one other) history
longer_prefix one other history p q = elim (leb (length one) (length other)) as (λ b. IsPrefix (cond b other one) history) [ true ↦ q | false ↦ p ]

longer_long : (one other : List HistoryEntry) → (length one ≤ length (longer_of one other)) × (length other ≤ length (longer_of one other))
longer_long one other = by_test (leb (length one) (length other)) refl
  where
    by_test : (b : Bool) → leb (length one) (length other) ≡ b → (length one ≤ length (cond b other one)) × (length other ≤ length (cond b other one))
    by_test true is = (grind (arith, nat_tests, is), omega arith)
    by_test false is = (omega arith, grind (arith, nat_tests, is))

history_prefix : (members : List Member) (history : List HistoryEntry) → All (λ (m : Member). IsPrefix m.seen history) members
    → IsPrefix (history_of members) history
history_prefix [] history h = (history, refl)
history_prefix (m ∷ members) history h =
    longer_prefix m.seen (history_of members) history (All-head (λ (m : Member). IsPrefix m.seen history) m members h)
    (history_prefix members history (All-tail (λ (m : Member). IsPrefix m.seen history) m members h))

history_long : (members : List Member) (m : Member) → Contains members m → length m.seen ≤ length (history_of members)
history_long [] m (i, within, e) = absurd (omega (arith, within))
history_long (x ∷ members) m (zero, within, e) =
    let l = (longer_long x.seen (history_of members)).0 in subst (λ (y : Member). length y.seen ≤ length (history_of (x ∷ members))) e l
history_long (x ∷ members) m (suc i, within, e) =
    let rest = history_long members m (i, omega (arith, within), e) in
    let l = (longer_long x.seen (history_of members)).1 in
    omega (arith, rest, l)

pub history_is : (members : List Member) (history : List HistoryEntry) (m : Member) → All (λ (m : Member). IsPrefix m.seen history) members
    → Contains members m → m.seen ≡ history → history_of members ≡ history
history_is members history m h there is =
    prefix_whole (history_of members) history (history_prefix members history h)
    (let l = history_long members m there in let e = ap length is in omega (arith, l, e))

-- ---- the close

no_others : {X : Type 0} (front xs back : List X) → length (front ++ (xs ++ back)) ≡ length xs → front ++ (xs ++ back) ≡ xs
no_others [] xs [] e = append-nil xs
no_others [] xs (y ∷ back) e = let long = length-append xs (y ∷ back) in absurd (omega (arith, e, long))
no_others (x ∷ front) xs back e =
    let one = length-append front (xs ++ back) in
    let two = length-append xs back in
    absurd (omega (arith, e, one, two))

module _ {B : Type 0} (key_of : B → Key) (Stands : ℕ → B → Type 0) (a : About) (passes : List PassSeen) (id : ℕ) (v : Sight) (words : List ℕ)
    (slots : List (Option B))
    (g : IsGathered a v passes) (all : length passes ≡ a.teams) (final : Final (Seen (Kept key_of Stands a) id v) words slots) where
  abbrev s : State (Option B) Sight
  s = final.0

  abbrev kept : Kept key_of Stands a s
  kept = final.1.0

  abbrev h : Held
  h = kept.held

  members_long : length v.members ≡ length passes
  members_long = sym (length-map v.members of_member) ∙ ap length g.each ∙ length-map passes of_pass

  members_are : all_members s.views ≡ v.members
  members_are =
      let r = around s.views id v final.1.1 in
      let e = ap all_members r.was ∙ members_around r.front r.back v in
      let long : length (all_members s.views) ≡ length v.members = kept.at_work.all_teams ∙ sym all ∙ sym members_long in
      e ∙ no_others (all_members r.front) v.members (all_members r.back) (sym (ap length e) ∙ long)

  at_work : AtWork a v.members h
  at_work = subst (λ l. AtWork a l h) members_are kept.at_work

  teams_are : map team_at v.members ≡ map (λ (p : PassSeen). p.team) passes
  teams_are = sym (map_map (λ (x : ℕ × List HistoryEntry). x.0) of_member v.members) ∙ ap (map (λ (x : ℕ × List HistoryEntry). x.0)) g.each
      ∙ map_map (λ (x : ℕ × List HistoryEntry). x.0) of_pass passes

  own : All (λ (p : PassSeen). calls h.history p.team ≡ calls p.seen p.team) passes
  own =
      all_unmap of_pass (λ (x : ℕ × List HistoryEntry). calls h.history x.0 ≡ calls x.1 x.0) passes
      (subst (All (λ (x : ℕ × List HistoryEntry). calls h.history x.0 ≡ calls x.1 x.0)) g.each
      (All-map (λ (x : ℕ × List HistoryEntry). calls h.history x.0 ≡ calls x.1 x.0) of_member v.members
      (All-weaker (Works a h) (λ (m : Member). calls h.history m.team ≡ calls m.seen m.team) (λ m w. sym w.own) v.members at_work.each)))

  begins : All (λ (p : PassSeen). IsPrefix p.seen h.history) passes
  begins =
      all_unmap of_pass (λ (x : ℕ × List HistoryEntry). IsPrefix x.1 h.history) passes
      (subst (All (λ (x : ℕ × List HistoryEntry). IsPrefix x.1 h.history)) g.each
      (All-map (λ (x : ℕ × List HistoryEntry). IsPrefix x.1 h.history) of_member v.members
      (All-weaker (Works a h) (λ (m : Member). IsPrefix m.seen h.history) (λ m w. w.seen) v.members at_work.each)))

  history : history_of v.members ≡ h.history
  history = history_is v.members h.history at_work.seen.0
      (All-weaker (Works a h) (λ (m : Member). IsPrefix m.seen h.history) (λ m w. w.seen) v.members at_work.each) at_work.seen.1 at_work.seen.2

  every_team : All (λ (e : HistoryEntry). Contains (map team_at v.members) (team_of e.event)) h.history
  every_team = All-weaker (λ (e : HistoryEntry). team_of e.event < a.teams) (λ (e : HistoryEntry). Contains (map team_at v.members) (team_of e.event))
      (λ e below. all_there a.teams (map team_at v.members) at_work.distinct
      (All-map (λ n. n < a.teams) team_at v.members (All-weaker (Works a h) (λ (m : Member). m.team < a.teams) (λ m w. w.team) v.members at_work.each))
      (length-map v.members team_at ∙ at_work.all_teams) (team_of e.event) below) h.history at_work.by_teams

  pub closes_so : (tally : Tally) → tally ≡ tally_of_all passes → Closes a passes (history_of v.members) tally
  closes_so tally is = subst (λ l. Closes a passes l tally) (sym history) (record {
    legal = (h.now, at_work.carried);
    begins = begins;
    own = own;
    counted = is ∙ tallies_agree passes h.history (subst AreDistinct teams_are at_work.distinct)
        (subst (λ l. All (λ (e : HistoryEntry). Contains l (team_of e.event)) h.history) teams_are every_team) own;
  })
