-- What a call with a pass adds to the calls of its team, and what it makes of the keys in the team's hand.
use Rattle.std.proofs.Common.{ℕ, ◌+◌, ◌≡◌, ◌≤◌, inl, inr, Bool, true, false, cond, List, [], ◌∷◌, ◌++◌, append-nil, refl, sym, ap, subst, ◌∙◌, arith, Contains}
use Rattle.std.specs.Prelude.{sum_by, nat_eq}
use Rattle.std.specs.Cmp.Lexicographic.{pointwise, bytes_decides}
use Rattle.std.proofs.lemmas.Bool.Decides.{Decides-eqb}
use Rattle.std.proofs.lemmas.List.Sums.{sum_by-append, sum_by-cons}
use Rattle.std.proofs.lemmas.List.Elements.{filter-append}
use Rattle.and_laws.proofs.Ordered.{contains_first, contains_more, contains_none, contains_cases}
use Rattle.and_histories.specs.PlainTree.{Key, State, Seen, Event, fork, publish, claim, end, look, left, Reply, forked, done, not_free, spent, moved, last}
use Rattle.and_histories.specs.PlainTree.{Ending}
use Rattle.and_histories.specs.PlainTree.{Does, hand_of, children}
use Rattle.and_histories.specs.Histories.{HistoryEntry, calls, team_of}
use Rattle.and_histories.proofs.KeptKeys.{sum_in_place}
use Rattle.and_tree.specs.Passes.{PassSeen, Makes, Takes}
use Rattle.and_tree.proofs.Hands.{taken_hand, forked_hand, published_hand, ended_hand}
use Rattle.and_team_laws.specs.Owed.{SameItems}

-- ---- the calls of the team

calls_append : (one other : List HistoryEntry) (team : ℕ) → calls (one ++ other) team ≡ calls one team ++ calls other team
calls_append one other team = filter-append (λ (e : HistoryEntry). nat_eq (team_of e.event) team) one other

calls_own : (e : HistoryEntry) (team : ℕ) → team_of e.event ≡ team → calls (e ∷ []) team ≡ e ∷ []
calls_own e team same = ap (λ b. cond {A = List HistoryEntry} b (e ∷ []) []) ((Decides-eqb (team_of e.event) team).1 same)

-- A call is one call of the team more.
pub calls_more : (event : Event) (reply : Reply) (p q : PassSeen) → Makes event reply p q → team_of event ≡ p.team
    → calls q.seen q.team ≡ calls p.seen p.team ++ record { event = event; reply = reply } ∷ []
calls_more event reply p q m of_team =
    let e : HistoryEntry = record { event = event; reply = reply } in
    let before : calls (p.seen ++ m.others) p.team ≡ calls p.seen p.team =
    calls_append p.seen m.others p.team ∙ ap (λ h. calls p.seen p.team ++ h) m.of_others ∙ append-nil (calls p.seen p.team) in
    ap (λ t. calls q.seen t) m.team ∙ ap (λ h. calls h p.team) m.seen ∙ calls_append (p.seen ++ m.others) (e ∷ []) p.team
    ∙ ap (λ h. h ++ calls (e ∷ []) p.team) before ∙ ap (λ h. calls p.seen p.team ++ h) (calls_own e p.team of_team)

-- ---- calls that leave the hand as it is

nothing_looked : (s next : State) (team cell : ℕ) (reply : Reply) → Does s (look team cell) reply next → next ≡ s
nothing_looked s next team cell reply (Does.looks t c is_team is_cell) = refl

nothing_counted : (s next : State) (team : ℕ) (reply : Reply) → Does s (left team) reply next → next ≡ s
nothing_counted s next team reply (Does.counts t is_team) = refl

nothing_moved : (s next : State) (team cell serial : ℕ) (what : Seen) → Does s (claim team cell serial) (moved what) next → next ≡ s
nothing_moved s next team cell serial what (Does.misses t c n is_team is_cell other) = refl

nothing_freed : (s next : State) (team cell : ℕ) (key : Key) (what : Seen) → Does s (publish team cell key) (not_free what) next → next ≡ s
nothing_freed s next team cell key what (Does.finds_not_free t c k is_cell owns held serial other) = refl

nothing_spent : (s next : State) (team cell : ℕ) (key : Key) → Does s (publish team cell key) spent next → next ≡ s
nothing_spent s next team cell key (Does.finds_spent t c k is_cell owns held serial) = refl

same_hand : (event : Event) (reply : Reply) (p q : PassSeen) (m : Makes event reply p q) → m.after ≡ m.before → q.hand ≡ p.hand
same_hand event reply p q m same = sym m.hand_after ∙ ap (λ s. hand_of s p.team) same ∙ m.hand_before

pub looked_hand : (cell : ℕ) (reply : Reply) (p q : PassSeen) → Makes (look p.team cell) reply p q → q.hand ≡ p.hand
looked_hand cell reply p q m = same_hand (look p.team cell) reply p q m (nothing_looked m.before m.after p.team cell reply m.does)

pub counted_hand : (reply : Reply) (p q : PassSeen) → Makes (left p.team) reply p q → q.hand ≡ p.hand
counted_hand reply p q m = same_hand (left p.team) reply p q m (nothing_counted m.before m.after p.team reply m.does)

pub moved_hand : (cell serial : ℕ) (what : Seen) (p q : PassSeen) → Makes (claim p.team cell serial) (moved what) p q → q.hand ≡ p.hand
moved_hand cell serial what p q m =
    same_hand (claim p.team cell serial) (moved what) p q m (nothing_moved m.before m.after p.team cell serial what m.does)

pub not_free_hand : (cell : ℕ) (key : Key) (what : Seen) (p q : PassSeen) → Makes (publish p.team cell key) (not_free what) p q → q.hand ≡ p.hand
not_free_hand cell key what p q m =
    same_hand (publish p.team cell key) (not_free what) p q m (nothing_freed m.before m.after p.team cell key what m.does)

pub spent_hand : (cell : ℕ) (key : Key) (p q : PassSeen) → Makes (publish p.team cell key) spent p q → q.hand ≡ p.hand
spent_hand cell key p q m = same_hand (publish p.team cell key) spent p q m (nothing_spent m.before m.after p.team cell key m.does)

-- ---- calls that change the hand, by what is summed over it

held_to_end : (s next : State) (team : ℕ) (key : Key) (how : Ending) (reply : Reply) → Does s (end team key how) reply next
    → Contains (hand_of s team) key
held_to_end s next team key how reply (Does.ends t k h held) = held

held_to_fork : (s next : State) (team : ℕ) (key longer : Key) (clauses : List ℕ) (reply : Reply) → Does s (fork team key longer clauses) reply next
    → Contains (hand_of s team) key
held_to_fork s next team key longer clauses reply (Does.forks t k l cs held prefix) = held

held_to_publish : (s next : State) (team cell : ℕ) (key : Key) → Does s (publish team cell key) done next → Contains (hand_of s team) key
held_to_publish s next team cell key (Does.publishes t c k is_cell owns held serial content) = held

module _ (f : Key → ℕ) where
  pub ended_sum : (key : Key) (how : Ending) (is_last : Bool) (p q : PassSeen) → Makes (end p.team key how) (last is_last) p q
      → sum_by f q.hand + f key ≡ sum_by f p.hand
  ended_sum key how is_last p q m =
      let held : Contains p.hand key =
      subst (λ keys. Contains keys key) m.hand_before (held_to_end m.before m.after p.team key how (last is_last) m.does) in
      let whole = sum_in_place f key [] p.hand held in
      let same = ap (sum_by f) (ended_hand key how is_last p q m) in
      omega (arith, whole, same)

  pub forked_sum : (key longer : Key) (clauses : List ℕ) (p q : PassSeen) → Makes (fork p.team key longer clauses) forked p q
      → sum_by f q.hand + f key ≡ sum_by f p.hand + sum_by f (children longer clauses)
  forked_sum key longer clauses p q m =
      let held : Contains p.hand key =
      subst (λ keys. Contains keys key) m.hand_before (held_to_fork m.before m.after p.team key longer clauses forked m.does) in
      let whole = sum_in_place f key (children longer clauses) p.hand held in
      let same = ap (sum_by f) (forked_hand key longer clauses p q m) in
      omega (arith, whole, same)

  pub published_sum : (cell : ℕ) (key : Key) (p q : PassSeen) → Makes (publish p.team cell key) done p q → sum_by f q.hand + f key ≡ sum_by f p.hand
  published_sum cell key p q m =
      let held : Contains p.hand key =
      subst (λ keys. Contains keys key) m.hand_before (held_to_publish m.before m.after p.team cell key m.does) in
      let whole = sum_in_place f key [] p.hand held in
      let same = ap (sum_by f) (published_hand cell key p q m) in
      omega (arith, whole, same)

  pub taken_sum : (cell serial : ℕ) (key : Key) (p q : PassSeen) → Takes cell serial key p q → sum_by f q.hand ≡ sum_by f p.hand + f key
  taken_sum cell serial key p q t =
      let same = ap (sum_by f) (taken_hand cell serial key p q t).0 in
      let whole = sum_by-append f p.hand (key ∷ []) in
      let one = sum_by-cons f key [] in
      omega (arith, same, whole, one)

-- ---- keys among the same keys

-- 1 at the key
abbrev at_key : Key → Key → ℕ
at_key key k = cond (pointwise nat_eq key k) 1 0

contains_counts : (key : Key) (keys : List Key) → Contains keys key → 1 ≤ sum_by (at_key key) keys
contains_counts key [] h = absurd (contains_none key h)
contains_counts key (k ∷ keys) h =
    let whole = sum_by-cons (at_key key) k keys in
    elim (contains_cases k key keys h) [
      | inl e ↦
          (let one : at_key key k ≡ 1 = ap (λ z. at_key key z) (sym e) ∙ ap (λ b. cond b 1 0) ((bytes_decides key key).1 refl) in
          omega (arith, whole, one))
      | inr i ↦ (let rest = contains_counts key keys i in omega (arith, whole, rest))
    ]

counts_contains : (key : Key) (keys : List Key) → 1 ≤ sum_by (at_key key) keys → Contains keys key
counts_contains key [] some = absurd (omega arith)
counts_contains key (k ∷ keys) some = by_test (pointwise nat_eq key k) refl (counts_contains key keys)
  where
    by_test : (b : Bool) → pointwise nat_eq key k ≡ b → (1 ≤ sum_by (at_key key) keys → Contains keys key) → Contains (k ∷ keys) key
    by_test true is later = subst (λ z. Contains (k ∷ keys) z) (sym ((bytes_decides key k).0 is)) (contains_first k keys)
    by_test false is later =
        let none : at_key key k ≡ 0 = ap (λ b. cond b 1 0) is in
        let whole = sum_by-cons (at_key key) k keys in
        contains_more k key keys (later (omega (arith, some, none, whole)))

-- Of lists of the same keys, each contains what the other does.
pub same_keys : (keys others : List Key) → SameItems keys others → (key : Key) → Contains others key → Contains keys key
same_keys keys others same key h =
    counts_contains key keys (let some = contains_counts key others h in omega (arith, some, same (at_key key)))
