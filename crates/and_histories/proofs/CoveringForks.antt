-- Where each fork is covering, no code is lost; and where no key is left, none comes again.
use Rattle.std.proofs.Common.{ℕ, zero, suc, ◌+◌, ◌*◌, ◌≡◌, ◌<◌, Bool, true, false, cond, ◌&&◌, List, [], ◌∷◌, ◌++◌, length, set, replicate, refl, sym, ap}
use Rattle.std.proofs.Common.{◌∙◌, true≢false, arith}
use Rattle.std.specs.Prelude.{flat_map, sum_by, nat_eq}
use Rattle.std.proofs.lemmas.List.Sums.{sum_by-append, sum_by-cons}
use Rattle.std.proofs.lemmas.List.Elements.{All-head, All-tail}
use Rattle.std.proofs.lemmas.Bool.Decides.{Decides-eqb}
use Rattle.and_model.specs.Prefixes.{IsPrefix}
use Rattle.and_model.specs.Programs.{Program}
use Rattle.and_histories.specs.PlainTree.{Key, free, opened, State, Event, Reply, Does, Holds, opening, children, keys_in, keys_left, left_of}
use Rattle.and_histories.specs.Histories.{HistoryEntry, Carries}
use Rattle.and_histories.specs.Covering.{HasOutcomeWithin, begins, keys_begun, IsCovering, AreCovering, brought, replaced, ended, keys_ended}
use Rattle.and_model.proofs.Tested.{first_true, second_true}
use Rattle.and_histories.proofs.KeptKeys.{keys_are_kept, total_keys}

-- a code that passes the test begins with the key
pub begins_prefix : (code key : List ℕ) → begins code key ≡ true → IsPrefix key code
begins_prefix code [] is = (code, refl)
begins_prefix [] (k ∷ key) is = absurd (true≢false (sym is))
begins_prefix (c ∷ code) (k ∷ key) is =
    let same : c ≡ k = (Decides-eqb c k).0 (first_true (nat_eq c k) (begins code key) is) in
    let rest = begins_prefix code key (second_true (nat_eq c k) (begins code key) is) in
    (rest.0, λ i. same i ∷ rest.1 i)

-- a code that does not begin with a key begins with no longer one
longer_not : (code key rest : List ℕ) → begins code key ≡ false → begins code (key ++ rest) ≡ false
longer_not code [] rest is = absurd (true≢false is)
longer_not [] (k ∷ key) rest is = refl
longer_not (c ∷ code) (k ∷ key) rest is = by_test (nat_eq c k) is (longer_not code key rest)
  where
    by_test : (b : Bool) → (b && begins code key) ≡ false → (begins code key ≡ false → begins code (key ++ rest) ≡ false)
        → (b && begins code (key ++ rest)) ≡ false
    by_test true is goes_on = goes_on is
    by_test false is goes_on = refl

module _ (code : List ℕ) where
  -- 1 at a key with which the code begins
  abbrev at_key : Key → ℕ
  at_key key = cond (begins code key) 1 0

  children_none : (longer : Key) (clauses : List ℕ) → begins code longer ≡ false → keys_begun code (children longer clauses) ≡ 0
  children_none longer [] is = refl
  children_none longer (c ∷ clauses) is =
      sum_by-cons at_key (longer ++ c ∷ []) (children longer clauses)
      ∙ ap (λ b. cond b 1 0 + keys_begun code (children longer clauses)) (longer_not code longer (c ∷ []) is)
      ∙ ap (λ n. 0 + n) (children_none longer clauses is)

  -- A covering fork takes as many of these keys away as it brings.
  fork_keeps : (P : Program) (limit : ℕ) → HasOutcomeWithin P limit code → (s next : State) (event : Event) (reply : Reply) → Does s event reply next
      → IsCovering P limit event → sum_by at_key (brought event) ≡ sum_by at_key (replaced event)
  fork_keeps P limit within s next event reply (Does.forks team key longer clauses held is_prefix) covering = by_test (begins code key) refl
    where
      by_test : (b : Bool) → begins code key ≡ b → sum_by at_key (children longer clauses) ≡ 0 + cond b 1 0
      by_test true is = covering code within (begins_prefix code key is)
      by_test false is = children_none longer clauses (rw is_prefix.1 (longer_not code key is_prefix.0 is))
  fork_keeps P limit within s next event reply other covering = refl

  step_keeps : (P : Program) (limit : ℕ) → HasOutcomeWithin P limit code → (s next : State) (event : Event) (reply : Reply) → Does s event reply next
      → IsCovering P limit event → sum_by at_key (keys_left next) + sum_by at_key (ended event) ≡ sum_by at_key (keys_left s)
  step_keeps P limit within s next event reply does covering =
      let kept = keys_are_kept at_key s next event reply does in
      let same = fork_keeps P limit within s next event reply does covering in
      omega arith

  history_keeps : (P : Program) (limit : ℕ) → HasOutcomeWithin P limit code → (s after : State) (history : List HistoryEntry) → Carries s history after
      → AreCovering P limit history → sum_by at_key (keys_left after) + sum_by at_key (keys_ended history) ≡ sum_by at_key (keys_left s)
  history_keeps P limit within s after [] is covering = let same = ap (λ s. sum_by at_key (keys_left s)) is in omega arith
  history_keeps P limit within s after (e ∷ history) (next, does, carries) covering =
      let one = step_keeps P limit within s next e.event e.reply does (All-head (λ (e : HistoryEntry). IsCovering P limit e.event) e history covering) in
      let rest = history_keeps P limit within next after history carries (All-tail (λ (e : HistoryEntry). IsCovering P limit e.event) e history covering) in
      let more = sum_by-append at_key (ended e.event) (keys_ended history) in
      omega arith

-- At the opening the one key is the empty one.
hands_none : (n : ℕ) → flat_map (λ (keys : List Key). keys) (replicate n []) ≡ []
hands_none zero = refl
hands_none (suc n) = hands_none n

cells_none : (n : ℕ) → flat_map keys_in (replicate n (record { serial = 0; content = free })) ≡ []
cells_none zero = refl
cells_none (suc n) = cells_none n

cells_one : (n : ℕ) → 0 < n
    → flat_map keys_in (set (replicate n (record { serial = 0; content = free })) 0 (record { serial = 1; content = opened [] })) ≡ [] ∷ []
cells_one zero some = absurd (omega arith)
cells_one (suc n) some = ap (λ keys. [] ∷ keys) (cells_none n)

pub opening_keys : (teams : ℕ) → 0 < teams → keys_left (opening teams) ≡ [] ∷ []
opening_keys teams some = rw (hands_none teams) (cells_one (8 * teams) (omega arith))

pub covering_forks : (P : Program) (limit teams : ℕ) (history : List HistoryEntry) (s : State) → 0 < teams → Carries (opening teams) history s
    → AreCovering P limit history
    → (code : List ℕ) → HasOutcomeWithin P limit code → keys_begun code (keys_left s ++ keys_ended history) ≡ 1
covering_forks P limit teams history s some carries covering code within =
    let both = sum_by-append (at_key code) (keys_left s) (keys_ended history) in
    let kept = history_keeps code P limit within (opening teams) s history carries covering in
    let one : sum_by (at_key code) (keys_left (opening teams)) ≡ 1 = ap (sum_by (at_key code)) (opening_keys teams some) in
    both ∙ kept ∙ one

-- The length of a list is a sum of ones.
pub length_sum : {X : Type 0} (xs : List X) → length xs ≡ sum_by (λ x. 1) xs
length_sum [] = refl
length_sum (x ∷ xs) = let rest = length_sum xs in let more = sum_by-cons (λ _. 1) x xs in omega arith

-- How many keys are left after an event.
pub left_is_counted : (s next : State) (event : Event) (reply : Reply) → Does s event reply next
    → left_of next + length (replaced event) + length (ended event) ≡ left_of s + length (brought event)
left_is_counted s next event reply does = simp length_sum (keys_are_kept (λ _. 1) s next event reply does)

some_left : (s : State) (team : ℕ) (key : Key) → Holds s team key → left_of s ≡ 0 → ⊥
some_left s team key held none =
    let one = total_keys (λ _. 1) s team key [] held in
    let two = length_sum (keys_left s) in
    omega arith

none_after : (s next : State) (event : Event) (reply : Reply) → Does s event reply next → left_of s ≡ 0 → left_of next ≡ 0
none_after s next event reply (Does.forks team key longer clauses held is_prefix) none = absurd (some_left s team key held none)
none_after s next event reply other none = let counted = left_is_counted s next event reply other in omega arith

pub none_comes_again : (s after : State) (history : List HistoryEntry) → Carries s history after → left_of s ≡ 0 → left_of after ≡ 0
none_comes_again s after [] is none = ap left_of (sym is) ∙ none
none_comes_again s after (e ∷ history) (next, does, carries) none = none_comes_again next after history carries (none_after s next e.event e.reply does none)
