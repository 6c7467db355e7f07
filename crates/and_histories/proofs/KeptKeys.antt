-- What the events do to the keys in hand and open: none is lost and none is invented.
use Rattle.std.proofs.Common.{ℕ, zero, suc, ◌+◌, ◌≡◌, ◌<◌, Bool, true, false, cond, List, [], ◌∷◌, ◌++◌, length, get_or, set, refl, sym, subst, ap, ◌∙◌}
use Rattle.std.proofs.Common.{true≢false, arith}
use Rattle.std.specs.Prelude.{flat_map, sum_by, Contains, nat_eq}
use Rattle.std.specs.Cmp.Lexicographic.{pointwise, bytes_decides}
use Rattle.std.proofs.lemmas.List.Sums.{sum_by-append, sum_by-set, sum_by-cons}
use Rattle.std.proofs.lemmas.Map.Made.{Contains-tail}
use Rattle.and_histories.specs.PlainTree.{Key, Content, free, opened, taking, Cell, State, Event, Reply, Does, hand_of, cell_of, Holds, in_place_of, children}
use Rattle.and_histories.specs.PlainTree.{with_keys, joined, with_cell, keys_in, keys_left}
use Rattle.and_histories.specs.Covering.{brought, replaced, ended}
use Rattle.and_model.proofs.Tested.{none_in}

-- what is read beyond the end is what stands there for nothing
pub in_range : {X : Type 0} (xs : List X) (i : ℕ) (d : X) → (get_or xs i d ≡ d → ⊥) → i < length xs
in_range [] i d other = absurd (other refl)
in_range (x ∷ xs) zero d other = omega arith
in_range (x ∷ xs) (suc i) d other = let below = in_range xs i d other in omega arith

pub team_in_range : (s : State) (team : ℕ) (key : Key) → Holds s team key → team < length s.hands
team_in_range s team key held = in_range s.hands team [] (λ e. none_in key (subst (λ keys. Contains keys key) e held))

-- the sum over lists that were joined
sum_flat : {A X : Type 0} (f : X → ℕ) (g : A → List X) (xs : List A) → sum_by f (flat_map g xs) ≡ sum_by (λ x. sum_by f (g x)) xs
sum_flat f g [] = refl
sum_flat f g (x ∷ xs) = sum_by-append f (g x) (flat_map g xs) ∙ ap (λ n. sum_by f (g x) + n) (sum_flat f g xs) ∙ sym (sum_by-cons (λ y. sum_by f (g y)) x xs)

-- and what becomes of it where one of the lists is replaced
sum_set : {A X : Type 0} (f : X → ℕ) (g : A → List X) (xs : List A) (i : ℕ) (y d : A) → i < length xs
    → sum_by f (flat_map g (set xs i y)) + sum_by f (g (get_or xs i d)) ≡ sum_by f (flat_map g xs) + sum_by f (g y)
sum_set f g xs i y d below = simp sum_flat (sum_by-set (λ x. sum_by f (g x)) xs i y d below)

module _ (f : Key → ℕ) where
  pub sum_in_place : (key : Key) (new keys : List Key) → Contains keys key → sum_by f (in_place_of key new keys) + f key ≡ sum_by f keys + sum_by f new
  sum_in_place key new [] c = absurd (none_in key c)
  sum_in_place key new (k ∷ keys) c = by_test (pointwise nat_eq key k) refl (sum_in_place key new keys)
    where
      by_test : (b : Bool) → pointwise nat_eq key k ≡ b → (Contains keys key → sum_by f (in_place_of key new keys) + f key ≡ sum_by f keys + sum_by f new)
          → sum_by f (cond b (new ++ keys) (k ∷ in_place_of key new keys)) + f key ≡ sum_by f (k ∷ keys) + sum_by f new
      by_test true is rest =
          let same : f key ≡ f k = ap f ((bytes_decides key k).0 is) in
          let one = sum_by-append f new keys in
          let two = sum_by-cons f k keys in
          omega arith
      by_test false is rest =
          let apart : k ≡ key → ⊥ = λ e. true≢false (sym ((bytes_decides key k).1 (sym e)) ∙ is) in
          let kept = rest (Contains-tail k keys key apart c) in
          let one = sum_by-cons f k (in_place_of key new keys) in
          let two = sum_by-cons f k keys in
          omega arith

  total : (s : State) → sum_by f (keys_left s) ≡ sum_by f (flat_map (λ keys. keys) s.hands) + sum_by f (flat_map keys_in s.cells)
  total s = sum_by-append f (flat_map (λ keys. keys) s.hands) (flat_map keys_in s.cells)

  -- a hand that is replaced
  total_hand : (s : State) (team : ℕ) (keys : List Key) → team < length s.hands
      → sum_by f (keys_left (record s { hands = set s.hands team keys })) + sum_by f (hand_of s team) ≡ sum_by f (keys_left s) + sum_by f keys
  total_hand s team keys below =
      let changed = sum_set f (λ (ks : List Key). ks) s.hands team keys [] below in
      let one = total s in
      let two = total (record s { hands = set s.hands team keys }) in
      omega arith

  -- a key in hand that is replaced
  pub total_keys : (s : State) (team : ℕ) (key : Key) (new : List Key) → Holds s team key
      → sum_by f (keys_left (with_keys s team key new)) + f key ≡ sum_by f (keys_left s) + sum_by f new
  total_keys s team key new held =
      let one = total_hand s team (in_place_of key new (hand_of s team)) (team_in_range s team key held) in
      let two = sum_in_place key new (hand_of s team) held in
      omega arith

  -- a cell that is replaced
  total_cell : (s : State) (cell serial : ℕ) (content : Content) → cell < length s.cells
      → sum_by f (keys_left (with_cell s cell serial content)) + sum_by f (keys_in (cell_of s cell))
      ≡ sum_by f (keys_left s) + sum_by f (keys_in (record { serial = serial; content = content }))
  total_cell s cell serial content below =
      let changed = sum_set f keys_in s.cells cell (record { serial = serial; content = content }) (record { serial = 0; content = free }) below in
      let one = total s in
      let two = total (with_cell s cell serial content) in
      omega arith

  -- each event leaves the keys as they are, but for those that it brings, replaces or ends
  pub keys_are_kept : (s next : State) (event : Event) (reply : Reply) → Does s event reply next
      → sum_by f (keys_left next) + sum_by f (replaced event) + sum_by f (ended event) ≡ sum_by f (keys_left s) + sum_by f (brought event)
  keys_are_kept s next event reply (Does.forks team key longer clauses held is_prefix) =
      let one = total_keys s team key (children longer clauses) held in
      omega arith
  keys_are_kept s next event reply (Does.finds_spent team cell key is_cell owns held is) = omega arith
  keys_are_kept s next event reply (Does.finds_not_free team cell key is_cell owns held is other) = omega arith
  keys_are_kept s next event reply (Does.publishes team cell key is_cell owns held is is_free) =
      let middle : State = with_keys s team key [] in
      let one = total_keys s team key [] held in
      let two = total_cell middle cell (suc (cell_of s cell).serial) (opened key) is_cell in
      let none : sum_by f (keys_in (cell_of s cell)) ≡ 0 = ap (λ c. sum_by f (keys_in (record { serial = 0; content = c }))) is_free in
      omega arith
  keys_are_kept s next event reply (Does.takes team cell serial key is_team is_open) =
      let middle : State = joined s team key in
      let is_cell : cell < length s.cells = in_range s.cells cell (record { serial = 0; content = free })
      (λ e. let f : free ≡ opened key = ap (λ (c : Cell). c.content) (sym e ∙ is_open) in cc) in
      let one = total_hand s team (hand_of s team ++ key ∷ []) is_team in
      let more = sum_by-append f (hand_of s team) (key ∷ []) in
      let two = total_cell middle cell serial (taking team) is_cell in
      let held : sum_by f (keys_in (cell_of s cell)) ≡ 0 + f key = ap (λ c. sum_by f (keys_in c)) is_open in
      omega arith
  keys_are_kept s next event reply (Does.misses team cell serial is_team is_cell other) = omega arith
  keys_are_kept s next event reply (Does.clears team cell is_taking) =
      let is_cell : cell < length s.cells = in_range s.cells cell (record { serial = 0; content = free })
      (λ e. let f : free ≡ taking team = ap (λ (c : Cell). c.content) (sym e) ∙ is_taking in cc) in
      let one = total_cell s cell (cell_of s cell).serial free is_cell in
      let none : sum_by f (keys_in (cell_of s cell)) ≡ 0 = ap (λ c. sum_by f (keys_in (record { serial = 0; content = c }))) is_taking in
      omega arith
  keys_are_kept s next event reply (Does.ends team key how held) =
      let one = total_keys s team key [] held in
      omega arith
  keys_are_kept s next event reply (Does.looks team cell is_team is_cell) = omega arith
  keys_are_kept s next event reply (Does.counts team is_team) = omega arith
