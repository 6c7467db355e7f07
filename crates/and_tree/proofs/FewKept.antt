-- Each event leaves a tree with few keys, and few keys are fewer than 64 bits can count.
use Rattle.std.proofs.Common.{ℕ, zero, suc, ◌+◌, ◌-◌, ◌*◌, ◌^◌, ◌≡◌, ◌≢◌, ◌≤◌, ◌<◌, Bool, true, false, cond, List, [], ◌∷◌, ◌++◌, length, get_or}
use Rattle.std.proofs.Common.{set, refl, sym, ap, subst, ◌∙◌, true≢false, arith, All, Contains}
use Rattle.std.specs.Prelude.{flat_map, sum_by, nat_eq}
use Rattle.std.specs.Cmp.Lexicographic.{pointwise, bytes_decides}
use Rattle.std.proofs.lemmas.List.{length-set, length-map, length-append}
use Rattle.std.proofs.lemmas.List.Concat.{length-flat_map}
use Rattle.std.proofs.lemmas.List.Sums.{sum_by-set, sum_by-cons}
use Rattle.std.proofs.lemmas.List.Elements.{All-head, All-tail, All-set, All-get_or}
use Rattle.std.proofs.lemmas.Map.Made.{Contains-tail}
use Rattle.and_model.proofs.Tested.{none_in}
use Rattle.and_histories.specs.PlainTree.{Key, State, Cell, free, opened, taking, Holds, IsTeam, IsCell, IsOpen, hand_of, cell_of}
use Rattle.and_histories.specs.PlainTree.{in_place_of, children, with_keys, joined, with_cell, keys_in, left_of, last_serial}
use Rattle.and_tree.specs.Few.{IsFew, IsCellOf, most_in_hand, above_most, open_cells}

-- what is read beyond the end is what stands there for nothing
pub in_range : {X : Type 0} (xs : List X) (i : ℕ) (d : X) → (get_or xs i d ≡ d → ⊥) → i < length xs
in_range [] i d other = absurd (other refl)
in_range (x ∷ xs) zero d other = omega arith
in_range (x ∷ xs) (suc i) d other = let below = in_range xs i d other in omega arith

pub team_in_range : (s : State) (team : ℕ) (key : Key) → Holds s team key → team < length s.hands
team_in_range s team key held = in_range s.hands team [] (λ e. none_in key (subst (λ keys. Contains keys key) e held))

-- Keys take the place of one that is there.
length_in_place : (key : Key) (new keys : List Key) → Contains keys key → length (in_place_of key new keys) + 1 ≡ length keys + length new
length_in_place key new [] c = absurd (none_in key c)
length_in_place key new (k ∷ keys) c = by_test (pointwise nat_eq key k) refl (length_in_place key new keys)
  where
    by_test : (b : Bool) → pointwise nat_eq key k ≡ b → (Contains keys key → length (in_place_of key new keys) + 1 ≡ length keys + length new)
        → length (cond b (new ++ keys) (k ∷ in_place_of key new keys)) + 1 ≡ length (k ∷ keys) + length new
    by_test true is rest = let one = length-append new keys in omega (arith, one)
    by_test false is rest =
        let apart : k ≡ key → ⊥ = λ e. true≢false (sym ((bytes_decides key k).1 (sym e)) ∙ is) in
        let kept = rest (Contains-tail k keys key apart c) in
        omega (arith, kept)

fewer : (n k most : ℕ) → n ≤ k → n - most ≤ k - most
fewer n k most le = omega (arith, le)

none_above : (n most : ℕ) → n ≤ most → n - most ≡ 0
none_above n most le = omega (arith, le)

one_more_above : (n k most : ℕ) → n ≡ k + 1 → n - most ≤ (k - most) + 1
one_more_above n k most e = omega (arith, e)

-- what the numbers are made of
abbrev serial_of : Cell → ℕ
serial_of c = c.serial

abbrev opens : Cell → ℕ
opens c = length (keys_in c)

abbrev blank : Cell
blank = record { serial = 0; content = free }

opened_sum : (cells : List Cell) → open_cells cells ≡ sum_by opens cells
opened_sum cells = length-flat_map keys_in cells

-- A hand is replaced by one that has no more keys above the most.
few_hand : (teams : ℕ) (s : State) (t : ℕ) (keys : List Key) → IsFew teams s → t < length s.hands → above_most keys ≤ above_most (hand_of s t)
    → IsFew teams (record s { hands = set s.hands t keys })
few_hand teams s t keys few within le =
    let sum = sum_by-set above_most s.hands t keys [] within in
    let bound = few.bounded in record {
      teams_are = length-set s.hands t keys ∙ few.teams_are;
      some_team = few.some_team;
      at_most = few.at_most;
      cells_are = few.cells_are;
      cells = few.cells;
      bounded = omega (arith, sum, le, bound);
    }

-- A cell is replaced, and a hand, such that the serial makes up for the keys.
few_cell : (teams : ℕ) (s : State) (t cell : ℕ) (keys : List Key) (c : Cell) → IsFew teams s → t < length s.hands → IsCell s cell → IsCellOf teams c
    → above_most keys + opens c + serial_of (cell_of s cell) ≤ above_most (hand_of s t) + opens (cell_of s cell) + serial_of c
    → IsFew teams (record { hands = set s.hands t keys; cells = set s.cells cell c })
few_cell teams s t cell keys c few within is_cell of_team le =
    let hands = sum_by-set above_most s.hands t keys [] within in
    let opened_now = sum_by-set opens s.cells cell c blank is_cell in
    let serials = sum_by-set serial_of s.cells cell c blank is_cell in
    let before = opened_sum s.cells in
    let after = opened_sum (set s.cells cell c) in
    let bound = few.bounded in record {
      teams_are = length-set s.hands t keys ∙ few.teams_are;
      some_team = few.some_team;
      at_most = few.at_most;
      cells_are = length-set s.cells cell c ∙ few.cells_are;
      cells = All-set (IsCellOf teams) s.cells cell c of_team few.cells;
      bounded = omega (arith, hands, opened_now, serials, before, after, bound, le);
    }

pub few_forks : (teams : ℕ) (s : State) (t : ℕ) (key longer : Key) (clauses : List ℕ) → IsFew teams s → Holds s t key
    → length (hand_of s t) + length clauses ≤ most_in_hand
    → IsFew teams (with_keys s t key (children longer clauses))
few_forks teams s t key longer clauses few holds modest =
    let new = in_place_of key (children longer clauses) (hand_of s t) in
    let long = length_in_place key (children longer clauses) (hand_of s t) holds in
    let many = length-map clauses (λ c. longer ++ c ∷ []) in
    let none : above_most new ≡ 0 = none_above (length new) most_in_hand (omega (arith, long, many, modest)) in
    few_hand teams s t new few (team_in_range s t key holds) (omega (arith, none))

pub few_ends : (teams : ℕ) (s : State) (t : ℕ) (key : Key) → IsFew teams s → Holds s t key → IsFew teams (with_keys s t key [])
few_ends teams s t key few holds =
    let new = in_place_of key [] (hand_of s t) in
    let long = length_in_place key [] (hand_of s t) holds in
    few_hand teams s t new few (team_in_range s t key holds) (fewer (length new) (length (hand_of s t)) most_in_hand (omega (arith, long)))

pub few_publishes : (teams : ℕ) (s : State) (t cell : ℕ) (key : Key) → IsFew teams s → Holds s t key → IsCell s cell
    → (cell_of s cell).serial ≢ last_serial → (cell_of s cell).content ≡ free
    → IsFew teams (with_cell (with_keys s t key []) cell (suc (cell_of s cell).serial) (opened key))
few_publishes teams s t cell key few holds is serial content =
    let new = in_place_of key [] (hand_of s t) in
    let long = length_in_place key [] (hand_of s t) holds in
    let no_more = fewer (length new) (length (hand_of s t)) most_in_hand (omega (arith, long)) in
    let was : IsCellOf teams (cell_of s cell) = All-get_or (IsCellOf teams) s.cells cell blank is few.cells in
    let below = was.serial in
    let none : opens (cell_of s cell) ≡ 0 = ap (λ x. opens (record { serial = 0; content = x })) content in
    few_cell teams s t cell new (record { serial = suc (cell_of s cell).serial; content = opened key }) few (team_in_range s t key holds) is
    (record { serial = strictly (cell_of s cell).serial below serial; taken = tt })
    (omega (arith, no_more, none))
  where
    strictly : (n : ℕ) → n ≤ last_serial → n ≢ last_serial → suc n ≤ last_serial
    strictly n le ne = omega (arith, le, ne)

pub few_takes : (teams : ℕ) (s : State) (t cell serial : ℕ) (key : Key) → IsFew teams s → t < teams → IsTeam s t → IsOpen s cell serial key
    → IsFew teams (with_cell (joined s t key) cell serial (taking t))
few_takes teams s t cell serial key few below is open_so =
    let is_cell : IsCell s cell = in_range s.cells cell blank (λ e. let f : free ≡ opened key = ap (λ (c : Cell). c.content) (sym e ∙ open_so) in cc) in
    let was : IsCellOf teams (cell_of s cell) = All-get_or (IsCellOf teams) s.cells cell blank is_cell few.cells in
    let low : serial ≤ last_serial = subst (λ n. n ≤ last_serial) (ap serial_of open_so) was.serial in
    let one : opens (cell_of s cell) ≡ 1 = ap opens open_so in
    let same : serial_of (cell_of s cell) ≡ serial = ap serial_of open_so in
    let more = one_more_above (length (hand_of s t ++ key ∷ [])) (length (hand_of s t)) most_in_hand (length-append (hand_of s t) (key ∷ [])) in
    few_cell teams s t cell (hand_of s t ++ key ∷ []) (record { serial = serial; content = taking t }) few is is_cell (record { serial = low; taken = below })
    (omega (arith, one, same, more))

pub few_clears : (teams : ℕ) (s : State) (t cell : ℕ) → IsFew teams s → (cell_of s cell).content ≡ taking t
    → IsFew teams (with_cell s cell (cell_of s cell).serial free)
few_clears teams s t cell few is =
    let is_cell : IsCell s cell = in_range s.cells cell blank (λ e. let f : free ≡ taking t = ap (λ (c : Cell). c.content) (sym e) ∙ is in cc) in
    let was : IsCellOf teams (cell_of s cell) = All-get_or (IsCellOf teams) s.cells cell blank is_cell few.cells in
    let c : Cell = record { serial = (cell_of s cell).serial; content = free } in
    let none : opens (cell_of s cell) ≡ 0 = ap (λ x. opens (record { serial = 0; content = x })) is in
    let opened_now = sum_by-set opens s.cells cell c blank is_cell in
    let serials = sum_by-set serial_of s.cells cell c blank is_cell in
    let before = opened_sum s.cells in
    let after = opened_sum (set s.cells cell c) in
    let bound = few.bounded in record {
      teams_are = few.teams_are;
      some_team = few.some_team;
      at_most = few.at_most;
      cells_are = length-set s.cells cell c ∙ few.cells_are;
      cells = All-set (IsCellOf teams) s.cells cell c (record { serial = was.serial; taken = tt }) few.cells;
      bounded = omega (arith, none, opened_now, serials, before, after, bound);
    }

-- ---- 64 bits count them

hand_bound : (hands : List (List Key)) → sum_by length hands ≤ length hands * most_in_hand + sum_by above_most hands
hand_bound [] = omega arith
hand_bound (keys ∷ hands) =
    let rest = hand_bound hands in
    let one = sum_by-cons length keys hands in
    let two = sum_by-cons above_most keys hands in
    let here = split_most (length keys) most_in_hand in
    let more : length (keys ∷ hands) * most_in_hand ≡ length hands * most_in_hand + most_in_hand = omega arith in
    omega (arith, rest, one, two, here, more)
  where
    split_most : (n most : ℕ) → n ≤ most + (n - most)
    split_most n most = omega arith

serial_bound : (teams : ℕ) (cells : List Cell) → All (IsCellOf teams) cells → sum_by serial_of cells ≤ length cells * last_serial
serial_bound teams [] all = omega arith
serial_bound teams (c ∷ cells) all =
    let rest = serial_bound teams cells (All-tail (IsCellOf teams) c cells all) in
    let head : IsCellOf teams c = All-head (IsCellOf teams) c cells all in
    let here = head.serial in
    let one = sum_by-cons serial_of c cells in
    let more : length (c ∷ cells) * last_serial ≡ length cells * last_serial + last_serial = omega arith in
    omega (arith, rest, here, one, more)

pub few_fit : (teams : ℕ) (s : State) → IsFew teams s → left_of s < 2 ^ 63
few_fit teams s few =
    let parts = length-append (flat_map (λ (keys : List Key). keys) s.hands) (flat_map keys_in s.cells) in
    let in_hands = length-flat_map (λ (keys : List Key). keys) s.hands in
    let hands = hand_bound s.hands in
    let serials = serial_bound teams s.cells few.cells in
    let bound = few.bounded in
    let teams_are = few.teams_are in
    let cells_are = few.cells_are in
    let few_teams = few.at_most in
    omega (arith, parts, in_hands, hands, serials, bound, teams_are, cells_are, few_teams)
