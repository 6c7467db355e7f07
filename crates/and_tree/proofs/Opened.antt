-- The table of a tree at the opening.
use Rattle.std.proofs.Common.{ℕ, zero, suc, ◌+◌, ◌-◌, ◌*◌, ◌≡◌, ◌≢◌, ◌≤◌, ◌<◌, inl, ⊎_elim, List, [], ◌∷◌, ◌++◌, map, length, get_or, set}
use Rattle.std.proofs.Common.{take, replicate, refl, sym, ap, subst, ◌∙◌, append-nil, arith, Option, None, Some, All, Contains}
use Rattle.std.specs.Prelude.{flat_map, sum_by}
use Rattle.std.proofs.lemmas.List.{length-replicate, length-set, length-map, length-append, get_or-replicate, take_all}
use Rattle.std.proofs.lemmas.List.Concat.{length-flat_map}
use Rattle.std.proofs.lemmas.List.Elements.{All-cons, All-set, All-replicate}
use Rattle.std.proofs.lemmas.List.Folds.{sum_by-replicate}
use Rattle.std.proofs.lemmas.List.Kept.{AllPairs-cons}
use Rattle.std.proofs.lemmas.List.Sums.{sum_by-set}
use mathlib.Core.Option.{some, some-injective, some-ne-none}
use lib.ListN.{get_elem?}
use Rattle.atomic_table.specs.Table as table
use Rattle.atomic_table.proofs.Lists.{at_map, at_set, set_here, set_else}
use Rattle.and_model.specs.Prefixes.{IsPrefix}
use Rattle.and_model.specs.Store.{AreDistinct}
use Rattle.and_histories.specs.PlainTree.{Key, Cell, free, opened, opening, keys_in, left_of}
use Rattle.and_tree.specs.Few.{IsFew, IsCellOf, above_most, open_cells}
use Rattle.and_tree.specs.Sight.{About, Member, Sight, newcomer, newcomers_from, opener, dealing_left, dealing_right}
use Rattle.and_tree.specs.AtWork.{Held, AtWork, Works, team_at, all_members}
use Rattle.and_tree.specs.Kept.{Kept, IsSlotOf, words_of, cell_word, word_with}
use Rattle.and_tree.specs.Passes.{TreeId, fresh, fresh_from}

abbrev blank : Cell
blank = record { serial = 0; content = free }

abbrev first_cell : Cell
first_cell = record { serial = 1; content = opened [] }

abbrev pub opened_so : (teams : ℕ) → Held
opened_so teams = record { now = opening teams; history = [] }

-- ---- few keys

serials : (teams : ℕ) → 0 < teams → sum_by (λ (c : Cell). c.serial) (opening teams).cells ≡ 1
serials teams some_team =
    let n : ℕ = 8 * teams in
    let long = length-replicate n blank in
    let changed = sum_by-set (λ (c : Cell). c.serial) (replicate n blank) 0 first_cell blank (omega (arith, long, some_team)) in
    let none = sum_by-replicate (λ (c : Cell). c.serial) n blank in
    let first : (get_or (replicate n blank) 0 blank).serial ≡ 0 = ap (λ (c : Cell). c.serial) (get_or-replicate n 0 blank blank (omega (arith, some_team))) in
    omega (arith, changed, none, first)

opens : (teams : ℕ) → 0 < teams → open_cells (opening teams).cells ≡ 1
opens teams some_team =
    let n : ℕ = 8 * teams in
    let long = length-replicate n blank in
    let changed = sum_by-set (λ (c : Cell). length (keys_in c)) (replicate n blank) 0 first_cell blank (omega (arith, long, some_team)) in
    let none = sum_by-replicate (λ (c : Cell). length (keys_in c)) n blank in
    let first : length (keys_in (get_or (replicate n blank) 0 blank)) ≡ 0 =
    ap (λ (c : Cell). length (keys_in c)) (get_or-replicate n 0 blank blank (omega (arith, some_team))) in
    let all = length-flat_map keys_in (opening teams).cells in
    omega (arith, changed, none, first, all)

hands_empty : (teams : ℕ) → length (flat_map (λ (keys : List Key). keys) (opening teams).hands) ≡ 0
hands_empty teams =
    let all = length-flat_map (λ (keys : List Key). keys) (opening teams).hands in
    let none = sum_by-replicate (λ (keys : List Key). length keys) teams [] in
    omega (arith, all, none)

opening_few : (teams : ℕ) → 0 < teams → teams ≤ 16 → IsFew teams (opening teams)
opening_few teams some_team few =
    let hands = sum_by-replicate above_most teams [] in
    let one = serials teams some_team in
    let other = opens teams some_team in record {
      teams_are = length-replicate teams [];
      some_team = some_team;
      at_most = few;
      cells_are = length-set (replicate (8 * teams) blank) 0 first_cell ∙ length-replicate (8 * teams) blank;
      cells = All-set (IsCellOf teams) (replicate (8 * teams) blank) 0 first_cell (record { serial = omega arith; taken = tt })
          (All-replicate (IsCellOf teams) (8 * teams) blank (record { serial = omega arith; taken = tt }));
      bounded = omega (arith, hands, one, other);
    }

-- one key is left, the root's
pub one_left : (teams : ℕ) → 0 < teams → left_of (opening teams) ≡ 1
one_left teams some_team =
    let both = length-append (flat_map (λ (keys : List Key). keys) (opening teams).hands) (flat_map keys_in (opening teams).cells) in
    let hands = hands_empty teams in
    let cells = opens teams some_team in
    omega (arith, both, hands, cells)

-- ---- the passes

newcomers_long : (team count : ℕ) → length (newcomers_from team count) ≡ count
newcomers_long team zero = refl
newcomers_long team (suc count) = ap suc (newcomers_long (suc team) count)

newcomers_work : (a : About) (team count : ℕ) → team + count ≤ a.teams → All (Works a (opened_so a.teams)) (newcomers_from team count)
newcomers_work a team zero fits = λ i d within. absurd (omega (arith, within))
newcomers_work a team (suc count) fits =
    All-cons (Works a (opened_so a.teams)) (newcomer team) (newcomers_from (suc team) count)
    (record {
      team = omega (arith, fits);
      seen = ([], refl);
      own = refl;
      hand = sym (get_or-replicate a.teams team [] [] (omega (arith, fits)));
      at_cell = tt;
    })
    (newcomers_work a (suc team) count (omega (arith, fits)))

later_teams : (low team count : ℕ) → low < team → All (λ t. low ≢ t) (map team_at (newcomers_from team count))
later_teams low team zero less = λ i d within. absurd (omega (arith, within))
later_teams low team (suc count) less =
    All-cons (λ t. low ≢ t) team (map team_at (newcomers_from (suc team) count)) (λ e. absurd (omega (arith, less, e)))
    (later_teams low (suc team) count (omega (arith, less)))

newcomers_apart : (team count : ℕ) → AreDistinct (map team_at (newcomers_from team count))
newcomers_apart team zero = λ i j d before within. absurd (omega (arith, within))
newcomers_apart team (suc count) =
    AllPairs-cons (λ n k. n ≢ k) team (map team_at (newcomers_from (suc team) count)) (later_teams team (suc team) count (omega arith))
    (newcomers_apart (suc team) count)

some_newcomer : (count : ℕ) → 0 < count → (m : Member) × Contains (newcomers_from 0 count) m × (m.seen ≡ [])
some_newcomer zero some_team = absurd (omega (arith, some_team))
some_newcomer (suc count) some_team = (newcomer 0, (0, omega arith, refl), refl)

opens_at_work : (a : About) → 0 < a.teams → a.teams ≤ 16 → AtWork a (newcomers_from 0 a.teams) (opened_so a.teams)
opens_at_work a some_team few = record {
  carried = refl;
  few = opening_few a.teams some_team few;
  by_teams = λ i d within. absurd (omega (arith, within));
  each = newcomers_work a 0 a.teams (omega arith);
  distinct = newcomers_apart 0 a.teams;
  all_teams = newcomers_long 0 a.teams;
  seen = some_newcomer a.teams some_team;
}

-- ---- the words and the slots

at_replicate : {X : Type 0} (n i : ℕ) (x y : X) → get_elem? (replicate n x) i ≡ some y → (i < n) × (x ≡ y)
at_replicate zero i x y e = absurd (some-ne-none y (sym e))
at_replicate (suc n) zero x y e = (omega arith, some-injective x y e)
at_replicate (suc n) (suc i) x y e = let r = at_replicate n i x y e in let l = r.0 in (omega (arith, l), r.1)

replicate_at : {X : Type 0} (n i : ℕ) (x : X) → i < n → get_elem? (replicate n x) i ≡ some x
replicate_at zero i x below = absurd (omega (arith, below))
replicate_at (suc n) zero x below = refl
replicate_at (suc n) (suc i) x below = replicate_at n i x (omega (arith, below))

map-replicate : {X Y : Type 0} (f : X → Y) (n : ℕ) (x : X) → map f (replicate n x) ≡ replicate n (f x)
map-replicate f zero x = refl
map-replicate f (suc n) x = ap (λ l. f x ∷ l) (map-replicate f n x)

pub first_words_are : (teams : ℕ) → 0 < teams → words_of (opened_so teams) ≡ 1 ∷ word_with 1 1 ∷ replicate (8 * teams - 1) 0
first_words_are teams some_team = ap (λ n. n ∷ map cell_word (opening teams).cells) (one_left teams some_team)
    ∙ ap (λ l. 1 ∷ l) (cells_so (8 * teams) (omega (arith, some_team)))
  where
    cells_so : (n : ℕ) → 0 < n → map cell_word (set (replicate n blank) 0 first_cell) ≡ word_with 1 1 ∷ replicate (n - 1) 0
    cells_so zero some_cell = absurd (omega (arith, some_cell))
    cells_so (suc n) some_cell =
        let e : n ≡ suc n - 1 = omega arith in
        ap (λ l. word_with 1 1 ∷ l) (map-replicate cell_word n blank) ∙ ap (λ k. word_with 1 1 ∷ replicate k 0) e

pub words_built : (teams count held word : ℕ) (two all : List ℕ) → 0 < teams → count ≡ teams * 8 + 1 → two ≡ 1 ∷ word ∷ [] → word ≡ word_with 1 1
    → held ≡ length two
    → all ≡ take count two ++ replicate (count - held) 0 → all ≡ words_of (opened_so teams)
words_built teams count held word two all some_team long are is held_is all_are =
    let two_long : length two ≡ 2 = ap length are in
    let rest : count - held ≡ 8 * teams - 1 = omega (arith, long, held_is, two_long) in
    all_are ∙ ap (λ l. l ++ replicate (count - held) 0) (take_all count two (omega (arith, two_long, long, some_team)) ∙ are)
    ∙ ap (λ n. 1 ∷ word ∷ replicate n 0) rest ∙ ap (λ w. 1 ∷ w ∷ replicate (8 * teams - 1) 0) is ∙ sym (first_words_are teams some_team)

module _ {B : Type 0} (key_of : B → Key) (Stands : ℕ → B → Type 0) (a : About) (some_team : 0 < a.teams) (few : a.teams ≤ 16) (root : B)
    (stands : Stands a.limit root) (key_is : key_of root ≡ []) where
  abbrev slots : List (Option B)
  slots = set (replicate (8 * a.teams) None) 0 (Some root)

  abbrev s : List ℕ → table.State (Option B) Sight
  s words = table.opening words slots (opener a)

  slots_so : (words : List ℕ) (cell : ℕ) (c : Cell) → get_elem? (opening a.teams).cells cell ≡ some c
      → IsSlotOf key_of Stands a.limit (all_members (opener a ∷ [])) (s words) cell c.content
  slots_so words cell c is =
      ⊎_elim
      (λ (same : (cell ≡ 0) × (first_cell ≡ c)).
      subst (λ j. IsSlotOf key_of Stands a.limit (all_members (opener a ∷ [])) (s words) j c.content) (sym same.0)
      (subst (λ (d : Cell). IsSlotOf key_of Stands a.limit (all_members (opener a ∷ [])) (s words) 0 d.content) same.1 (
        root,
        at_map some slots 0 (Some root)
            (set_here (replicate (8 * a.teams) None) 0 (Some root) (let e = length-replicate {A = Option B} (8 * a.teams) None in omega (arith, e, some_team))),
        stands,
        key_is,
      )))
      (λ (other : (cell ≢ 0) × (get_elem? (replicate (8 * a.teams) blank) cell ≡ some c)).
      let r = at_replicate (8 * a.teams) cell blank c other.1 in
      subst (λ (d : Cell). IsSlotOf key_of Stands a.limit (all_members (opener a ∷ [])) (s words) cell d.content) r.1
      (inl (at_map some slots cell None (set_else (replicate (8 * a.teams) None) 0 cell (Some root) other.0 ∙ replicate_at (8 * a.teams) cell None r.0))))
      (at_set (replicate (8 * a.teams) blank) 0 cell first_cell c is)

  -- the table's rule holds at the opening
  pub opens_kept : (words : List ℕ) → words ≡ words_of (opened_so a.teams) → Kept key_of Stands a (s words)
  opens_kept words are = record {
    held = opened_so a.teams;
    words = are;
    slots = length-map slots some ∙ length-set (replicate (8 * a.teams) None) 0 (Some root) ∙ length-replicate (8 * a.teams) None;
    at_work = subst (λ l. AtWork a l (opened_so a.teams)) (sym (append-nil (newcomers_from 0 a.teams))) (opens_at_work a some_team few);
    slot = slots_so words;
    about = All-cons (λ (v : Sight). v.members ≢ [] → v.about ≡ a) (opener a) [] (λ some_member. refl) (λ i d within. absurd (omega (arith, within)));
    told = All-cons (λ (v : Sight). IsPrefix v.told []) (opener a) [] ([], refl) (λ i d within. absurd (omega (arith, within)));
  }

-- ---- the passes that are dealt out

pub fresh_long : (tree : TreeId) (team count : ℕ) → length (fresh_from tree team count) ≡ count
fresh_long tree team zero = refl
fresh_long tree team (suc count) = ap suc (fresh_long tree (suc team) count)

pub fresh_push : (tree : TreeId) (team count : ℕ) → fresh_from tree team count ++ fresh tree (team + count) ∷ [] ≡ fresh_from tree team (suc count)
fresh_push tree team zero = let e : team + 0 ≡ team = omega arith in ap (λ n. fresh tree n ∷ []) e
fresh_push tree team (suc count) =
    let e : team + suc count ≡ suc team + count = omega arith in
    ap (λ l. fresh tree team ∷ l) (ap (λ n. fresh_from tree (suc team) count ++ fresh tree n ∷ []) e ∙ fresh_push tree (suc team) count)

-- a seat with the passes of so many teams, from this one on
abbrev pub seat_from : About → (team count : ℕ) → Sight
seat_from a team count = record (opener a) { members = newcomers_from team count }

pub dealt_first : (a : About) (team count : ℕ) → 0 < count
    → dealing_right (seat_from a team count) ≡ record (opener a) { members = newcomer team ∷ [] }
dealt_first a team zero some_team = absurd (omega (arith, some_team))
dealt_first a team (suc count) some_team = refl

pub dealt_rest : (a : About) (team count next left : ℕ) → 0 < count → next ≡ team + 1 → left + 1 ≡ count
    → dealing_left (seat_from a team count) ≡ seat_from a next left
dealt_rest a team zero next left some_team e f = absurd (omega (arith, some_team))
dealt_rest a team (suc count) next left some_team e f =
    let one : suc team ≡ next = omega (arith, e) in
    let two : count ≡ left = omega (arith, f) in
    ap (λ n. seat_from a n count) one ∙ ap (seat_from a next) two

pub replicate_push : {X : Type 0} (n : ℕ) (x : X) → replicate n x ++ x ∷ [] ≡ replicate (suc n) x
replicate_push zero x = refl
replicate_push (suc n) x = ap (λ l. x ∷ l) (replicate_push n x)

pub one_more_fresh : (tree : TreeId) (team next : ℕ) → next ≡ suc team → fresh_from tree 0 team ++ fresh tree team ∷ [] ≡ fresh_from tree 0 next
one_more_fresh tree team next e =
    let same : 0 + team ≡ team = omega arith in
    ap (λ n. fresh_from tree 0 team ++ fresh tree n ∷ []) (sym same) ∙ fresh_push tree 0 team ∙ ap (fresh_from tree 0) (sym e)

pub set_first : {X : Type 0} (n k : ℕ) (x y : X) → 0 < n → n ≡ k + 1 → x ∷ replicate k y ≡ set (replicate n y) 0 x
set_first zero k x y some_place e = absurd (omega (arith, some_place))
set_first (suc n) k x y some_place e = let f : k ≡ n = omega (arith, e) in ap (λ j. x ∷ replicate j y) f
