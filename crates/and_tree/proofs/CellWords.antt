-- The words of a table: the live word, and behind it one for each cell.
use Rattle.std.proofs.Common.{ℕ, suc, ◌+◌, ◌-◌, ◌%◌, ◌^◌, ◌≡◌, ◌≤◌, ◌<◌, ◌∷◌, map, get_or, set, refl, sym, ap, ◌∙◌}
use Rattle.std.proofs.Common.{arith}
use Rattle.std.proofs.lemmas.List.{map-set}
use lib.ListN.{get_or-map}
use Rattle.and_histories.specs.PlainTree.{Key, Cell, Content, free, opened, taking, cell_of, left_of}
use Rattle.and_tree.specs.Few.{IsCellOf, IsTakenBy}
use Rattle.and_tree.specs.AtWork.{Held}
use Rattle.and_tree.specs.Kept.{content_word, word_with, cell_word, words_of}
use Rattle.and_tree.specs.Told.{added_by}

pub next_place : (cell : ℕ) → cell + 1 ≡ suc cell
next_place cell = omega arith

pub cell_found : (h : Held) (cell : ℕ) → get_or (words_of h) (cell + 1) 0 ≡ cell_word (cell_of h.now cell)
cell_found h cell = ap (λ i. get_or (words_of h) i 0) (next_place cell) ∙ get_or-map cell_word h.now.cells cell (record { serial = 0; content = free })

pub cell_set : (h : Held) (cell : ℕ) (c : Cell) (x : ℕ) → x ≡ cell_word c
    → set (words_of h) (cell + 1) x ≡ left_of h.now ∷ map cell_word (set h.now.cells cell c)
cell_set h cell c x is =
    ap (λ i. set (words_of h) i x) (next_place cell)
    ∙ ap (λ x. left_of h.now ∷ set (map cell_word h.now.cells) cell x) is
    ∙ ap (λ l. left_of h.now ∷ l) (sym (map-set cell_word h.now.cells cell c))

-- ---- what a word tells

-- what a cell holds takes less than 16 bits
pub content_small : (teams : ℕ) (c : Cell) → teams ≤ 16 → IsCellOf teams c → content_word c.content < 65536
content_small teams c few of_team = small c.content of_team.taken
  where
    small : (content : Content) → IsTakenBy teams content → content_word content < 65536
    small free by = omega arith
    small (opened key) by = omega arith
    small (taking team) by = omega (arith, by, few)

pub word_parts : (n k x y : ℕ) → x < 65536 → y < 65536 → word_with n x ≡ word_with k y → (n ≡ k) × (x ≡ y)
word_parts n k x y a b e = (omega (arith, a, b, e), omega (arith, a, b, e))

pub content_free : (content : Content) → content_word content ≡ 0 → content ≡ free
content_free free e = refl
content_free (opened key) e = absurd (omega (arith, e))
content_free (taking team) e = absurd (omega (arith, e))

pub content_opened : (content : Content) → content_word content ≡ 1 → (key : Key) × (content ≡ opened key)
content_opened free e = absurd (omega (arith, e))
content_opened (opened key) e = (key, refl)
content_opened (taking team) e = absurd (omega (arith, e))

-- A cell with the word of an open one is open.
pub open_so : (teams : ℕ) (c : Cell) (serial : ℕ) → teams ≤ 16 → IsCellOf teams c → cell_word c ≡ word_with serial 1
    → (key : Key) × (c ≡ record { serial = serial; content = opened key })
open_so teams c serial few of_team e =
    let parts = word_parts c.serial serial (content_word c.content) 1 (content_small teams c few of_team) (omega arith) e in
    let key = content_opened c.content parts.1 in
    (key.0, λ i. record { serial = parts.0 i; content = key.1 i })

-- ---- the live word

-- A fork takes one key, and brings so many.
pub live_forked : (before after clauses : ℕ) → after + 1 ≡ before + clauses → before < 2 ^ 63 → after < 2 ^ 63
    → (before + added_by clauses) % 2 ^ 64 ≡ after
live_forked before after clauses e few few_now = omega (arith, e, few, few_now)

pub live_ended : (before after : ℕ) → after + 1 ≡ before → before < 2 ^ 63 → (before + (2 ^ 64 - 1)) % 2 ^ 64 ≡ after
live_ended before after e few = omega (arith, e, few)
