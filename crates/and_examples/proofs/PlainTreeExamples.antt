-- The plain choicepoint tree, tried on direct calls with a tree of two teams. (The tree has no call by which teams meet, and no event stands for one.)
use Rattle.std.proofs.Common.{◌≡◌, ◌≢◌, true, [], ◌∷◌, refl, ap, arith}
use Rattle.and_histories.specs.PlainTree
use Rattle.and_histories.specs.PlainTree.{Cell, State, opened, taking, Reply, Does, retired, seen_open, taken, done, spent, cell_of, last_serial, seen}
use Rattle.and_histories.specs.PlainTree.{cleared, last, number, opening, with_cell, joined, with_keys, keys_left, children}
use Rattle.and_histories.specs.Histories.{Legal, calls}
use Rattle.and_examples.specs.PlainTreeExamples.{root, entry, history, opened_tree, in_hand, claimed_twice, two_keys, forking, opened_often}

abbrev is_cleared : State
is_cleared = with_cell in_hand 0 1 PlainTree.free

abbrev published : State
published = with_cell (with_keys is_cleared 0 root []) 1 1 (opened root)

abbrev in_other_hand : State
in_other_hand = with_cell (joined published 1 root) 1 1 (taking 1)

abbrev is_cleared_again : State
is_cleared_again = with_cell in_other_hand 1 1 PlainTree.free

abbrev ended : State
ended = with_keys is_cleared_again 1 root []

pub history_is_legal : Legal 2 history
history_is_legal = (
  ended,
  (
    opened_tree,
    Does.counts 0 (omega arith),
    (
      opened_tree,
      Does.looks 0 0 (omega arith) (omega arith),
      (
        in_hand,
        Does.takes 0 0 1 root (omega arith) refl,
        (
          is_cleared,
          Does.clears 0 0 refl,
          (
            is_cleared,
            Does.misses 1 0 1 (omega arith) (omega arith) (λ key e. let f : PlainTree.free ≡ opened key = ap (λ (c : Cell). c.content) e in cc),
            (
              published,
              Does.publishes 0 1 root (omega arith) (omega arith, omega arith) (0, omega arith, refl) (λ e. omega arith) refl,
              (
                in_other_hand,
                Does.takes 1 1 1 root (omega arith) refl,
                (
                  is_cleared_again,
                  Does.clears 1 1 refl,
                  (
                    ended,
                    Does.ends 1 root retired (0, omega arith, refl),
                    (
                      ended,
                      Does.counts 0 (omega arith),
                      refl,
                    ),
                  ),
                ),
              ),
            ),
          ),
        ),
      ),
    ),
  ),
)

-- of these the first team made six, the second four
pub first_calls : calls history 0 ≡
    entry (PlainTree.left 0) (number 1)
    ∷ entry (PlainTree.look 0 0) (seen (seen_open 1))
    ∷ entry (PlainTree.claim 0 0 1) (taken root)
    ∷ entry (PlainTree.clear 0 0) cleared
    ∷ entry (PlainTree.publish 0 1 root) done
    ∷ entry (PlainTree.left 0) (number 0)
    ∷ []
first_calls = refl

pub claimed_twice_is_illegal : Legal 2 claimed_twice → ⊥
claimed_twice_is_illegal legal =
    let (s, (one, first, (two, second, e))) = legal in
    not_again one two first second
  where
    not_again : (one two : State) → Does (opening 2) (PlainTree.claim 0 0 1) (taken root) one → Does one (PlainTree.claim 1 0 1) (taken root) two → ⊥
    not_again one two (Does.takes _ _ _ _ _ _) (Does.takes _ _ _ _ _ is_open) = let e : taking 0 ≡ opened root = ap (λ (c : Cell). c.content) is_open in cc

pub last_is_told : (after : State) → Does two_keys (PlainTree.end 0 (1 ∷ []) retired) (last true) after → ⊥
last_is_told after does = of_reply (last true) after refl does
  where
    of_reply : (reply : Reply) (after : State) → reply ≡ last true → Does two_keys (PlainTree.end 0 (1 ∷ []) retired) reply after → ⊥
    of_reply reply after is (Does.ends _ _ _ _) = cc

-- The root that two clauses fork leaves two keys.
pub forked_keys : keys_left (with_keys in_hand 0 root (children root (1 ∷ 2 ∷ []))) ≡ (1 ∷ []) ∷ (2 ∷ []) ∷ []
forked_keys = refl

-- ---- A fork, and publications that find the cell not free.
abbrev claimed : State
claimed = with_cell (joined (opening 1) 0 root) 0 1 (taking 0)

abbrev two_in_hand : State
two_in_hand = with_keys claimed 0 root (children root (1 ∷ 2 ∷ []))

abbrev cleared_cell : State
cleared_cell = with_cell two_in_hand 0 1 PlainTree.free

abbrev second_open : State
second_open = with_cell (with_keys cleared_cell 0 (2 ∷ []) []) 0 2 (opened (2 ∷ []))

pub forking_is_legal : Legal 1 forking
forking_is_legal =
    let not_while_taken : (cell_of two_in_hand 0).content ≢ PlainTree.free = λ e. let f : taking 0 ≡ PlainTree.free = e in cc in
    let not_while_open : (cell_of second_open 0).content ≢ PlainTree.free = λ e. let f : opened (2 ∷ []) ≡ PlainTree.free = e in cc in (
      second_open,
      (
        claimed,
        Does.takes 0 0 1 root (omega arith) refl,
        (
          two_in_hand,
          Does.forks 0 root root (1 ∷ 2 ∷ []) (0, omega arith, refl) ([], refl),
          (
            two_in_hand,
            Does.finds_not_free 0 0 (2 ∷ []) (omega arith) (omega arith, omega arith) (1, omega arith, refl)
                (λ e. omega arith) not_while_taken,
            (
              cleared_cell,
              Does.clears 0 0 refl,
              (
                second_open,
                Does.publishes 0 0 (2 ∷ []) (omega arith) (omega arith, omega arith) (1, omega arith, refl) (λ e. omega arith) refl,
                (
                  second_open,
                  Does.finds_not_free 0 0 (1 ∷ []) (omega arith) (omega arith, omega arith) (0, omega arith, refl)
                      (λ e. omega arith) not_while_open,
                  (
                    second_open,
                    Does.counts 0 (omega arith),
                    refl,
                  ),
                ),
              ),
            ),
          ),
        ),
      ),
    )

-- A cell at its last serial is opened no more, though it is free.
pub spent_at_last : Does (opened_often last_serial) (PlainTree.publish 0 0 (1 ∷ [])) spent (opened_often last_serial)
spent_at_last = Does.finds_spent 0 0 (1 ∷ []) (omega arith) (omega arith, omega arith) (0, omega arith, refl) refl

pub not_opened_then : (after : State) → Does (opened_often last_serial) (PlainTree.publish 0 0 (1 ∷ [])) done after → ⊥
not_opened_then after (Does.publishes _ _ _ _ _ _ unspent _) = unspent refl
