-- The plain choicepoint tree, tried on direct calls with a tree of two teams. (The tree has no call by which teams
-- meet, and no event stands for one.)
use Rattle.std.specs.Prelude.{ℕ, true, List, [], ◌∷◌}
use Rattle.and_histories.specs.PlainTree
use Rattle.and_histories.specs.PlainTree.{State, opened, taking, Reply, retired, forked, not_free, seen_free}
use Rattle.and_histories.specs.PlainTree.{seen_open, seen_taking, taken, moved, done, seen, cleared, last, number}
use Rattle.and_histories.specs.PlainTree.{opening, with_cell, joined}
use Rattle.and_histories.specs.Histories.{HistoryEntry}

-- the one key
abbrev pub root : List ℕ
root = []

abbrev pub entry : PlainTree.Event → Reply → HistoryEntry
entry event reply = record { event = event; reply = reply }

-- a claim that takes is followed by the clearing of its cell
abbrev pub history : List HistoryEntry
history =
    entry (PlainTree.left 0) (number 1)
    ∷ entry (PlainTree.look 0 0) (seen (seen_open 1))
    ∷ entry (PlainTree.claim 0 0 1) (taken root)
    ∷ entry (PlainTree.clear 0 0) cleared
    ∷ entry (PlainTree.claim 1 0 1) (moved seen_free)
    ∷ entry (PlainTree.publish 0 1 root) done
    ∷ entry (PlainTree.claim 1 1 1) (taken root)
    ∷ entry (PlainTree.clear 1 1) cleared
    ∷ entry (PlainTree.end 1 root retired) (last true)
    ∷ entry (PlainTree.left 0) (number 0)
    ∷ []

abbrev pub opened_tree : State
opened_tree = opening 2

abbrev pub in_hand : State
in_hand = with_cell (joined opened_tree 0 root) 0 1 (taking 0)

-- A branch is taken once: a second claim of the cell can't be answered by the key.
abbrev pub claimed_twice : List HistoryEntry
claimed_twice =
    entry (PlainTree.claim 0 0 1) (taken root)
    ∷ entry (PlainTree.claim 1 0 1) (taken root)
    ∷ []

-- The end of a key is not the last while another lies in an open cell.
abbrev pub two_keys : State
two_keys = record {
  hands = ((1 ∷ []) ∷ []) ∷ [];
  cells = record { serial = 2; content = opened (2 ∷ []) } ∷ [];
}

-- One team claims the root and forks it by clauses 1 and 2.
-- The cell is not free while the branch is being taken out, nor once the key [2] lies there.
abbrev pub forking : List HistoryEntry
forking =
    entry (PlainTree.claim 0 0 1) (taken root)
    ∷ entry (PlainTree.fork 0 root root (1 ∷ 2 ∷ [])) forked
    ∷ entry (PlainTree.publish 0 0 (2 ∷ [])) (not_free (seen_taking 0 1))
    ∷ entry (PlainTree.clear 0 0) cleared
    ∷ entry (PlainTree.publish 0 0 (2 ∷ [])) done
    ∷ entry (PlainTree.publish 0 0 (1 ∷ [])) (not_free (seen_open 2))
    ∷ entry (PlainTree.left 0) (number 2)
    ∷ []

-- a team with the key [1], whose one cell is free and was opened so often
abbrev pub opened_often : ℕ → State
opened_often times = record {
  hands = ((1 ∷ []) ∷ []) ∷ [];
  cells = record { serial = times; content = PlainTree.free } ∷ [];
}
