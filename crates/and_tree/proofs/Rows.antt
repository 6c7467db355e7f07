-- A worked row, carried out by the plain tree of the definitions: the calls that two teams make on a shared tree.
use Rattle.std.proofs.Common.{◌≡◌, List, [], ◌∷◌, refl, ap, subst, arith, true}
use Rattle.and_histories.specs.PlainTree.{Key, Cell, Content, free, opened, taking, Event, look, claim, clear, publish, end, left, Reply, seen}
use Rattle.and_histories.specs.PlainTree.{taken, moved, cleared, done, last, number, seen_free, seen_open, retired, looks, takes}
use Rattle.and_histories.specs.PlainTree.{misses, clears, publishes, ends, counts}
use Rattle.and_histories.specs.Histories.{HistoryEntry, Legal}
use Rattle.and_tree.specs.Plain.{none_yet}
use Rattle.and_tree.specs.Passes.{tally_of}

abbrev entry : Event → Reply → HistoryEntry
entry event reply = record { event = event; reply = reply }

-- Teams 0 and 1: team 0 claims the root, and publishes it in its cell 1; team 1 finds the first cell free, claims the other, and retires the key.
abbrev row : List HistoryEntry
row =
    entry (left 0) (number 1) ∷ entry (look 0 0) (seen (seen_open 1)) ∷ entry (claim 0 0 1) (taken []) ∷ entry (clear 0 0) cleared
    ∷ entry (claim 1 0 1) (moved seen_free) ∷ entry (publish 0 1 []) done ∷ entry (claim 1 1 1) (taken []) ∷ entry (clear 1 1) cleared
    ∷ entry (end 1 [] retired) (last true) ∷ entry (left 1) (number 0) ∷ []

abbrev is_free : Content → Type 0
is_free free = Unit {0}
is_free (opened key) = ⊥
is_free (taking team) = ⊥

free_is_not_open : (key : Key) → free ≡ opened key → ⊥
free_is_not_open key e = subst is_free e tt

row_is_legal : Legal 2 row
row_is_legal = (
  _,
  (
    _,
    counts 0 (omega arith),
    (
      _,
      looks 0 0 (omega arith) (omega arith),
      (
        _,
        takes 0 0 1 [] (omega arith) refl,
        (
          _,
          clears 0 0 refl,
          (
            _,
            misses 1 0 1 (omega arith) (omega arith) (λ key e. free_is_not_open key (ap (λ (c : Cell). c.content) e)),
            (
              _,
              publishes 0 1 [] (omega arith) (omega arith, omega arith) (0, omega arith, refl) (λ e. absurd (omega (arith, e))) refl,
              (
                _,
                takes 1 1 1 [] (omega arith) refl,
                (
                  _,
                  clears 1 1 refl,
                  (
                    _,
                    ends 1 [] retired (0, omega arith, refl),
                    (
                      _,
                      counts 1 (omega arith),
                      refl,
                    ),
                  ),
                ),
              ),
            ),
          ),
        ),
      ),
    ),
  ),
)

-- What it counts: one key that was retired.
row_counts : tally_of row ≡ record none_yet { retired = 1 }
row_counts = refl
