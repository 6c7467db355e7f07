-- Entries in the order of their codes, each of which is kept as what it has behind the one before it.
use Rattle.std.specs.Prelude.{ℕ, ◌≡◌, ◌≢◌, ◌≤◌, List, [], ◌∷◌, ◌++◌, length, take, drop, map, reverse}
use Rattle.std.specs.List.Sorted.{IsPermutation}
use Rattle.and_answers.specs.Tails.{MayFollow}
use Rattle.and_answers.specs.declared.found.Entry.{Entry}
use Rattle.and_answers.specs.declared.tail.Tail.{Tail}

-- the clauses of a tail
abbrev pub clauses_of : Tail → List ℕ
clauses_of tail = drop tail.from tail.rest

-- The code of the entry is what it has from this code and then the clauses of the tail, and comes no sooner.
pub record IsBehind (last : List ℕ) (tail : Tail) : Type 0 where
  pub within : tail.common ≤ length last
  pub code_is : tail.entry.code.value ≡ take tail.common last ++ clauses_of tail
  pub follows : MayFollow (drop tail.common last) (clauses_of tail)

-- So it stands, or has nothing from this code.
pub record IsPut (last : List ℕ) (tail : Tail) : Type 0 where
  pub within : tail.common ≤ length last
  pub code_is : tail.entry.code.value ≡ take tail.common last ++ clauses_of tail
  pub follows : tail.common ≢ 0 → MayFollow (drop tail.common last) (clauses_of tail)

-- The first stands behind this code, and each other behind the one before it.
abbrev pub Rises : List ℕ → List Tail → Type 0
Rises last [] = Unit {0}
Rises last (tail ∷ tails) = IsBehind last tail × Rises tail.entry.code.value tails

-- the entries, in the order of the tails
abbrev pub entries_of : List Tail → List Entry
entries_of tails = map (λ (t : Tail). t.entry) tails

-- Of two stacks of tails this one was taken, behind which both go on.
pub record IsTakenOff (tail : Tail) (one other new others : List Tail) : Type 0 where
  pub rises : (last : List ℕ) → Rises last (reverse one) → Rises last (reverse other)
      → IsBehind last tail × Rises tail.entry.code.value (reverse new) × Rises tail.entry.code.value (reverse others)
  pub same : IsPermutation (entries_of one ++ entries_of other) (tail.entry ∷ (entries_of new ++ entries_of others))
