-- The trees that the engine's reductions lead to, from the query on (the basic Andorra model: Santos Costa, Warren
-- and Yang, 1991). Goals with one candidate are reduced first, wherever they stand. Where there is none, the leftmost
-- goal is tried with each of its candidates.
use Rattle.std.specs.Prelude.{ℕ, ◌+◌, ◌<◌, ◌≤◌, ◌≡◌, ◌≢◌, ◌⊎◌, ◌↔◌, List, [], ◌∷◌, ◌++◌, AllPairs, Contains}
use Rattle.and_model.specs.Solutions.{Equation, Solvable}
use Rattle.and_model.specs.Programs.{Program, Arithmetic, Of}
use Rattle.and_model.specs.Candidates.{Candidate}
use Rattle.and_model.specs.Trees.{Agenda, Tree, QueryTree, query_agenda, blank, Open, IsLeftmost, IsWhole, path}
use Rattle.and_model.specs.Trees.{call_of, decided, reduce, weight, Closed}

-- a candidate of an open goal of a tree, under these closed equations
abbrev pub CandidateOf : {P : Program} {ag : Agenda} (t : Tree P ag) → List Equation → Open t → ℕ → Type 0
CandidateOf {P} t es o c = Candidate P es (path t o) (call_of t o) c

-- One open goal is reduced by a clause of its predicate, and no other clause is a candidate of that goal.
abbrev pub Step : {P : Program} {ag : Agenda} → Tree P ag → Tree P ag → Type 0
Step {P} t next =
    (es : List Equation) × (gs : List Arithmetic) × Closed t es gs × (o : Open t) × (c : ℕ)
    × (h : Of P (call_of t o) c) × (next ≡ reduce t o c h)
    × ((d : ℕ) → CandidateOf t es o d → d ≡ c)

-- The closed equations have a solution, and every open goal has at least two candidates.
abbrev pub Shut : {P : Program} {ag : Agenda} → Tree P ag → Type 0
Shut t =
    (es : List Equation) × (gs : List Arithmetic) × Closed t es gs × Solvable es
    × ((o : Open t) → (c : ℕ) × (d : ℕ) × (c ≢ d) × CandidateOf t es o c × CandidateOf t es o d)

-- The closed equations have no solution, or some open goal has no candidate.
abbrev pub Dead : {P : Program} {ag : Agenda} → Tree P ag → Type 0
Dead t =
    (es : List Equation) × (gs : List Arithmetic) × Closed t es gs
    × ((Solvable es → ⊥) ⊎ ((o : Open t) × ((c : ℕ) → CandidateOf t es o c → ⊥)))

-- Split t c next: the tree is Shut, and its leftmost open goal is reduced by its candidate c.
abbrev pub Split : {P : Program} {ag : Agenda} → Tree P ag → ℕ → Tree P ag → Type 0
Split {P} t c next =
    Shut t × (es : List Equation) × (gs : List Arithmetic) × Closed t es gs × (o : Open t) × IsLeftmost t o
    × (h : Of P (call_of t o) c) × CandidateOf t es o c
    × (next ≡ reduce t o c h)

-- ReachedBy P limit key t: the tree comes from the query by Steps and Splits, all of these trees weighing at most the
-- limit. The key is empty where no Split was made. Otherwise it is what was decided where the last Split was made,
-- and then its clause.
pub data ReachedBy (P : Program) (limit : ℕ) : List ℕ → QueryTree P → Type 0 where
  start : weight (blank {P = P} (query_agenda P)) ≤ limit → ReachedBy P limit [] (blank (query_agenda P))
  stepped : (key : List ℕ) (t next : QueryTree P) → ReachedBy P limit key t → Step t next → weight next ≤ limit
      → ReachedBy P limit key next
  divided : (key : List ℕ) (t : QueryTree P) (c : ℕ) (next : QueryTree P) → ReachedBy P limit key t → Split t c next
      → weight next ≤ limit → ReachedBy P limit (decided t ++ c ∷ []) next

-- the tree comes so, whatever the key
abbrev pub Reached : (P : Program) → ℕ → QueryTree P → Type 0
Reached P limit t = (key : List ℕ) × ReachedBy P limit key t

-- zero or more Steps
pub data Steps {P : Program} {ag : Agenda} : Tree P ag → Tree P ag → Type 0 where
  none : (t : Tree P ag) → Steps t t
  more : (t u next : Tree P ag) → Steps t u → Step u next → Steps t next

-- the clauses by which a Shut tree is split, in textual order
abbrev pub SplitClauses : {P : Program} {ag : Agenda} → Tree P ag → List ℕ → Type 0
SplitClauses {P} {ag} t cs = AllPairs (λ c d. c < d) cs
    × ((c : ℕ) → Contains cs c ↔ ((next : Tree P ag) × Split t c next))

mutual
  -- Numbers t forks failed: the Shut trees with open goals at which the exploration of the tree forks, and the Dead
  -- trees at which it fails.
  pub data Numbers {P : Program} {ag : Agenda} : Tree P ag → ℕ → ℕ → Type 0 where
    dead : (t end : Tree P ag) → Steps t end → Dead end → Numbers t 0 1
    whole : (t end : Tree P ag) → Steps t end → Shut end → IsWhole end → Numbers t 0 0
    forked : (t end : Tree P ag) (cs : List ℕ) (forks failed : ℕ) → Steps t end → Shut end → Open end
        → SplitClauses end cs → NumbersOfSplits end cs forks failed → Numbers t (1 + forks) failed

  -- the sums over the splits by these clauses
  pub data NumbersOfSplits {P : Program} {ag : Agenda} : Tree P ag → List ℕ → ℕ → ℕ → Type 0 where
    none : (t : Tree P ag) → NumbersOfSplits t [] 0 0
    more : (t next : Tree P ag) (c : ℕ) (cs : List ℕ) (forks failed more_forks more_failed : ℕ) → Split t c next
        → Numbers next forks failed → NumbersOfSplits t cs more_forks more_failed
        → NumbersOfSplits t (c ∷ cs) (forks + more_forks) (failed + more_failed)

-- a fork: the key under which it was come to, what is decided there, and the candidates of the leftmost open goal
pub record Fork : Type 0 where
  pub key : List ℕ
  pub decided : List ℕ
  pub candidates : List ℕ

mutual
  -- Forks t key forks: all forks of the exploration of the tree, which has this key, in textual order.
  pub data Forks {P : Program} {ag : Agenda} : Tree P ag → List ℕ → List Fork → Type 0 where
    ended : (t end : Tree P ag) (key : List ℕ) → Steps t end → Dead end ⊎ (Shut end × IsWhole end) → Forks t key []
    forked : (t end : Tree P ag) (key cs : List ℕ) (forks : List Fork) → Steps t end → Shut end → Open end
        → SplitClauses end cs → ForksOfSplits end cs forks
        → Forks t key (record { key = key; decided = decided end; candidates = cs } ∷ forks)

  -- those of the splits by these clauses, one after another
  pub data ForksOfSplits {P : Program} {ag : Agenda} : Tree P ag → List ℕ → List Fork → Type 0 where
    none : (t : Tree P ag) → ForksOfSplits t [] []
    more : (t next : Tree P ag) (c : ℕ) (cs : List ℕ) (forks more_forks : List Fork) → Split t c next
        → Forks next (decided t ++ c ∷ []) forks → ForksOfSplits t cs more_forks
        → ForksOfSplits t (c ∷ cs) (forks ++ more_forks)
