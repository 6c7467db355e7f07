-- The state of a branch: what its tree allows next (the basic Andorra model: Santos Costa, Warren and Yang, 1991; the
-- limit is this project's own).
use Rattle.std.specs.Prelude.{ℕ, ◌+◌, ◌<◌, ◌≤◌, ◌≡◌, ◌≢◌, ◌↔◌, List, [], ◌∷◌, ◌++◌, Option, Some, None, AllPairs}
use Rattle.std.specs.Prelude.{Contains}
use Rattle.std.proofs.Common.{inl, inr}
use Rattle.and_model.specs.Terms.{Path}
use Rattle.and_model.specs.Solutions.{Equation, Solvable}
use Rattle.and_model.specs.Programs.{Program, Arithmetic, clause_at, clause_weight}
use Rattle.and_model.specs.Trees.{Agenda, Tree, QueryTree, done, left, by, equate, reckon, Open, IsLeftmost, IsWhole}
use Rattle.and_model.specs.Trees.{Closed, path, weight}
use Rattle.and_model.specs.Reached.{CandidateOf, Shut, Dead}
use Rattle.and_model.specs.Reductions.{Reduction, PlaceHas, Makes}
use Rattle.and_model.specs.Limits.{Cut, query_alone, at_goal}
use Rattle.and_model.specs.Stands.{ClauseHas}
use Rattle.and_model.specs.declared.goal.Goal.{Goal}

-- the one open goal stands before the other, in preorder
abbrev pub IsBefore : {P : Program} {ag : Agenda} (t : Tree P ag) → Open t → Open t → Type 0
IsBefore done o p = ⊥
IsBefore (left t) (inl u) (inl v) = ⊥
IsBefore (left t) (inl u) (inr p) = Unit {0}
IsBefore (left t) (inr o) (inl v) = ⊥
IsBefore (left t) (inr o) (inr p) = IsBefore t o p
IsBefore (by c h t) o p = IsBefore t o p
IsBefore (equate t) o p = IsBefore t o p
IsBefore (reckon t) o p = IsBefore t o p

-- the clause is the only candidate of the goal, under these closed equations
abbrev pub IsSole : {P : Program} {ag : Agenda} (t : Tree P ag) → List Equation → Open t → ℕ → Type 0
IsSole t es o c = CandidateOf t es o c × ((d : ℕ) → CandidateOf t es o d → d ≡ c)

-- with the clause the tree weighs at most the limit
abbrev pub Fits : {P : Program} → ℕ → QueryTree P → ℕ → Type 0
Fits {P} limit t c = weight t + clause_weight (clause_at P c) ≤ limit

-- The closed equations have a solution, and every open goal has a candidate.
abbrev pub Lives : {P : Program} {ag : Agenda} (t : Tree P ag) → List Equation → List Arithmetic → Type 0
Lives t es gs = Closed t es gs × Solvable es × ((o : Open t) → (c : ℕ) × CandidateOf t es o c)

-- The tree is Shut, and this is its leftmost open goal, under these closed equations.
abbrev pub ShutAt : {P : Program} {ag : Agenda} (t : Tree P ag) → Open t → List Equation → List Arithmetic → Type 0
ShutAt t o es gs = Shut t × IsLeftmost t o × Closed t es gs

-- No clause so named, or the first of them.
abbrev pub IsFirst : (ℕ → Type 0) → Option ℕ → Type 0
IsFirst A None = (c : ℕ) → A c → ⊥
IsFirst A (Some c) = A c × ((d : ℕ) → A d → c ≤ d)

-- the cases of a state
pub data State {P : Program} (t : QueryTree P) : Type 0 where
  failed : State t
  -- the goal's one candidate
  determinate : Open t → ℕ → State t
  -- the goal's one candidate is too heavy, or all candidates of the leftmost goal are, of which this is the first
  over_one : Open t → ℕ → State t
  over_all : Open t → ℕ → State t
  -- the leftmost goal, its candidates that fit, and the first that does not
  fork : Open t → List ℕ → Option ℕ → State t
  floundered : State t
  answer : State t

-- StateOf P limit t s: the state of the tree under the limit, judged in this order.
abbrev pub StateOf : (P : Program) (limit : ℕ) (t : QueryTree P) → State t → Type 0
-- Its closed equations have no solution, or some open goal has no candidate.
StateOf P limit t failed = Dead t
-- Else some open goal has one candidate alone, which fits: the leftmost such goal.
StateOf P limit t (determinate o c) =
    (es : List Equation) × (gs : List Arithmetic) × Lives t es gs × IsSole t es o c × Fits limit t c
    × ((p : Open t) (d : ℕ) → IsBefore t p o → IsSole t es p d → Fits limit t d → ⊥)
-- Else some open goal has one candidate alone: the leftmost such goal.
StateOf P limit t (over_one o c) =
    (es : List Equation) × (gs : List Arithmetic) × Lives t es gs
    × ((p : Open t) (d : ℕ) → IsSole t es p d → Fits limit t d → ⊥)
    × IsSole t es o c
    × ((p : Open t) (d : ℕ) → IsBefore t p o → IsSole t es p d → ⊥)
-- Else there is an open goal, and no candidate of the leftmost one fits.
StateOf P limit t (over_all o c) =
    (es : List Equation) × (gs : List Arithmetic) × ShutAt t o es gs
    × ((d : ℕ) → CandidateOf t es o d → Fits limit t d → ⊥)
    × IsFirst (λ d. CandidateOf t es o d) (Some c)
-- Else there is an open goal.
StateOf P limit t (fork o cs cut) =
    (es : List Equation) × (gs : List Arithmetic) × ShutAt t o es gs × (cs ≢ []) × AllPairs (λ c d. c < d) cs
    × ((c : ℕ) → Contains cs c ↔ (CandidateOf t es o c × Fits limit t c))
    × IsFirst (λ d. CandidateOf t es o d × (Fits limit t d → ⊥)) cut
-- Else arithmetic is still waiting,
StateOf P limit t floundered = (es : List Equation) × (gs : List Arithmetic) × Closed t es gs × Solvable es
    × IsWhole t × (gs ≢ [])
-- or not.
StateOf P limit t answer = (es : List Equation) × (gs : List Arithmetic) × Closed t es gs × Solvable es
    × IsWhole t × (gs ≡ [])

-- What was cut off, as the run-time has it: a tree by its reductions, an open goal of it, and a clause. For a query
-- that is too heavy by itself there is no tree: no reductions, the query's number for the clause, and each number of
-- the goal 0.
abbrev pub IsCut : {P : Program} → List Reduction → Goal → (clause : ℕ) → Cut P → Type 0
IsCut rs g c query_alone = (rs ≡ []) × (c ≡ 0)
    × (g ≡ record { node = 0; item = 0; clause = record { 0 = 0 }; base = 0 })
IsCut {P} rs g c (at_goal t o d) = Makes P rs t × (d ≡ c) × (q : Path) × PlaceHas rs g.node q
    × ClauseHas rs g.node g.clause.0
    × (path t o ≡ q ++ g.item ∷ [])
