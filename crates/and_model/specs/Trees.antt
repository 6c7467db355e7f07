-- Unfoldings of a query, in which some calls may be left open (SLD derivations, Lloyd, section 7; partial trees of
-- the basic Andorra model).
use Rattle.std.proofs.Common.{inl, inr}
use Rattle.std.specs.Prelude.{ℕ, suc, ◌+◌, ◌≡◌, true, false, List, [], ◌∷◌, ◌++◌, ◌⊎◌, Option, Some, None, refl}
use Rattle.and_model.specs.Terms.{Path, Term, framed}
use Rattle.and_model.specs.Solutions.{Equation, Solvable, falsehood}
use Rattle.and_model.specs.Programs.{Program, Item, call, equal, arithmetic, fail, Arithmetic, clause_at}
use Rattle.and_model.specs.Programs.{clause_weight, is_of, Of, head_in, arithmetic_in}
use Rattle.and_model.specs.Closure.{Closes}

-- What is to be done, from left to right. A call carries the path of the clause that will take it.
pub data Agenda : Type 0 where
  end : Agenda
  goal : Path → Term → Agenda → Agenda
  equation : Term → Term → Agenda → Agenda
  reckoning : Arithmetic → Agenda → Agenda

-- the items of a body in the frame q, numbered from i on, before the rest
abbrev pub agenda : Path → ℕ → List Item → Agenda → Agenda
agenda q i [] rest = rest
agenda q i (call t ∷ items) rest = goal (q ++ i ∷ []) (framed q t) (agenda q (suc i) items rest)
agenda q i (equal a b ∷ items) rest = equation (framed q a) (framed q b) (agenda q (suc i) items rest)
agenda q i (arithmetic a ∷ items) rest = reckoning (arithmetic_in q a) (agenda q (suc i) items rest)
agenda q i (fail ∷ items) rest = equation falsehood.0 falsehood.1 (agenda q (suc i) items rest)

-- A partial tree goes through what is to be done from left to right. A call is left open, or taken by a clause of its
-- predicate, whose body then comes first.
pub data Tree (P : Program) : Agenda → Type 0 where
  done : Tree P end
  left : {q : Path} {g : Term} {rest : Agenda} → Tree P rest → Tree P (goal q g rest)
  by : {q : Path} {g : Term} {rest : Agenda} → (c : ℕ) → Of P g c → Tree P (agenda q 0 (clause_at P c).body rest)
      → Tree P (goal q g rest)
  equate : {a b : Term} {rest : Agenda} → Tree P rest → Tree P (equation a b rest)
  reckon : {a : Arithmetic} {rest : Agenda} → Tree P rest → Tree P (reckoning a rest)

-- Its equations: each taken call with the head that took it, and those of the bodies.
abbrev pub equations : {P : Program} {ag : Agenda} → Tree P ag → List Equation
equations done = []
equations (left t) = equations t
equations {P} (by {q = q} {g = g} c h t) = (g, head_in P q c) ∷ equations t
equations (equate {a = a} {b = b} t) = (a, b) ∷ equations t
equations (reckon t) = equations t

-- its arithmetic goals, in preorder
abbrev pub arithmetics : {P : Program} {ag : Agenda} → Tree P ag → List Arithmetic
arithmetics done = []
arithmetics (left t) = arithmetics t
arithmetics (by c h t) = arithmetics t
arithmetics (equate t) = arithmetics t
arithmetics (reckon {a = a} t) = a ∷ arithmetics t

-- what the clauses that took calls weigh
abbrev pub taken_weight : {P : Program} {ag : Agenda} → Tree P ag → ℕ
taken_weight done = 0
taken_weight (left t) = taken_weight t
taken_weight {P} (by c h t) = clause_weight (clause_at P c) + taken_weight t
taken_weight (equate t) = taken_weight t
taken_weight (reckon t) = taken_weight t

-- no call is left
abbrev pub IsWhole : {P : Program} {ag : Agenda} → Tree P ag → Type 0
IsWhole done = Unit {0}
IsWhole (left t) = ⊥
IsWhole (by c h t) = IsWhole t
IsWhole (equate t) = IsWhole t
IsWhole (reckon t) = IsWhole t

-- the clauses in preorder
abbrev pub code : {P : Program} {ag : Agenda} → Tree P ag → List ℕ
code done = []
code (left t) = code t
code (by c h t) = c ∷ code t
code (equate t) = code t
code (reckon t) = code t

-- the clauses in preorder, up to the leftmost call that is left
abbrev pub decided : {P : Program} {ag : Agenda} → Tree P ag → List ℕ
decided done = []
decided (left t) = []
decided (by c h t) = c ∷ decided t
decided (equate t) = decided t
decided (reckon t) = decided t

-- an open goal of the tree: a call that is left
abbrev pub Open : {P : Program} {ag : Agenda} → Tree P ag → Type 0
Open done = ⊥
Open (left t) = Unit {0} ⊎ Open t
Open (by c h t) = Open t
Open (equate t) = Open t
Open (reckon t) = Open t

-- the path that the clause for an open goal will have
abbrev pub path : {P : Program} {ag : Agenda} (t : Tree P ag) → Open t → Path
path done o = elim o [ ]
path (left {q = q} t) (inl u) = q
path (left t) (inr o) = path t o
path (by c h t) o = path t o
path (equate t) o = path t o
path (reckon t) o = path t o

-- and the call itself
abbrev pub call_of : {P : Program} {ag : Agenda} (t : Tree P ag) → Open t → Term
call_of done o = elim o [ ]
call_of (left {g = g} t) (inl u) = g
call_of (left t) (inr o) = call_of t o
call_of (by c h t) o = call_of t o
call_of (equate t) o = call_of t o
call_of (reckon t) o = call_of t o

-- the leftmost open goal
abbrev pub IsLeftmost : {P : Program} {ag : Agenda} (t : Tree P ag) → Open t → Type 0
IsLeftmost done o = ⊥
IsLeftmost (left t) (inl u) = Unit {0}
IsLeftmost (left t) (inr o) = ⊥
IsLeftmost (by c h t) o = IsLeftmost t o
IsLeftmost (equate t) o = IsLeftmost t o
IsLeftmost (reckon t) o = IsLeftmost t o

-- a body with all its calls left, before a tree
abbrev pub fresh : {P : Program} (q : Path) (i : ℕ) (items : List Item) {rest : Agenda} → Tree P rest
    → Tree P (agenda q i items rest)
fresh q i [] t = t
fresh q i (call g ∷ items) t = left (fresh q (suc i) items t)
fresh q i (equal a b ∷ items) t = equate (fresh q (suc i) items t)
fresh q i (arithmetic a ∷ items) t = reckon (fresh q (suc i) items t)
fresh q i (fail ∷ items) t = equate (fresh q (suc i) items t)

-- the tree in which the open goal is taken by that clause
abbrev pub reduce : {P : Program} {ag : Agenda} (t : Tree P ag) (o : Open t) (c : ℕ) → Of P (call_of t o) c → Tree P ag
reduce done o c h = elim o [ ]
reduce {P} (left {q = q} t) (inl u) c h = by c h (fresh q 0 (clause_at P c).body t)
reduce (left t) (inr o) c h = left (reduce t o c h)
reduce (by d k t) o c h = by d k (reduce t o c h)
reduce (equate t) o c h = equate (reduce t o c h)
reduce (reckon t) o c h = reckon (reduce t o c h)

-- The second tree is the first, with clauses for some of its open calls. (A code agrees with a tree where its tree is
-- so above it.)
pub data Below (P : Program) : (ag : Agenda) → Tree P ag → Tree P ag → Type 0 where
  both_done : Below P end done done
  both_left : {q : Path} {g : Term} {rest : Agenda} {t u : Tree P rest} → Below P rest t u
      → Below P (goal q g rest) (left t) (left u)
  both_by : {q : Path} {g : Term} {rest : Agenda} (c : ℕ) (h k : Of P g c)
      {t u : Tree P (agenda q 0 (clause_at P c).body rest)} → Below P (agenda q 0 (clause_at P c).body rest) t u
      → Below P (goal q g rest) (by c h t) (by c k u)
  grown : {q : Path} {g : Term} {rest : Agenda} (c : ℕ) (h : Of P g c) (t : Tree P rest)
      {u : Tree P (agenda q 0 (clause_at P c).body rest)}
      → Below P (agenda q 0 (clause_at P c).body rest) (fresh q 0 (clause_at P c).body t) u
      → Below P (goal q g rest) (left t) (by c h u)
  both_equate : {a b : Term} {rest : Agenda} {t u : Tree P rest} → Below P rest t u
      → Below P (equation a b rest) (equate t) (equate u)
  both_reckon : {a : Arithmetic} {rest : Agenda} {t u : Tree P rest} → Below P rest t u
      → Below P (reckoning a rest) (reckon t) (reckon u)

-- what closing the tree's equations and arithmetic ends with
abbrev pub Closed : {P : Program} {ag : Agenda} → Tree P ag → List Equation → List Arithmetic → Type 0
Closed t es gs = Closes (equations t) (arithmetics t) es gs

-- no call is left, and the closed equations have a solution
abbrev pub HasOutcome : {P : Program} {ag : Agenda} → Tree P ag → Type 0
HasOutcome t = (es : List Equation) × (gs : List Arithmetic) × IsWhole t × Closed t es gs × Solvable es

-- what the query asks
abbrev pub query_agenda : Program → Agenda
query_agenda P = agenda [] 0 P.query.body end

-- a partial tree of the query
abbrev pub QueryTree : Program → Type 0
QueryTree P = Tree P (query_agenda P)

-- the tree in which all calls are left
abbrev pub blank : {P : Program} (ag : Agenda) → Tree P ag
blank end = done
blank (goal q g rest) = left (blank rest)
blank (equation a b rest) = equate (blank rest)
blank (reckoning a rest) = reckon (blank rest)

-- the query's tree with the query itself weighs so much
abbrev pub weight : {P : Program} → QueryTree P → ℕ
weight {P} t = clause_weight P.query + taken_weight t

-- the proof that a clause is of the goal's predicate, where it is
abbrev pub taking : (P : Program) (g : Term) (c : ℕ) → Option (Of P g c)
taking P g c = elim (is_of P g c) as (λ b. Option (b ≡ true)) [ true ↦ Some refl | false ↦ None ]

abbrev pub mapped : {A B : Type 0} → (A → B) → Option A → Option B
mapped f None = None
mapped f (Some x) = Some (f x)

abbrev pub then : {A B : Type 0} → Option A → (A → Option B) → Option B
then None f = None
then (Some x) f = f x

-- The leftmost open goal is taken by that clause: none where no call is left, or where the clause is not of the
-- call's predicate.
abbrev pub extend : {P : Program} {ag : Agenda} → Tree P ag → ℕ → Option (Tree P ag)
extend done c = None
extend {P} (left {q = q} {g = g} t) c = mapped (λ h. by c h (fresh q 0 (clause_at P c).body t)) (taking P g c)
extend (by d k t) c = mapped (by d k) (extend t c)
extend (equate t) c = mapped equate (extend t c)
extend (reckon t) c = mapped reckon (extend t c)

abbrev pub extend_all : {P : Program} {ag : Agenda} → Tree P ag → List ℕ → Option (Tree P ag)
extend_all t [] = Some t
extend_all t (c ∷ cs) = then (extend t c) (λ u. extend_all u cs)

-- The unfolding of a code: the leftmost calls are taken by its clauses, one after another.
abbrev pub unfold_code : (P : Program) → List ℕ → Option (QueryTree P)
unfold_code P cs = extend_all (blank (query_agenda P)) cs
