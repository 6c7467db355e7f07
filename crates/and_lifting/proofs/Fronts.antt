-- Trees whose taken calls come before their open ones, read from left to right up to the leftmost open call.
use Rattle.std.proofs.Common.{ℕ, ◌≡◌, List, [], ◌∷◌, ◌++◌, refl, ap, sym, ◌∙◌, inl, inr, subst}
use Rattle.and_model.specs.Solutions.{Equation}
use Rattle.and_model.specs.Programs.{Program, Arithmetic, clause_at, Of, head_in}
use Rattle.and_model.specs.Trees.{Agenda, end, goal, equation, reckoning, agenda, Tree, done, left, by, equate, reckon, equations, arithmetics, IsWhole, Open}
use Rattle.and_model.specs.Trees.{path, call_of, IsLeftmost, fresh, reduce, blank}
use Rattle.and_laws.proofs.Bodies.{fresh_blank}

-- the equations and the arithmetic before the first call of an agenda, and the agenda from there on
abbrev pub front_equations : Agenda → List Equation
front_equations end = []
front_equations (goal q g rest) = []
front_equations (equation a b rest) = (a, b) ∷ front_equations rest
front_equations (reckoning a rest) = front_equations rest

abbrev pub front_arithmetics : Agenda → List Arithmetic
front_arithmetics end = []
front_arithmetics (goal q g rest) = []
front_arithmetics (equation a b rest) = front_arithmetics rest
front_arithmetics (reckoning a rest) = a ∷ front_arithmetics rest

abbrev pub from_call : Agenda → Agenda
from_call end = end
from_call (goal q g rest) = goal q g rest
from_call (equation a b rest) = from_call rest
from_call (reckoning a rest) = from_call rest

-- the same of a tree
abbrev pub read_equations : {P : Program} {ag : Agenda} → Tree P ag → List Equation
read_equations done = []
read_equations (left t) = []
read_equations {P} (by {q = q} {g = g} c h t) = (g, head_in P q c) ∷ read_equations t
read_equations (equate {a = a} {b = b} t) = (a, b) ∷ read_equations t
read_equations (reckon t) = read_equations t

abbrev pub read_arithmetics : {P : Program} {ag : Agenda} → Tree P ag → List Arithmetic
read_arithmetics done = []
read_arithmetics (left t) = []
read_arithmetics (by c h t) = read_arithmetics t
read_arithmetics (equate t) = read_arithmetics t
read_arithmetics (reckon {a = a} t) = a ∷ read_arithmetics t

abbrev pub read_rest : {P : Program} {ag : Agenda} → Tree P ag → Agenda
read_rest done = end
read_rest (left {q = q} {g = g} {rest = rest} t) = goal q g rest
read_rest (by c h t) = read_rest t
read_rest (equate t) = read_rest t
read_rest (reckon t) = read_rest t

-- behind the leftmost open call nothing is taken
abbrev pub IsOpenBehind : {P : Program} {ag : Agenda} → Tree P ag → Type 0
IsOpenBehind done = Unit {0}
IsOpenBehind {P} (left {rest = rest} t) = t ≡ blank rest
IsOpenBehind (by c h t) = IsOpenBehind t
IsOpenBehind (equate t) = IsOpenBehind t
IsOpenBehind (reckon t) = IsOpenBehind t

-- what stands behind an open call
abbrev pub behind : {P : Program} {ag : Agenda} (t : Tree P ag) → Open t → Agenda
behind done o = end
behind (left {rest = rest} t) (inl u) = rest
behind (left t) (inr o) = behind t o
behind (by c h t) o = behind t o
behind (equate t) o = behind t o
behind (reckon t) o = behind t o

-- Of a tree in which all calls are left its agenda is read.
pub read_blank : (P : Program) (ag : Agenda)
    → (read_equations (blank {P = P} ag) ≡ front_equations ag) × (read_arithmetics (blank {P = P} ag) ≡ front_arithmetics ag)
    × (read_rest (blank {P = P} ag) ≡ from_call ag) × IsOpenBehind (blank {P = P} ag)
read_blank P end = (refl, refl, refl, tt)
read_blank P (goal q g rest) = (refl, refl, refl, refl)
read_blank P (equation a b rest) = let r = read_blank P rest in (ap (λ es. (a, b) ∷ es) r.0, r.1, r.2, r.3)
read_blank P (reckoning a rest) = let r = read_blank P rest in (r.0, ap (λ gs. a ∷ gs) r.1, r.2, r.3)

-- what is read of the tree in which the leftmost open call is taken by a clause
abbrev pub Onward : {P : Program} {ag : Agenda} (t : Tree P ag) (o : Open t) (c : ℕ) (u : Tree P ag) → Type 0
Onward {P} t o c u =
    let body : Agenda = agenda (path t o) 0 (clause_at P c).body (behind t o) in
    (read_equations u ≡ read_equations t ++ (call_of t o, head_in P (path t o) c) ∷ front_equations body)
    × (read_arithmetics u ≡ read_arithmetics t ++ front_arithmetics body) × (read_rest u ≡ from_call body) × IsOpenBehind u

-- The clause's head and the front of its body come next.
pub read_onward : {P : Program} {ag : Agenda} (t : Tree P ag) (o : Open t) (c : ℕ) (h : Of P (call_of t o) c) → IsLeftmost t o → IsOpenBehind t
    → Onward t o c (reduce t o c h)
read_onward done o c h m b = elim m [ ]
read_onward {P} (left {q = q} {g = g} {rest = rest} t) (inl x) c h m b =
    let inner : Agenda = agenda q 0 (clause_at P c).body rest in
    let same : blank inner ≡ fresh q 0 (clause_at P c).body t = sym (ap (λ z. fresh q 0 (clause_at P c).body z) b
    ∙ fresh_blank q 0 (clause_at P c).body rest) in
    let r = read_blank P inner in
    subst (λ z. Onward (left {q = q} {g = g} t) (inl x) c (by c h z)) same (ap (λ es. (g, head_in P q c) ∷ es) r.0, r.1, r.2, r.3)
read_onward (left t) (inr o) c h m b = elim m [ ]
read_onward {P} (by {q = q} {g = g} d k t) o c h m b = let r = read_onward t o c h m b in (ap (λ es. (g, head_in P q d) ∷ es) r.0, r.1, r.2, r.3)
read_onward (equate {a = a} {b = d} t) o c h m b = let r = read_onward t o c h m b in (ap (λ es. (a, d) ∷ es) r.0, r.1, r.2, r.3)
read_onward (reckon {a = a} t) o c h m b = let r = read_onward t o c h m b in (r.0, ap (λ gs. a ∷ gs) r.1, r.2, r.3)

-- A whole tree is read to its end,
pub read_whole : {P : Program} {ag : Agenda} (t : Tree P ag) → IsWhole t → (read_equations t ≡ equations t) × (read_arithmetics t ≡ arithmetics t)
    × (read_rest t ≡ end)
read_whole done w = (refl, refl, refl)
read_whole (left t) w = elim w [ ]
read_whole {P} (by {q = q} {g = g} c h t) w = let r = read_whole t w in (ap (λ es. (g, head_in P q c) ∷ es) r.0, r.1, r.2)
read_whole (equate {a = a} {b = b} t) w = let r = read_whole t w in (ap (λ es. (a, b) ∷ es) r.0, r.1, r.2)
read_whole (reckon {a = a} t) w = let r = read_whole t w in (r.0, ap (λ gs. a ∷ gs) r.1, r.2)

-- and any other up to its leftmost open call.
pub read_call : {P : Program} {ag : Agenda} (t : Tree P ag) (o : Open t) → IsLeftmost t o → read_rest t ≡ goal (path t o) (call_of t o) (behind t o)
read_call done o m = elim m [ ]
read_call (left t) (inl x) m = refl
read_call (left t) (inr o) m = elim m [ ]
read_call (by c h t) o m = read_call t o m
read_call (equate t) o m = read_call t o m
read_call (reckon t) o m = read_call t o m
