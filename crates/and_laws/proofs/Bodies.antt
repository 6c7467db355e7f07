-- A body whose calls are all open, before a tree: what it adds, and where the tree's open goals are in it.
use Rattle.std.proofs.Common.{ℕ, ◌≡◌, List, [], ◌∷◌, refl, ap, inl, inr, suc}
use Rattle.and_model.specs.Terms.{Path, Substitution}
use Rattle.and_model.specs.Solutions.{Solves}
use Rattle.and_model.specs.Programs.{Program, Item, call, equal, arithmetic, fail, Arithmetic, is, compare, Of}
use Rattle.and_model.specs.Candidates.{In, guard}
use Rattle.and_model.specs.Trees.{Agenda, agenda, Tree, left, equate, reckon, equations, arithmetics, taken_weight, code, Open, path, call_of, fresh, reduce}
use Rattle.and_model.specs.Trees.{blank}

-- The tree's equations are among those of the whole.
pub fresh_equations : {P : Program} (q : Path) (i : ℕ) (items : List Item) {rest : Agenda} (t : Tree P rest) (s : Substitution)
    → Solves s (equations (fresh q i items t)) → Solves s (equations t)
fresh_equations q i [] t s p = p
fresh_equations q i (call g ∷ items) t s p = fresh_equations q (suc i) items t s p
fresh_equations q i (equal a b ∷ items) t s p = fresh_equations q (suc i) items t s p.1
fresh_equations q i (arithmetic a ∷ items) t s p = fresh_equations q (suc i) items t s p
fresh_equations q i (fail ∷ items) t s p = fresh_equations q (suc i) items t s p.1

-- So is its arithmetic,
pub fresh_arithmetics : {P : Program} (q : Path) (i : ℕ) (items : List Item) {rest : Agenda} (t : Tree P rest) (a : Arithmetic) → In a (arithmetics t)
    → In a (arithmetics (fresh q i items t))
fresh_arithmetics q i [] t a p = p
fresh_arithmetics q i (call g ∷ items) t a p = fresh_arithmetics q (suc i) items t a p
fresh_arithmetics q i (equal b c ∷ items) t a p = fresh_arithmetics q (suc i) items t a p
fresh_arithmetics q i (arithmetic b ∷ items) t a p = inr (fresh_arithmetics q (suc i) items t a p)
fresh_arithmetics q i (fail ∷ items) t a p = fresh_arithmetics q (suc i) items t a p

-- and so are the comparisons with which the body begins.
pub fresh_guard : {P : Program} (q : Path) (i : ℕ) (items : List Item) {rest : Agenda} (t : Tree P rest) (a : Arithmetic) → In a (guard q items)
    → In a (arithmetics (fresh q i items t))
fresh_guard q i [] t a p = elim p [ ]
fresh_guard q i (call g ∷ items) t a p = elim p [ ]
fresh_guard q i (equal b c ∷ items) t a p = elim p [ ]
fresh_guard q i (arithmetic (is l r) ∷ items) t a p = elim p [ ]
fresh_guard q i (arithmetic (compare r b c) ∷ items) t a (inl e) = inl e
fresh_guard q i (arithmetic (compare r b c) ∷ items) t a (inr p) = inr (fresh_guard q (suc i) items t a p)
fresh_guard q i (fail ∷ items) t a p = elim p [ ]

-- Open calls weigh nothing,
pub fresh_weight : {P : Program} (q : Path) (i : ℕ) (items : List Item) {rest : Agenda} (t : Tree P rest) → taken_weight (fresh q i items t) ≡ taken_weight t
fresh_weight q i [] t = refl
fresh_weight q i (call g ∷ items) t = fresh_weight q (suc i) items t
fresh_weight q i (equal a b ∷ items) t = fresh_weight q (suc i) items t
fresh_weight q i (arithmetic a ∷ items) t = fresh_weight q (suc i) items t
fresh_weight q i (fail ∷ items) t = fresh_weight q (suc i) items t

-- and have no clauses.
pub fresh_code : {P : Program} (q : Path) (i : ℕ) (items : List Item) {rest : Agenda} (t : Tree P rest) → code (fresh q i items t) ≡ code t
fresh_code q i [] t = refl
fresh_code q i (call g ∷ items) t = fresh_code q (suc i) items t
fresh_code q i (equal a b ∷ items) t = fresh_code q (suc i) items t
fresh_code q i (arithmetic a ∷ items) t = fresh_code q (suc i) items t
fresh_code q i (fail ∷ items) t = fresh_code q (suc i) items t

-- A blank tree before which a body is put is blank.
pub fresh_blank : {P : Program} (q : Path) (i : ℕ) (items : List Item) (rest : Agenda) → fresh {P = P} q i items (blank rest) ≡ blank (agenda q i items rest)
fresh_blank q i [] rest = refl
fresh_blank q i (call g ∷ items) rest = ap left (fresh_blank q (suc i) items rest)
fresh_blank q i (equal a b ∷ items) rest = ap equate (fresh_blank q (suc i) items rest)
fresh_blank q i (arithmetic a ∷ items) rest = ap reckon (fresh_blank q (suc i) items rest)
fresh_blank q i (fail ∷ items) rest = ap equate (fresh_blank q (suc i) items rest)

-- An open goal of the tree is one of the whole,
abbrev pub lift : {P : Program} (q : Path) (i : ℕ) (items : List Item) {rest : Agenda} (t : Tree P rest) → Open t → Open (fresh q i items t)
lift q i [] t o = o
lift q i (call g ∷ items) t o = inr (lift q (suc i) items t o)
lift q i (equal a b ∷ items) t o = lift q (suc i) items t o
lift q i (arithmetic a ∷ items) t o = lift q (suc i) items t o
lift q i (fail ∷ items) t o = lift q (suc i) items t o

-- with the same call,
pub lift_call : {P : Program} (q : Path) (i : ℕ) (items : List Item) {rest : Agenda} (t : Tree P rest) (o : Open t)
    → call_of (fresh q i items t) (lift q i items t o) ≡ call_of t o
lift_call q i [] t o = refl
lift_call q i (call g ∷ items) t o = lift_call q (suc i) items t o
lift_call q i (equal a b ∷ items) t o = lift_call q (suc i) items t o
lift_call q i (arithmetic a ∷ items) t o = lift_call q (suc i) items t o
lift_call q i (fail ∷ items) t o = lift_call q (suc i) items t o

-- and the same path,
pub lift_path : {P : Program} (q : Path) (i : ℕ) (items : List Item) {rest : Agenda} (t : Tree P rest) (o : Open t)
    → path (fresh q i items t) (lift q i items t o) ≡ path t o
lift_path q i [] t o = refl
lift_path q i (call g ∷ items) t o = lift_path q (suc i) items t o
lift_path q i (equal a b ∷ items) t o = lift_path q (suc i) items t o
lift_path q i (arithmetic a ∷ items) t o = lift_path q (suc i) items t o
lift_path q i (fail ∷ items) t o = lift_path q (suc i) items t o

-- and it is reduced there as in the tree.
pub lift_reduce : {P : Program} (q : Path) (i : ℕ) (items : List Item) {rest : Agenda} (t : Tree P rest) (o : Open t) (c : ℕ) (h : Of P (call_of t o) c)
    → (k : Of P (call_of (fresh q i items t) (lift q i items t o)) c) × (reduce (fresh q i items t) (lift q i items t o) c k ≡ fresh q i items (reduce t o c h))
lift_reduce q i [] t o c h = (h, refl)
lift_reduce q i (call g ∷ items) t o c h = let r = lift_reduce q (suc i) items t o c h in (r.0, ap left r.1)
lift_reduce q i (equal a b ∷ items) t o c h = let r = lift_reduce q (suc i) items t o c h in (r.0, ap equate r.1)
lift_reduce q i (arithmetic a ∷ items) t o c h = let r = lift_reduce q (suc i) items t o c h in (r.0, ap reckon r.1)
lift_reduce q i (fail ∷ items) t o c h = let r = lift_reduce q (suc i) items t o c h in (r.0, ap equate r.1)
