-- The splits of a branch whose state is a fork, or over the limit with all candidates of its leftmost goal.
use Rattle.std.proofs.Common.{ℕ, ◌+◌, ◌≡◌, ◌<◌, List, [], ◌∷◌, refl, ap, subst, arith, inl, inr, Contains}
use Rattle.std.proofs.lemmas.Bool.{cases_lt}
use Rattle.and_model.specs.Solutions.{Equation}
use Rattle.and_model.specs.Programs.{Program, Arithmetic, clause_at, clause_weight}
use Rattle.and_model.specs.Trees.{QueryTree, Open, path, call_of, reduce, weight}
use Rattle.and_model.specs.Reached.{CandidateOf, Split, Step}
use Rattle.and_laws.proofs.Listings.{closed_alike}
use Rattle.and_laws.proofs.Order.{reduce_weight, clause_weighs}
use Rattle.and_laws.proofs.Ordered.{contains_first, contains_more}
use Rattle.and_laws.proofs.Picking.{candidate_falls}
use Rattle.and_laws.proofs.Splitting.{leftmost_same}
use Rattle.and_branch_laws.specs.States.{Fits, ShutAt, StateOf, over_one}
use Rattle.and_walk_laws.specs.Walks.{SplitsBy}

-- what does not fit is above the limit
pub too_heavy : {P : Program} (limit : ℕ) (t : QueryTree P) (c : ℕ) → (Fits limit t c → ⊥)
    → limit < weight t + clause_weight (clause_at P c)
too_heavy {P} limit t c none_fits =
    elim (cases_lt limit (weight t + clause_weight (clause_at P c))) [ inl above ↦ above | inr fits ↦ absurd (none_fits fits) ]

-- A split weighs what the tree and the clause do.
pub split_weighs : {P : Program} (t next : QueryTree P) (c : ℕ) → Split t c next → weight next ≡ weight t + clause_weight (clause_at P c)
split_weighs {P} t next c s =
    let w = reduce_weight t s.4 c s.6 in
    let same : weight next ≡ weight (reduce t s.4 c s.6) = ap (λ z. weight z) s.8 in
    omega (arith, w, same)

-- So it weighs more than the tree.
pub split_grows : {P : Program} (t next : QueryTree P) (c : ℕ) → Split t c next → weight t < weight next
split_grows {P} t next c s = omega (arith, split_weighs t next c s, clause_weighs (clause_at P c))

module _ {P : Program} (t : QueryTree P) (o : Open t) (es : List Equation) (gs : List Arithmetic) (shut : ShutAt t o es gs) where
  -- Each candidate of the leftmost goal of a Shut tree splits it,
  pub candidate_splits : (c : ℕ) → CandidateOf t es o c → (next : QueryTree P) × Split t c next
  candidate_splits c k = (reduce t o c k.0, (shut.0, es, gs, shut.2, o, shut.1, k.0, k, refl))

  -- and by no other clause is it split.
  pub split_candidate : (c : ℕ) (next : QueryTree P) → Split t c next → CandidateOf t es o c
  split_candidate c next s =
      let same : s.4 ≡ o = leftmost_same t s.4 o s.5 shut.1 in
      let k : CandidateOf t s.1 o c = subst (λ p. CandidateOf t s.1 p c) same s.7 in
      candidate_falls P es s.1 (path t o) (call_of t o) c (closed_alike t es s.1 gs s.2 shut.2 s.3).1 k

-- the trees of the splits by these clauses
pub some_splits : {P : Program} (t : QueryTree P) (cs : List ℕ) → ((c : ℕ) → Contains cs c → (next : QueryTree P) × Split t c next)
    → (trees : List (QueryTree P)) × SplitsBy t cs trees
some_splits t [] each = ([], SplitsBy.no_more t)
some_splits t (c ∷ cs) each =
    let first = each c (contains_first c cs) in
    let others = some_splits t cs (λ d i. each d (contains_more c d cs i)) in
    (first.0 ∷ others.0, SplitsBy.one_more t first.0 c cs others.0 first.1 others.1)

-- The first split is taken off.
pub record FirstSplit {P : Program} (t : QueryTree P) (c : ℕ) (cs : List ℕ) (trees : List (QueryTree P)) : Type 0 where
  pub next : QueryTree P
  pub rest : List (QueryTree P)
  pub trees_are : trees ≡ next ∷ rest
  pub split : Split t c next
  pub others : SplitsBy t cs rest

pub first_split : {P : Program} (t : QueryTree P) (c : ℕ) (cs ds : List ℕ) (trees : List (QueryTree P)) → SplitsBy t ds trees → ds ≡ c ∷ cs
    → FirstSplit t c cs trees
first_split t c cs ds trees (SplitsBy.no_more t') e = absurd (cc)
first_split t c cs ds trees (SplitsBy.one_more t' next d rest ts s others) e =
    let same : d ≡ c = cc in
    let same_rest : rest ≡ cs = cc in
    record {
      next = next;
      rest = ts;
      trees_are = refl;
      split = subst (λ n. Split t' n next) same s;
      others = subst (λ ns. SplitsBy t' ns ts) same_rest others;
    }

pub no_splits : {P : Program} (t : QueryTree P) (cs : List ℕ) (trees : List (QueryTree P)) → SplitsBy t cs trees → cs ≡ [] → trees ≡ []
no_splits t cs trees (SplitsBy.no_more t') e = refl
no_splits t cs trees (SplitsBy.one_more t' next d rest ts s others) e = absurd (cc)

-- The goal's one candidate is too heavy: a Step that is over the limit.
pub one_over : (P : Program) (limit : ℕ) (t : QueryTree P) (o : Open t) (c : ℕ) → StateOf P limit t (over_one o c)
    → (next : QueryTree P) × Step t next × (limit < weight next)
one_over P limit t o c x =
    let k : CandidateOf t x.0 o c = x.4.0 in
    let heavy = too_heavy limit t c (λ fits. x.3 o c x.4 fits) in
    (reduce t o c k.0, (x.0, x.1, x.2.0, o, c, k.0, refl, x.4.1), omega (arith, heavy, reduce_weight t o c k.0))
