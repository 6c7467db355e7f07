-- Trees that are written down as lists of reductions (this project's own).
use Rattle.std.specs.Prelude.{ℕ, ◌≡◌, List, [], ◌∷◌, ◌++◌, Contains}
use Rattle.and_model.specs.Terms.{Path}
use Rattle.and_model.specs.Programs.{Program, Of}
use Rattle.and_model.specs.Trees.{QueryTree, query_agenda, blank, Open, path, call_of, reduce, weight}

-- Each clause of a tree has a place with a number of its own. Place 0 is the query's.
-- A reduction: item number `item`, a call, of the body at the place `parent` was taken by `clause`, which stands at
-- the place `node`.
pub record Reduction : Type 0 where
  pub parent : ℕ
  pub item : ℕ
  pub clause : ℕ
  pub node : ℕ

-- PlaceHas rs n q: the clause at place n has the path q.
pub data PlaceHas (rs : List Reduction) : ℕ → Path → Type 0 where
  query : PlaceHas rs 0 []
  reduced : (r : Reduction) (q : Path) → Contains rs r → PlaceHas rs r.parent q → PlaceHas rs r.node (q ++ r.item ∷ [])

-- CallHas rs n i p: a clause that takes item number i of the body at place n has the path p.
abbrev pub CallHas : List Reduction → ℕ → ℕ → Path → Type 0
CallHas rs n i p = (q : Path) × PlaceHas rs n q × (p ≡ q ++ i ∷ [])

-- Makes P rs t: the reductions, in any order, make the tree t of the query. Each takes a call that was open, and the
-- number of its place is what the tree weighed before it: the weights of the query and of the clauses at all places
-- with smaller numbers.
pub data Makes (P : Program) : List Reduction → QueryTree P → Type 0 where
  none : Makes P [] (blank (query_agenda P))
  one_more : (front back all : List Reduction) (t : QueryTree P) (r : Reduction) (o : Open t)
      (h : Of P (call_of t o) r.clause)
      → Makes P (front ++ back) t → CallHas (front ++ back) r.parent r.item (path t o) → r.node ≡ weight t
      → all ≡ front ++ r ∷ back
      → Makes P all (reduce t o r.clause h)
