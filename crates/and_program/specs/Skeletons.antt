-- Clauses as nodes that name each other, from which the run-time shares structure (Boyer and Moore, 1972; this
-- project's own numbering).
use Rattle.std.specs.Prelude.{ℕ, ℤ, pos, suc, ◌<◌, ◌≡◌, List, [], ◌∷◌, ◌++◌, length, map, get_or}
use Rattle.and_model.specs.Terms
use Rattle.and_model.specs.Terms.{Term, Terms}
use Rattle.and_model.specs.Arithmetic.{Relation}
use Rattle.and_model.specs.Programs
use Rattle.and_model.specs.Programs.{Program, Item}

-- What a node is: a variable of its clause, a number, or a name with the nodes of its arguments.
pub data Shape : Type 0 where
  variable : ℕ → Shape
  number : ℤ → Shape
  compound : ℕ → List ℕ → Shape

-- the terms of a list, as arguments
abbrev pub term_list : List Term → Terms
term_list [] = Terms.none
term_list (t ∷ ts) = Terms.more t (term_list ts)

-- the term of that number
abbrev pub nth : List Term → ℕ → Term
nth ts n = get_or ts n (Terms.number (pos 0))

-- the term of a node, by the terms of the nodes before it
abbrev pub shape_term : List Term → Shape → Term
shape_term ts (variable k) = Terms.variable [] k
shape_term ts (number z) = Terms.number z
shape_term ts (compound c ns) = Terms.compound c (term_list (map (nth ts) ns))

-- the terms of a list of nodes, behind those of others
abbrev pub terms_behind : List Term → List Shape → List Term
terms_behind ts [] = ts
terms_behind ts (s ∷ ss) = terms_behind (ts ++ shape_term ts s ∷ []) ss

-- the term of node n
abbrev pub node_term : List Shape → ℕ → Term
node_term ss n = nth (terms_behind [] ss) n

-- An item of a body by its nodes. An `is` goal has its number among those of its clause.
pub data NodeItem : Type 0 where
  call : ℕ → NodeItem
  equal : ℕ → ℕ → NodeItem
  is : ℕ → ℕ → ℕ → NodeItem
  compare : Relation → ℕ → ℕ → NodeItem
  fail : NodeItem

abbrev pub item_of : List Shape → NodeItem → Item
item_of ss (call n) = Programs.call (node_term ss n)
item_of ss (equal n m) = Programs.equal (node_term ss n) (node_term ss m)
item_of ss (is n m pair) = Programs.arithmetic (Programs.is (node_term ss n) (node_term ss m))
item_of ss (compare r n m) = Programs.arithmetic (Programs.compare r (node_term ss n) (node_term ss m))
item_of ss fail = Programs.fail

-- A clause by its nodes: that of its head, and its items.
pub record NodeClause : Type 0 where
  pub head : ℕ
  pub items : List NodeItem

-- A list of nodes, and by them the query and then the clauses.
pub record Skeleton : Type 0 where
  pub nodes : List Shape
  pub clauses : List NodeClause

-- each argument of a node that has n nodes before it is one of these
abbrev pub Falls : ℕ → List ℕ → Type 0
Falls n [] = Unit {0}
Falls n (m ∷ ms) = (m < n) × Falls n ms

abbrev pub IsFalling : ℕ → Shape → Type 0
IsFalling n (variable k) = Unit {0}
IsFalling n (number z) = Unit {0}
IsFalling n (compound c ms) = Falls n ms

-- so it is for each node, where n nodes stand before them
abbrev pub AllFall : ℕ → List Shape → Type 0
AllFall n [] = Unit {0}
AllFall n (s ∷ ss) = IsFalling n s × AllFall (suc n) ss

-- the item names nodes that are there, and an `is` goal the number k
abbrev pub IsThere : List Shape → ℕ → NodeItem → Type 0
IsThere ss k (call n) = n < length ss
IsThere ss k (equal n m) = (n < length ss) × (m < length ss)
IsThere ss k (is n m pair) = (n < length ss) × (m < length ss) × (pair ≡ k)
IsThere ss k (compare r n m) = (n < length ss) × (m < length ss)
IsThere ss k fail = Unit {0}

abbrev pub after : ℕ → NodeItem → ℕ
after k (call n) = k
after k (equal n m) = k
after k (is n m pair) = suc k
after k (compare r n m) = k
after k fail = k

-- the items of a body of which k `is` goals come before these
abbrev pub AllThere : List Shape → ℕ → List NodeItem → Type 0
AllThere ss k [] = Unit {0}
AllThere ss k (i ∷ items) = IsThere ss k i × AllThere ss (after k i) items

-- The clause's nodes have the terms of that clause.
pub record IsClause (ss : List Shape) (n : NodeClause) (c : Programs.Clause) : Type 0 where
  pub head : node_term ss n.head ≡ c.head
  pub head_there : n.head < length ss
  pub body : map (item_of ss) n.items ≡ c.body
  pub body_there : AllThere ss 0 n.items

abbrev pub AllClauses : List Shape → List NodeClause → List Programs.Clause → Type 0
AllClauses ss [] [] = Unit {0}
AllClauses ss [] (c ∷ cs) = ⊥
AllClauses ss (n ∷ ns) [] = ⊥
AllClauses ss (n ∷ ns) (c ∷ cs) = IsClause ss n c × AllClauses ss ns cs

-- The skeleton is that of the program: the query, and then the clauses in textual order.
abbrev pub IsSkeleton : Skeleton → Program → Type 0
IsSkeleton S P = AllFall 0 S.nodes × AllClauses S.nodes S.clauses (P.query ∷ P.clauses)
