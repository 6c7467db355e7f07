-- The frame of a clause: a word for each variable that the clause's terms name, and behind these the pairs of its `is` goals.
use Rattle.std.proofs.Common.{ℕ, zero, suc, ◌+◌, ◌*◌, ◌^◌, ◌≡◌, ◌<◌, ◌≤◌, pos, List, [], ◌∷◌, ◌++◌, length, map, get_or, take}
use Rattle.std.proofs.Common.{refl, sym, ap, ◌∙◌, subst, arith}
use Rattle.std.specs.Prelude.{All, flat_map, slice_get, Some}
use Rattle.std.proofs.lemmas.List.{map-append}
use Rattle.std.proofs.lemmas.List.Elements.{All-nil, All-cons, All-head, All-tail, All-append, All-same, All-weaker}
use Rattle.std.proofs.lemmas.Option.{slice_get-get_or}
use Rattle.and_model.specs.Terms
use Rattle.and_model.specs.Terms.{Path, Term, variables_of}
use Rattle.and_model.specs.Programs.{Clause, clause_at, clause_weight, is_goals}
use Rattle.and_model.specs.OwnVariables.{terms_of_item, IsOwn, AreOwn, HasOwnVariables, HaveOwnVariables}
use Rattle.and_model.specs.declared.limits.TheConstants.{MAX_NODES}
use Rattle.and_model.proofs.OwnVariables.{All-front, All-back}
use Rattle.and_program.specs.Skeletons.{Shape, NodeItem, call, equal, is, compare, fail, NodeClause}
use Rattle.and_program.specs.Skeletons
use Rattle.and_program.specs.Skeletons.{shape_term, terms_behind, node_term, item_of, after}
use Rattle.and_program.specs.Skeletons.{IsThere, AllThere, IsClause, AllClauses, IsSkeleton}
use Rattle.and_program.specs.Loaded.{nodes_at, shape_at}
use Rattle.and_program.specs.Shown.{resolved}
use Rattle.and_program.proofs.NodeTerms.{node_term_at}
use Rattle.and_cells.specs.Ranges.{NamedProgram, IsNodeInRange, IsInRange, IsItemInRange, IsGoalInRange}
use Rattle.and_cells.specs.Parts.{part_at}
use Rattle.and_cells.proofs.Frames.{no_variable}

-- the nodes of an item
abbrev pub nodes_of_item : NodeItem → List ℕ
nodes_of_item (call n) = n ∷ []
nodes_of_item (equal n m) = n ∷ m ∷ []
nodes_of_item (is n m pair) = n ∷ m ∷ []
nodes_of_item (compare r n m) = n ∷ m ∷ []
nodes_of_item fail = []

-- the nodes of a clause: that of its head, and those of its body
abbrev pub nodes_of_clause : NodeClause → List ℕ
nodes_of_clause k = k.head ∷ flat_map nodes_of_item k.items

-- a node that is there, whose variables are among a clause's first k
pub record IsOwnNode (ss : List Shape) (k node : ℕ) : Type 0 where
  pub there : node < length ss
  pub own : AreOwn k (node_term ss node)

-- The node is in range of these words in the frame at that base, and the cells that it names lie before the pairs of the frame.
pub record IsNodeInFrame (P : NamedProgram) (words node base variables : ℕ) : Type 0 where
  pub in_range : IsNodeInRange P words node base
  pub before_pairs : All (λ v. base + 1 + v.1 < base + 1 + variables) (variables_of (node_term P.skeleton.nodes node))

-- The nodes have the terms of the clause,
item_terms : (ss : List Shape) (i : NodeItem) → map (node_term ss) (nodes_of_item i) ≡ terms_of_item (item_of ss i)
item_terms ss (call n) = refl
item_terms ss (equal n m) = refl
item_terms ss (is n m pair) = refl
item_terms ss (compare r n m) = refl
item_terms ss fail = refl

body_terms : (ss : List Shape) (items : List NodeItem)
    → map (node_term ss) (flat_map nodes_of_item items) ≡ flat_map terms_of_item (map (item_of ss) items)
body_terms ss [] = refl
body_terms ss (i ∷ items) =
    map-append (node_term ss) (nodes_of_item i) (flat_map nodes_of_item items)
    ∙ ap (λ (ts : List Term). ts ++ map (node_term ss) (flat_map nodes_of_item items)) (item_terms ss i)
    ∙ ap (λ (ts : List Term). terms_of_item (item_of ss i) ++ ts) (body_terms ss items)

-- and are there.
abbrev IsNode : List Shape → ℕ → Type 0
IsNode ss n = n < length ss

abbrev AreNodes : List Shape → List ℕ → Type 0
AreNodes ss ns = All (IsNode ss) ns

one_node : (ss : List Shape) (n : ℕ) → IsNode ss n → AreNodes ss (n ∷ [])
one_node ss n t = All-cons (IsNode ss) n [] t (All-nil (IsNode ss))

two_nodes : (ss : List Shape) (n m : ℕ) → IsNode ss n → IsNode ss m → AreNodes ss (n ∷ m ∷ [])
two_nodes ss n m t u = All-cons (IsNode ss) n (m ∷ []) t (one_node ss m u)

item_there : (ss : List Shape) (k : ℕ) (i : NodeItem) → IsThere ss k i → AreNodes ss (nodes_of_item i)
item_there ss k (call n) t = one_node ss n t
item_there ss k (equal n m) t = two_nodes ss n m t.0 t.1
item_there ss k (is n m pair) t = two_nodes ss n m t.0 t.1
item_there ss k (compare r n m) t = two_nodes ss n m t.0 t.1
item_there ss k fail t = All-nil (IsNode ss)

body_there : (ss : List Shape) (k : ℕ) (items : List NodeItem) → AllThere ss k items → AreNodes ss (flat_map nodes_of_item items)
body_there ss k [] t = All-nil (IsNode ss)
body_there ss k (i ∷ items) t =
    All-append (IsNode ss) (nodes_of_item i) (flat_map nodes_of_item items) (item_there ss k i t.0) (body_there ss (after k i) items t.1)

-- nodes that are there, and whose terms name own variables alone
own_nodes : (ss : List Shape) (k : ℕ) (ns : List ℕ) → AreNodes ss ns → All (AreOwn k) (map (node_term ss) ns) → All (IsOwnNode ss k) ns
own_nodes ss k [] there own = All-nil (IsOwnNode ss k)
own_nodes ss k (n ∷ ns) there own =
    let terms : List Term = map (node_term ss) ns in
    All-cons (IsOwnNode ss k) n ns
    (record { there = All-head (IsNode ss) n ns there; own = All-head (AreOwn k) (node_term ss n) terms own })
    (own_nodes ss k ns (All-tail (IsNode ss) n ns there) (All-tail (AreOwn k) (node_term ss n) terms own))

clause_nodes : (ss : List Shape) (n : NodeClause) (c : Clause) → IsClause ss n c → HasOwnVariables c
    → All (IsOwnNode ss c.variables) (nodes_of_clause n)
clause_nodes ss n c h own =
    let body : map (node_term ss) (flat_map nodes_of_item n.items) ≡ flat_map terms_of_item c.body =
    body_terms ss n.items ∙ ap (λ is. flat_map terms_of_item is) h.body in
    let terms : map (node_term ss) (nodes_of_clause n) ≡ c.head ∷ flat_map terms_of_item c.body =
    ap (λ (t : Term). t ∷ map (node_term ss) (flat_map nodes_of_item n.items)) h.head ∙ ap (λ (ts : List Term). c.head ∷ ts) body in
    own_nodes ss c.variables (nodes_of_clause n)
    (All-cons (IsNode ss) n.head (flat_map nodes_of_item n.items) h.head_there (body_there ss 0 n.items h.body_there))
    (All-same (AreOwn c.variables) _ _ terms own)

-- the clause of that number
clause_there : (ss : List Shape) (ns : List NodeClause) (cs : List Clause) (c : ℕ) (n : NodeClause) (d : Clause)
    → AllClauses ss ns cs → c < length cs → IsClause ss (get_or ns c n) (get_or cs c d)
clause_there ss [] [] c n d all lt = absurd (omega arith)
clause_there ss [] (d ∷ cs) c n e all lt = absurd all
clause_there ss (n ∷ ns) [] c m e all lt = absurd all
clause_there ss (n ∷ ns) (d ∷ cs) zero m e all lt = all.0
clause_there ss (n ∷ ns) (d ∷ cs) (suc c) m e all lt = clause_there ss ns cs c m e all.1 (omega arith)

-- as many clauses of nodes as clauses
same_count : (ss : List Shape) (ns : List NodeClause) (cs : List Clause) → AllClauses ss ns cs → length ns ≡ length cs
same_count ss [] [] all = refl
same_count ss [] (d ∷ cs) all = absurd all
same_count ss (n ∷ ns) [] all = absurd all
same_count ss (n ∷ ns) (d ∷ cs) all = ap suc (same_count ss ns cs all.1)

-- what holds of the nodes of a body holds of those of each item
item_nodes : (Q : ℕ → Type 0) (items : List NodeItem) (i : ℕ) (item : NodeItem) → slice_get items i ≡ Some item
    → All Q (flat_map nodes_of_item items) → All Q (nodes_of_item item)
item_nodes Q [] i item e all = absurd cc
item_nodes Q (j ∷ items) zero item e all =
    let same : j ≡ item = cc in
    let first : All Q (nodes_of_item j) = All-front Q (nodes_of_item j) (flat_map nodes_of_item items) all in
    subst (λ (k : NodeItem). All Q (nodes_of_item k)) same first
item_nodes Q (j ∷ items) (suc i) item e all = item_nodes Q items i item e (All-back Q (nodes_of_item j) (flat_map nodes_of_item items) all)

-- an `is` goal has a number below how many there are
pair_below : (ss : List Shape) (k : ℕ) (items : List NodeItem) (i n m pair : ℕ)
    → AllThere ss k items → slice_get items i ≡ Some (is n m pair) → pair < k + is_goals (map (item_of ss) items)
pair_below ss k [] i n m pair all e = absurd cc
pair_below ss k (j ∷ items) zero n m pair all e =
    let same : is n m pair ≡ j = cc in
    let at : IsThere ss k (is n m pair) = subst (IsThere ss k) (sym same) all.0 in
    let P : NodeItem → Type 0 = λ x. pair < k + is_goals (map (item_of ss) (x ∷ items)) in
    subst P same (omega (arith, at.2))
pair_below ss k (call g ∷ items) (suc i) n m pair all e = pair_below ss k items i n m pair all.1 e
pair_below ss k (equal l r ∷ items) (suc i) n m pair all e = pair_below ss k items i n m pair all.1 e
pair_below ss k (is l r p ∷ items) (suc i) n m pair all e = omega (arith, pair_below ss (suc k) items i n m pair all.1 e)
pair_below ss k (compare o l r ∷ items) (suc i) n m pair all e = pair_below ss k items i n m pair all.1 e
pair_below ss k (fail ∷ items) (suc i) n m pair all e = pair_below ss k items i n m pair all.1 e

-- A clause of a program whose clauses name their own variables alone, as those of every loaded program do, and the words from `base` on,
-- which are no fewer than the clause weighs.
module _ (P : NamedProgram) (c words base : ℕ) (skeleton : IsSkeleton P.skeleton P.program) (own : HaveOwnVariables P.program)
    (few : length P.skeleton.nodes ≤ MAX_NODES + 1) (there : c ≤ length P.program.clauses)
    (room : base + clause_weight (clause_at P.program c) ≤ words) (short : words ≤ 2 ^ 22 + 256) where
  abbrev ss : List Shape
  ss = P.skeleton.nodes

  abbrev clause : Clause
  clause = clause_at P.program c

  abbrev nodes : NodeClause
  nodes = nodes_at P.skeleton c

  abbrev Own : ℕ → Type 0
  Own = IsOwnNode ss clause.variables

  is_clause : IsClause ss nodes clause
  is_clause =
      let none : NodeClause = record { head = 0; items = [] } in
      clause_there ss P.skeleton.clauses (P.program.query ∷ P.program.clauses) c none P.program.query skeleton.1 (omega arith)

  fits : base + 1 + clause.variables + 2 * is_goals clause.body ≤ words
  unfolding clause_weight
  fits = omega (arith, room)

  own_node : All Own (nodes_of_clause nodes)
  own_node = clause_nodes ss nodes clause is_clause (own c)

  in_range : (n : ℕ) → Own n → IsNodeInRange P words n base
  in_range n h = record {
    there = h.there;
    nameable = omega (arith, h.there);
    base_below = omega (arith, fits);
    cells = All-weaker (IsOwn clause.variables) (λ (v : Path × ℕ). base + 1 + v.1 < words) (λ v o. omega (arith, o.1, fits))
        (variables_of (node_term ss n)) h.own;
  }

  -- Each node of the clause is in range in the frame at that base, before the pairs.
  pub nodes_in_range : All (λ n. IsNodeInFrame P words n base clause.variables) (nodes_of_clause nodes)
  nodes_in_range =
      All-weaker Own (λ n. IsNodeInFrame P words n base clause.variables)
      (λ n h. record {
        in_range = in_range n h;
        before_pairs = All-weaker (IsOwn clause.variables) (λ (v : Path × ℕ). base + 1 + v.1 < base + 1 + clause.variables)
            (λ v o. omega (arith, o.1)) (variables_of (node_term ss n)) h.own;
      })
      (nodes_of_clause nodes) own_node

  found_in_range : (n : ℕ) (s : Shape) → shape_at P.skeleton n ≡ s → Own n → IsInRange P words (resolved s (record { 0 = n }) base)
  found_in_range n (Skeletons.variable k) at h =
      let is : node_term ss n ≡ Terms.variable [] k =
      node_term_at ss n (Skeletons.number (pos 0)) h.there ∙ ap (λ (s : Shape). shape_term (terms_behind [] (take n ss)) s) at in
      let one : AreOwn clause.variables (Terms.variable [] k) = subst (AreOwn clause.variables) is h.own in
      omega (arith, (All-head (IsOwn clause.variables) ([], k) [] one).1, fits)
  found_in_range n (Skeletons.number z) at h = (in_range n h, no_variable P n (λ k e. let both = sym at ∙ e in absurd cc))
  found_in_range n (Skeletons.compound d ns) at h = (in_range n h, no_variable P n (λ k e. let both = sym at ∙ e in absurd cc))

  -- So is where its term is found.
  pub parts_in_range : All (λ n. IsInRange P words (part_at P base n)) (nodes_of_clause nodes)
  parts_in_range =
      All-weaker Own (λ n. IsInRange P words (part_at P base n)) (λ n h. found_in_range n (shape_at P.skeleton n) refl h)
      (nodes_of_clause nodes) own_node

  one_in_range : (n : ℕ) → All Own (n ∷ []) → IsNodeInRange P words n base
  one_in_range n h = in_range n (All-head Own n [] h)

  two_in_range : (n m : ℕ) → All Own (n ∷ m ∷ []) → IsNodeInRange P words n base × IsNodeInRange P words m base
  two_in_range n m h = (in_range n (All-head Own n (m ∷ []) h), one_in_range m (All-tail Own n (m ∷ []) h))

  item_in_range : (item : NodeItem) → All Own (nodes_of_item item) → ((n m pair : ℕ) → item ≡ is n m pair → pair < is_goals clause.body)
      → IsItemInRange P words c base item
  item_in_range (call n) h numbered = one_in_range n h
  item_in_range (equal n m) h numbered = two_in_range n m h
  item_in_range (is n m pair) h numbered =
      let both = two_in_range n m h in
      let below : pair < is_goals clause.body = numbered n m pair refl in
      (both.0, both.1, omega (arith, below, fits))
  item_in_range (compare o n m) h numbered = two_in_range n m h
  item_in_range fail h numbered = tt

  -- Each item of the clause is in range, with the pair of an `is` goal,
  pub items_in_range : (i : ℕ) (item : NodeItem) → slice_get nodes.items i ≡ Some item → IsItemInRange P words c base item
  items_in_range i item e =
      item_in_range item
      (item_nodes Own nodes.items i item e (All-tail Own nodes.head (flat_map nodes_of_item nodes.items) own_node))
      (λ n m pair is_goal.
      let below : pair < 0 + is_goals (map (item_of ss) nodes.items) =
      pair_below ss 0 nodes.items i n m pair is_clause.body_there (e ∙ ap (λ (x : NodeItem). Some x) is_goal) in
      let same : is_goals (map (item_of ss) nodes.items) ≡ is_goals clause.body = ap is_goals is_clause.body in
      omega arith)

  -- and so is each goal of the clause.
  pub goals_in_range : (place i : ℕ) → i < length nodes.items
      → IsGoalInRange P words (record { node = place; item = i; clause = record { 0 = c }; base = base })
  goals_in_range place i lt =
      let none : NodeClause = record { head = 0; items = [] } in
      let all : List Clause = P.program.query ∷ P.program.clauses in
      let count : length P.skeleton.clauses ≡ length all = same_count ss P.skeleton.clauses all skeleton.1 in
      let read : slice_get nodes.items i ≡ Some (get_or nodes.items i fail) = slice_get-get_or nodes.items i fail lt in
      record {
        clause = nodes;
        item = get_or nodes.items i fail;
        clause_is = slice_get-get_or P.skeleton.clauses c none (omega arith);
        item_is = read;
        item_in_range = items_in_range i (get_or nodes.items i fail) read;
      }
