-- What the nodes of a loaded program say of its clauses, and what of a clause is in range of a row.
use Rattle.std.proofs.Common.{ℕ, zero, suc, ◌+◌, ◌^◌, ◌≡◌, ◌<◌, ◌≤◌, List, [], ◌∷◌, length, map, get_or, Some, refl, sym, ap, ◌∙◌, subst}
use Rattle.std.proofs.Common.{arith}
use Rattle.std.specs.Prelude.{slice_get}
use Rattle.std.proofs.lemmas.List.{length-map}
use Rattle.std.proofs.lemmas.List.Elements.{All-weaker}
use Rattle.std.proofs.lemmas.Option.{slice_get-get_or, slice_get_within}
use Rattle.and_model.specs.Terms.{Path, variables_of}
use Rattle.and_model.specs.Programs
use Rattle.and_model.specs.Programs.{Program, Item, Clause, clause_at, clause_weight, is_goals}
use Rattle.and_model.specs.OwnVariables.{IsOwn}
use Rattle.and_model.specs.declared.goal.Goal.{Goal}
use Rattle.and_program.specs.Skeletons
use Rattle.and_program.specs.Skeletons.{Shape, NodeItem, NodeClause, node_term, item_of, IsThere, AllThere, after, IsClause, AllClauses}
use Rattle.and_program.specs.Skeletons.{IsSkeleton}
use Rattle.and_program.specs.Loaded.{nodes_at}
use Rattle.and_cells.specs.Ranges.{NamedProgram, IsNodeInRange, IsItemInRange, IsGoalInRange}
use Rattle.and_branch_laws.specs.OwnVariables.{IsLoaded}
use Rattle.and_branch_laws.specs.Variables.{SpeaksOf}
use Rattle.and_branch_laws.proofs.Growing.{body_is_own}
use Rattle.and_branch_laws.proofs.Owning.{ItemSpeaksOf, item_speaks}
use Rattle.and_branch_laws.proofs.Lists.{all_of}

-- ---- The clauses

clauses_there : (ss : List Shape) (ns : List NodeClause) (ks : List Clause) → AllClauses ss ns ks → (c : ℕ) (d : NodeClause) (e : Clause)
    → c < length ks → (c < length ns) × IsClause ss (get_or ns c d) (get_or ks c e)
clauses_there ss [] [] all c d e l = absurd (omega arith)
clauses_there ss [] (k ∷ ks) all c d e l = elim all [ ]
clauses_there ss (n ∷ ns) [] all c d e l = elim all [ ]
clauses_there ss (n ∷ ns) (k ∷ ks) all zero d e l = (omega arith, all.0)
clauses_there ss (n ∷ ns) (k ∷ ks) all (suc c) d e l = let r = clauses_there ss ns ks all.1 c d e (omega arith) in
    (let b = r.0 in omega arith, r.1)

module _ (P : NamedProgram) (loaded : IsLoaded P) (c : ℕ) (there : c ≤ length P.program.clauses) where
  both : (c < length P.skeleton.clauses) × IsClause P.skeleton.nodes (nodes_at P.skeleton c) (clause_at P.program c)
  both = clauses_there P.skeleton.nodes P.skeleton.clauses (P.program.query ∷ P.program.clauses) loaded.skeleton.1 c
      (record { head = 0; items = [] }) P.program.query (omega arith)

  pub clause_nodes : IsClause P.skeleton.nodes (nodes_at P.skeleton c) (clause_at P.program c)
  clause_nodes = both.1

  clause_found : slice_get P.skeleton.clauses c ≡ Some (nodes_at P.skeleton c)
  clause_found = slice_get-get_or P.skeleton.clauses c (record { head = 0; items = [] }) both.0

  -- each item of its body is that of its nodes
  pub item_of_nodes : (i : ℕ)
      → get_or (clause_at P.program c).body i Programs.fail ≡ item_of P.skeleton.nodes
      (get_or (nodes_at P.skeleton c).items i Skeletons.fail)
  item_of_nodes i =
      let k = clause_nodes in
      let items : List NodeItem = (nodes_at P.skeleton c).items in
      ap (λ (l : List Item). get_or l i Programs.fail) (sym k.body) ∙ mapped items i
    where
      mapped : (items : List NodeItem) (i : ℕ)
          → get_or (map (item_of P.skeleton.nodes) items) i Programs.fail ≡ item_of P.skeleton.nodes (get_or items i Skeletons.fail)
      mapped [] i = refl
      mapped (x ∷ items) zero = refl
      mapped (x ∷ items) (suc i) = mapped items i

  pub as_many : length (nodes_at P.skeleton c).items ≡ length (clause_at P.program c).body
  as_many = let k = clause_nodes in sym (length-map (nodes_at P.skeleton c).items (item_of P.skeleton.nodes)) ∙ ap length k.body

-- ---- A goal that is in range

as_many_clauses : (ss : List Shape) (ns : List NodeClause) (ks : List Clause) → AllClauses ss ns ks → length ns ≡ length ks
as_many_clauses ss [] [] all = refl
as_many_clauses ss [] (k ∷ ks) all = elim all [ ]
as_many_clauses ss (n ∷ ns) [] all = elim all [ ]
as_many_clauses ss (n ∷ ns) (k ∷ ks) all = ap suc (as_many_clauses ss ns ks all.1)

-- has its clause in the program.
pub goal_clause_there : (P : NamedProgram) → IsLoaded P → (words : ℕ) (g : Goal) → IsGoalInRange P words g
    → g.clause.0 ≤ length P.program.clauses
goal_clause_there P loaded words g in_range =
    let low : g.clause.0 < length P.skeleton.clauses =
    slice_get_within P.skeleton.clauses g.clause.0 in_range.clause in_range.clause_is in
    let same = as_many_clauses P.skeleton.nodes P.skeleton.clauses (P.program.query ∷ P.program.clauses) loaded.skeleton.1 in
    omega arith

-- ---- `is` goals are numbered

-- how many `is` goals come before the item
abbrev pub numbers_before : List NodeItem → ℕ → ℕ
numbers_before [] i = 0
numbers_before (x ∷ items) zero = 0
numbers_before (x ∷ items) (suc i) = after (numbers_before items i) x

after_plus : (k n : ℕ) (x : NodeItem) → after k x + n ≡ k + after n x
after_plus k n (Skeletons.call m) = refl
after_plus k n (Skeletons.equal m l) = refl
after_plus k n (Skeletons.is m l pair) = omega arith
after_plus k n (Skeletons.compare o m l) = refl
after_plus k n Skeletons.fail = refl

there_at : (ss : List Shape) (k : ℕ) (items : List NodeItem) → AllThere ss k items → (i : ℕ)
    → IsThere ss (k + numbers_before items i) (get_or items i Skeletons.fail)
there_at ss k [] all i = tt
there_at ss k (x ∷ items) all zero = subst (λ (n : ℕ). IsThere ss n x) (let e : k ≡ k + 0 = omega arith in e) all.0
there_at ss k (x ∷ items) all (suc i) = subst (λ (n : ℕ). IsThere ss n (get_or items i Skeletons.fail))
    (after_plus k (numbers_before items i) x) (there_at ss (after k x) items all.1 i)

abbrev pub is_number : NodeItem → ℕ → Type 0
is_number (Skeletons.call n) k = ⊥
is_number (Skeletons.equal n m) k = ⊥
is_number (Skeletons.is n m number) k = number ≡ k
is_number (Skeletons.compare o n m) k = ⊥
is_number Skeletons.fail k = ⊥

goals_after : (ss : List Shape) (x : NodeItem) (items : List NodeItem)
    → is_goals (map (item_of ss) (x ∷ items)) ≡ after (is_goals (map (item_of ss) items)) x
goals_after ss (Skeletons.call n) items = refl
goals_after ss (Skeletons.equal n m) items = refl
goals_after ss (Skeletons.is n m pair) items = refl
goals_after ss (Skeletons.compare o n m) items = refl
goals_after ss Skeletons.fail items = refl

after_more : (k n : ℕ) (x : NodeItem) → k < n → after k x < after n x
after_more k n (Skeletons.call m) l = l
after_more k n (Skeletons.equal m j) l = l
after_more k n (Skeletons.is m j pair) l = omega arith
after_more k n (Skeletons.compare o m j) l = l
after_more k n Skeletons.fail l = l

-- the number of an `is` goal is below their count,
number_below : (ss : List Shape) (items : List NodeItem) (i n m pair : ℕ) → get_or items i Skeletons.fail ≡ Skeletons.is n m pair
    → numbers_before items i < is_goals (map (item_of ss) items)
number_below ss [] i n m pair e = absurd (cc)
number_below ss (x ∷ items) zero n m pair e = subst (λ (y : NodeItem). 0 < is_goals (map (item_of ss) (y ∷ items))) (sym e) (omega arith)
number_below ss (x ∷ items) (suc i) n m pair e =
    let less = after_more (numbers_before items i) (is_goals (map (item_of ss) items)) x (number_below ss items i n m pair e) in
    let same = goals_after ss x items in
    omega arith

-- and two of them have two.
pub numbers_apart : (items : List NodeItem) (i j n m pair : ℕ) → i < j → get_or items i Skeletons.fail ≡ Skeletons.is n m pair
    → j < length items → numbers_before items i < numbers_before items j
numbers_apart [] i j n m pair l e there = absurd (omega arith)
numbers_apart (x ∷ items) i zero n m pair l e there = absurd (omega arith)
numbers_apart (x ∷ items) zero (suc j) n m pair l e there = subst (λ (y : NodeItem). 0 < after (numbers_before items j) y) (sym e)
    (omega arith)
numbers_apart (x ∷ items) (suc i) (suc j) n m pair l e there = after_more (numbers_before items i) (numbers_before items j) x
    (numbers_apart items i j n m pair (omega arith) e (omega arith))

-- ---- Ranges

pub clause_weighs_more : (k : Clause) → clause_weight k ≡ 1 + k.variables + (is_goals k.body + is_goals k.body)
unfolding clause_weight
clause_weighs_more k = refl

module _ (P : NamedProgram) (loaded : IsLoaded P) (c : ℕ) (there : c ≤ length P.program.clauses) (words base : ℕ)
    (room : base + clause_weight (clause_at P.program c) ≤ words) (short : words ≤ 2 ^ 22 + 256) where
  node_fits : (n : ℕ) → n < length P.skeleton.nodes → SpeaksOf (IsOwn (clause_at P.program c).variables) (node_term P.skeleton.nodes n)
      → IsNodeInRange P words n base
  node_fits n lt speaks =
      let weighs = clause_weighs_more (clause_at P.program c) in
      let few = loaded.few in
      record {
        there = lt;
        nameable = omega arith;
        base_below = omega arith;
        cells = all_of (λ (v : Path × ℕ). base + 1 + v.1 < words) (variables_of (node_term P.skeleton.nodes n))
            (λ v h. let o = (speaks v h).1 in omega arith);
      }

  item_fits : (x : NodeItem) (k : ℕ) → IsThere P.skeleton.nodes k x
      → ItemSpeaksOf (IsOwn (clause_at P.program c).variables) (item_of P.skeleton.nodes x)
      → ((n m pair : ℕ) → x ≡ Skeletons.is n m pair → k < is_goals (clause_at P.program c).body) → IsItemInRange P words c base x
  item_fits (Skeletons.call n) k t s b = node_fits n t s
  item_fits (Skeletons.equal n m) k t s b = (node_fits n t.0 s.0, node_fits m t.1 s.1)
  item_fits (Skeletons.is n m pair) k t s b =
      let weighs = clause_weighs_more (clause_at P.program c) in
      let low = b n m pair refl in
      let same = t.2 in
      (node_fits n t.0 s.0, node_fits m t.1 s.1, omega arith)
  item_fits (Skeletons.compare o n m) k t s b = (node_fits n t.0 s.0, node_fits m t.1 s.1)
  item_fits Skeletons.fail k t s b = tt

  pub item_in_range : (i : ℕ) → IsItemInRange P words c base (get_or (nodes_at P.skeleton c).items i Skeletons.fail)
  item_in_range i =
      let k = clause_nodes P loaded c there in
      let items : List NodeItem = (nodes_at P.skeleton c).items in
      let body : List Item = (clause_at P.program c).body in
      let own : ItemSpeaksOf (IsOwn (clause_at P.program c).variables) (get_or body i Programs.fail) =
      item_speaks (clause_at P.program c).variables body (body_is_own P loaded.own c) i in
      item_fits (get_or items i Skeletons.fail) (0 + numbers_before items i) (there_at P.skeleton.nodes 0 items k.body_there i)
      (subst (λ x. ItemSpeaksOf (IsOwn (clause_at P.program c).variables) x) (item_of_nodes P loaded c there i) own)
      (λ n m pair e. let low = number_below P.skeleton.nodes items i n m pair e in let same = ap is_goals k.body in omega arith)

  pub goal_in_range : (g : Goal) → g.clause.0 ≡ c → g.base ≡ base → g.item < length (clause_at P.program c).body → IsGoalInRange P words g
  goal_in_range g clauses bases low =
      let items : List NodeItem = (nodes_at P.skeleton c).items in
      let many = as_many P loaded c there in
      record {
        clause = nodes_at P.skeleton c;
        item = get_or items g.item Skeletons.fail;
        clause_is = ap (slice_get P.skeleton.clauses) clauses ∙ clause_found P loaded c there;
        item_is = slice_get-get_or items g.item Skeletons.fail (omega arith);
        item_in_range = subst (λ (d : ℕ). IsItemInRange P words d g.base (get_or items g.item Skeletons.fail)) (sym clauses)
            (subst (λ (b : ℕ). IsItemInRange P words c b (get_or items g.item Skeletons.fail)) (sym bases) (item_in_range g.item));
      }

-- What is in range stays so in a longer row.
node_range_more : (P : NamedProgram) (words more n base : ℕ) → words ≤ more → IsNodeInRange P words n base → IsNodeInRange P more n base
node_range_more P words more n base l r = record {
  there = r.there;
  nameable = r.nameable;
  base_below = r.base_below;
  cells = All-weaker (λ (v : Path × ℕ). base + 1 + v.1 < words) (λ (v : Path × ℕ). base + 1 + v.1 < more) (λ v h. omega arith)
      (variables_of (node_term P.skeleton.nodes n)) r.cells;
}

item_range_more : (P : NamedProgram) (words more c base : ℕ) → words ≤ more → (x : NodeItem) → IsItemInRange P words c base x
    → IsItemInRange P more c base x
item_range_more P words more c base l (Skeletons.call n) r = node_range_more P words more n base l r
item_range_more P words more c base l (Skeletons.equal n m) r =
    (node_range_more P words more n base l r.0, node_range_more P words more m base l r.1)
item_range_more P words more c base l (Skeletons.is n m pair) r =
    (node_range_more P words more n base l r.0, node_range_more P words more m base l r.1, let p = r.2 in omega arith)
item_range_more P words more c base l (Skeletons.compare o n m) r =
    (node_range_more P words more n base l r.0, node_range_more P words more m base l r.1)
item_range_more P words more c base l Skeletons.fail r = tt

pub goal_range_more : (P : NamedProgram) (words more : ℕ) (g : Goal) → words ≤ more → IsGoalInRange P words g → IsGoalInRange P more g
goal_range_more P words more g l r = record {
  clause = r.clause;
  item = r.item;
  clause_is = r.clause_is;
  item_is = r.item_is;
  item_in_range = item_range_more P words more g.clause.0 g.base l r.item r.item_in_range;
}

-- An `is` goal of a clause has the number of those before it, which is below their count.
pub number_is : (P : NamedProgram) (loaded : IsLoaded P) (c : ℕ) (there : c ≤ length P.program.clauses) (i n m pair : ℕ)
    → get_or (nodes_at P.skeleton c).items i Skeletons.fail ≡ Skeletons.is n m pair
    → (pair ≡ numbers_before (nodes_at P.skeleton c).items i) × (pair < is_goals (clause_at P.program c).body)
number_is P loaded c there i n m pair e =
    let k = clause_nodes P loaded c there in
    let items : List NodeItem = (nodes_at P.skeleton c).items in
    let at : IsThere P.skeleton.nodes (0 + numbers_before items i) (Skeletons.is n m pair) =
    subst (λ x. IsThere P.skeleton.nodes (0 + numbers_before items i) x) e (there_at P.skeleton.nodes 0 items k.body_there i) in
    let low = number_below P.skeleton.nodes items i n m pair e in
    let same = ap is_goals k.body in
    let number = at.2 in
    (omega arith, omega arith)
