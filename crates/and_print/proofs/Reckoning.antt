-- The nodes of a goal, and its term.
use Rattle.std.proofs.Common.{ℕ, zero, suc, ◌≡◌, ◌+◌, ◌<◌, ◌≤◌, false, List, [], ◌∷◌, ◌++◌, length, map, get_or, drop, Some, refl, sym, ap, ◌∙◌, subst, arith}
use Rattle.std.proofs.Common.{nat_eq}
use Rattle.std.specs.Prelude.{slice_get, Contains}
use Rattle.std.proofs.lemmas.List.{get_or-map, length-map, drop_all}
use Rattle.std.proofs.lemmas.Option.{get_or_from_slice_get, slice_get_within}
use Rattle.std.proofs.lemmas.List.Elements.{Contains-append_left, Contains-append_right}
use Rattle.and_model.specs.Arithmetic
use Rattle.and_model.specs.Arithmetic.{Relation}
use Rattle.and_model.specs.Terms.{Path, Term, Substitution, variables_of, apply}
use Rattle.and_model.specs.Programs
use Rattle.and_model.specs.Programs.{Item}
use Rattle.and_model.specs.Lines.{relation_name, point_name}
use Rattle.and_model.specs.Stands.{item_term}
use Rattle.and_model.specs.declared.reference.Ref.{Ref}
use Rattle.and_model.specs.declared.reference.Ref.TheVariants.{Cell}
use Rattle.and_program.specs.Skeletons.{Shape, node_term, item_of, NodeClause, NodeItem, call, equal, is, compare, fail}
use Rattle.and_program.specs.Items.{node_item}
use Rattle.and_program.specs.declared.item.ItemNode.{ItemNode}
use Rattle.and_cells.specs.Ranges.{NamedProgram, IsItemInRange, IsNodeInRange}
use Rattle.and_cells.specs.Meaning.{StandsFor}
use Rattle.and_model.specs.declared.goal.Goal.{Goal}
use Rattle.and_model.specs.Programs.{clause_at}
use Rattle.and_program.specs.Loaded.{nodes_at}
use Rattle.and_print.specs.Goals.{NodeMeans, ItemMeans, GoalMeans, GoalsMean}

-- a comparison's name is not that of list cells
pub no_point : (r : Relation) (c : ℕ) → c ≡ relation_name r → nat_eq c point_name ≡ false
no_point Arithmetic.less c e = ap (λ (n : ℕ). nat_eq n point_name) e
no_point Arithmetic.greater c e = ap (λ (n : ℕ). nat_eq n point_name) e
no_point Arithmetic.at_most c e = ap (λ (n : ℕ). nat_eq n point_name) e
no_point Arithmetic.at_least c e = ap (λ (n : ℕ). nat_eq n point_name) e
no_point Arithmetic.same c e = ap (λ (n : ℕ). nat_eq n point_name) e
no_point Arithmetic.differs c e = ap (λ (n : ℕ). nat_eq n point_name) e

module _ (P : NamedProgram) (row : List Ref) (base : ℕ) (values : Substitution) where
  sides_mean : (l r : ℕ) → IsNodeInRange P (length row) l base → IsNodeInRange P (length row) r base
      → ((v : Path × ℕ) → Contains (variables_of (node_term P.skeleton.nodes l) ++ (variables_of (node_term P.skeleton.nodes r) ++ [])) v
      → StandsFor P row (Cell (base + 1 + v.1)) (values v.0 v.1))
      → NodeMeans P row l base values × NodeMeans P row r base values
  sides_mean l r one other cells =
      let left : List (Path × ℕ) = variables_of (node_term P.skeleton.nodes l) in
      let right : List (Path × ℕ) = variables_of (node_term P.skeleton.nodes r) in (
        record { in_range = one; cells = λ v h. cells v (Contains-append_left left (right ++ []) v h) },
        record { in_range = other; cells = λ v h. cells v (Contains-append_right left (right ++ []) v (Contains-append_left right [] v h)) },
      )

  -- an item in range, by the variables of its term
  pub item_means : (clause : ℕ) (i : NodeItem) → IsItemInRange P (length row) clause base i
      → ((v : Path × ℕ) → Contains (variables_of (item_term (item_of P.skeleton.nodes i))) v → StandsFor P row (Cell (base + 1 + v.1)) (values v.0 v.1))
      → ItemMeans P row i base values
  item_means clause (call n) fits cells = record { in_range = fits; cells = cells }
  item_means clause (equal l r) fits cells = sides_mean l r fits.0 fits.1 cells
  item_means clause (is l r pair) fits cells = sides_mean l r fits.0 fits.1 cells
  item_means clause (compare o l r) fits cells = sides_mean l r fits.0 fits.1 cells
  item_means clause fail fits cells = tt

-- the item that a goal names, where the items of its clause were read
module _ (ss : List Shape) (clauses : List NodeClause) (c n : ℕ) (k : NodeClause) (i : NodeItem) (d : NodeClause) (items : List ItemNode)
    (read : map node_item items ≡ (get_or clauses c d).items)
    (clause_is : slice_get clauses c ≡ Some k) (item_is : slice_get k.items n ≡ Some i) where
  same_items : map node_item items ≡ k.items
  same_items = read ∙ ap (λ (x : NodeClause). x.items) (get_or_from_slice_get clauses c k d clause_is)

  there : slice_get (map node_item items) n ≡ Some i
  there = ap (λ (xs : List NodeItem). slice_get xs n) same_items ∙ item_is

  item_at : (x : ItemNode) → node_item (get_or items n x) ≡ i
  item_at x =
      let within : n < length items = omega (arith, slice_get_within (map node_item items) n i there, length-map items node_item) in
      sym (get_or-map node_item items n x i within) ∙ get_or_from_slice_get (map node_item items) n i i there

  body_item : (body : List Item) → map (item_of ss) (map node_item items) ≡ body → get_or body n Programs.fail ≡ item_of ss i
  body_item body e =
      ap (λ (xs : List Item). get_or xs n Programs.fail) (sym e)
      ∙ get_or-map (item_of ss) (map node_item items) n i Programs.fail (slice_get_within (map node_item items) n i there)
      ∙ ap (item_of ss) (get_or_from_slice_get (map node_item items) n i i there)

-- The item that was read for a goal has the goal's term.
pub goal_read : (P : NamedProgram) (row : List Ref) (g : Goal) (t : Term) (m : GoalMeans P row g t) (items : List ItemNode) (x : ItemNode)
    → map node_item items ≡ (nodes_at P.skeleton g.clause.0).items
    → map (item_of P.skeleton.nodes) (map node_item items) ≡ (clause_at P.program g.clause.0).body
    → ItemMeans P row (node_item (get_or items g.item x)) g.base m.values
    × (t ≡ apply m.values (item_term (item_of P.skeleton.nodes (node_item (get_or items g.item x)))))
goal_read P row g t m items x read body =
    let r = m.in_range in
    let ss = P.skeleton.nodes in
    let none : NodeClause = record { head = 0; items = [] } in
    let is : node_item (get_or items g.item x) ≡ r.item =
    item_at ss P.skeleton.clauses g.clause.0 g.item r.clause r.item none items read r.clause_is r.item_is x in
    let item : get_or (clause_at P.program g.clause.0).body g.item Programs.fail ≡ item_of ss r.item =
    body_item ss P.skeleton.clauses g.clause.0 g.item r.clause r.item none items read r.clause_is r.item_is (clause_at P.program g.clause.0).body body in
    let cells : (v : Path × ℕ) → Contains (variables_of (item_term (item_of ss r.item))) v → StandsFor P row (Cell (g.base + 1 + v.1)) (m.values v.0 v.1) =
    λ v h. m.cells v (subst (λ (y : Item). Contains (variables_of (item_term y)) v) (sym item) h) in (
      subst (λ (y : NodeItem). ItemMeans P row y g.base m.values) (sym is) (item_means P row g.base m.values g.clause.0 r.item r.item_in_range cells),
      m.term ∙ ap (λ (y : Item). apply m.values (item_term y)) item ∙ ap (λ (y : NodeItem). apply m.values (item_term (item_of ss y))) (sym is),
    )

-- One of the goals, with the term at its place.
pub record GoalAt (P : NamedProgram) (row : List Ref) (g : Goal) (n : ℕ) (ts : List Term) : Type 0 where
  pub term : Term
  pub left : drop n ts ≡ term ∷ drop (n + 1) ts
  pub means : GoalMeans P row g term

pub goal_at : (P : NamedProgram) (row : List Ref) (gs : List Goal) (ts : List Term) (n : ℕ) (g : Goal) → slice_get gs n ≡ Some g → GoalsMean P row gs ts
    → GoalAt P row g n ts
goal_at P row [] [] n g e m = absurd (cc)
goal_at P row [] (t ∷ ts) n g e m = elim m [ ]
goal_at P row (h ∷ gs) [] n g e m = elim m [ ]
goal_at P row (h ∷ gs) (t ∷ ts) zero g e m =
    record { term = t; left = refl; means = (let same : h ≡ g = cc in subst (λ (k : Goal). GoalMeans P row k t) same m.0) }
goal_at P row (h ∷ gs) (t ∷ ts) (suc n) g e m =
    let r = goal_at P row gs ts n g e m.1 in
    let one : suc n + 1 ≡ suc (n + 1) = omega arith in
    record { term = r.term; left = r.left ∙ ap (λ (k : ℕ). r.term ∷ drop k (t ∷ ts)) (sym one); means = r.means }

-- as many terms as goals
pub goals_end : (P : NamedProgram) (row : List Ref) (gs : List Goal) (ts : List Term) (n : ℕ) → length gs ≤ n → GoalsMean P row gs ts → drop n ts ≡ []
goals_end P row [] [] n le m = drop_all n [] (omega arith)
goals_end P row [] (t ∷ ts) n le m = elim m [ ]
goals_end P row (h ∷ gs) [] n le m = elim m [ ]
goals_end P row (h ∷ gs) (t ∷ ts) zero le m = absurd (omega arith)
goals_end P row (h ∷ gs) (t ∷ ts) (suc n) le m = goals_end P row gs ts n (omega arith) m.1
