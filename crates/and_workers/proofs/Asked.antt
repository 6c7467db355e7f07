-- What the pairs of a reduction ask of the cells.
use Rattle.std.proofs.Common.{ℕ, zero, suc, ◌+◌, ◌≡◌, ◌<◌, ◌≤◌, Bool, true, false, cond, List, [], ◌∷◌, ◌++◌, append_assoc, length, map, get_or, drop}
use Rattle.std.proofs.Common.{refl, sym, ap, ◌∙◌, subst, arith, All, Contains}
use Rattle.std.proofs.Common.{inl, inr, append-nil, pos}
use Rattle.std.proofs.lemmas.List.{at_drop_more}
use Rattle.std.proofs.lemmas.List.Elements.{All-nil, All-cons, All-append, All-contains, Contains-append_cases}
use Rattle.std.proofs.lemmas.Bool.{false≢true}
use Rattle.std.proofs.lemmas.Grind.{flat_map-append}
use Rattle.and_model.specs.Terms.{Path, Term, number, variables_of, Substitution}
use Rattle.and_model.specs.Solutions.{Equation, Solves, falsehood}
use Rattle.and_model.specs.Programs.{Item, clause_at, clause_weight}
use Rattle.and_model.specs.Stands.{item_term}
use Rattle.and_model.specs.Store.{is_half}
use Rattle.and_model.specs.OwnVariables.{IsOwn, AreOwn}
use Rattle.and_model.specs.declared.goal.Goal.{Goal}
use Rattle.and_model.specs.declared.limits.TheConstants.{MAX_LIMIT}
use Rattle.and_program.specs.Skeletons
use Rattle.and_program.specs.Skeletons.{Shape, NodeItem, AllThere, IsThere, AllFall, after, node_term, item_of}
use Rattle.and_program.specs.Loaded.{nodes_at}
use Rattle.and_program.specs.Items.{node_item}
use Rattle.and_program.specs.declared.item.ItemNode.{ItemNode}
use Rattle.and_cells.specs.Ranges.{NamedProgram, IsInRange, IsNodeInRange, IsItemInRange}
use Rattle.and_cells.specs.Seen.{Seen, IsWrittenIfNumber}
use Rattle.and_cells.specs.Meaning.{Words, shallow_cells, equations_between}
use Rattle.and_cells.specs.Parts.{part_at}
use Rattle.and_branch_laws.specs.OwnVariables.{IsLoaded}
use Rattle.and_branch_laws.specs.Reducing.{body_equations, reduction_in_cells}
use Rattle.and_branch_laws.specs.Variables.{SpeaksOf, placed}
use Rattle.and_branch_laws.proofs.Clauses.{clause_nodes, item_of_nodes, item_in_range, clause_weighs_more}
use Rattle.and_branch_laws.proofs.Growing.{body_is_own, head_is_own}
use Rattle.and_branch_laws.proofs.Owning.{ItemSpeaksOf, item_speaks}
use Rattle.and_branch_laws.proofs.Lists.{all_of}
use Rattle.and_branch_laws.proofs.PairEquations.{IsWholeIn, part_cells, nodes_ask}
use Rattle.and_guards.proofs.Resolved.{part_in_range, part_written}
use Rattle.and_unify.specs.Pairs.{AreInRange, AreWritten, NameNoHalf, equations_of_pairs}
use Rattle.and_unify.specs.declared.pairs.Pair.{Pair}
use Rattle.and_workers.specs.Asking.{nodes_pair, call_pair, item_pairs, HasSides, is_fail, has_fail}
use Rattle.and_handed.specs.Handed.{IsWholeFrame}
use Rattle.and_workers.specs.Items.{IsItemOver}

-- ---- Item by item

has_sides : (ss : List Shape) (k : ℕ) (x : NodeItem) → IsThere ss k x → HasSides (length ss) x
has_sides ss k (Skeletons.call n) there = tt
has_sides ss k (Skeletons.equal n m) there = there
has_sides ss k (Skeletons.is n m pair) there = tt
has_sides ss k (Skeletons.compare r n m) there = tt
has_sides ss k Skeletons.fail there = tt

pub sides_there : (ss : List Shape) (k : ℕ) (items : List ItemNode) → AllThere ss k (map node_item items) → (i : ℕ) (d : ItemNode) → i < length items
    → HasSides (length ss) (node_item (get_or items i d))
sides_there ss k [] all i d low = absurd (omega arith)
sides_there ss k (x ∷ items) all zero d low = has_sides ss k (node_item x) all.0
sides_there ss k (x ∷ items) all (suc i) d low = sides_there ss (after k (node_item x)) items all.1 i d (omega arith)

-- what is asked for a list of items is asked for the first one and then for the others
pub first_pairs : (P : NamedProgram) (floor : ℕ) (x : NodeItem) (items : List NodeItem)
    → item_pairs P floor (x ∷ items) ≡ item_pairs P floor (x ∷ []) ++ item_pairs P floor items
first_pairs P floor (Skeletons.call n) items = refl
first_pairs P floor (Skeletons.equal n m) items = refl
first_pairs P floor (Skeletons.is n m pair) items = refl
first_pairs P floor (Skeletons.compare r n m) items = refl
first_pairs P floor Skeletons.fail items = refl

-- the first of the items that are left
parted : (items : List ItemNode) (index : ℕ) (d item : ItemNode) → index < length items → get_or items index d ≡ item
    → map node_item (drop index items) ≡ node_item item ∷ map node_item (drop (index + 1) items)
parted items index d item low is =
    ap (map node_item) (at_drop_more (λ (xs : List ItemNode). xs) items index d low ∙ ap (λ (y : ItemNode). y ∷ drop (index + 1) items) is)

-- One more of the items was asked for.
pub one_more_asked : (P : NamedProgram) (floor : ℕ) (items : List ItemNode) (index : ℕ) (d item : ItemNode) (old new total : List Pair) → index < length items
    → get_or items index d ≡ item → new ≡ old ++ item_pairs P floor (node_item item ∷ [])
    → old ++ item_pairs P floor (map node_item (drop index items)) ≡ total → new ++ item_pairs P floor (map node_item (drop (index + 1) items)) ≡ total
one_more_asked P floor items index d item old new total low is added all =
    let rest : List NodeItem = map node_item (drop (index + 1) items) in
    ap (λ (ps : List Pair). ps ++ item_pairs P floor rest) added
    ∙ append_assoc old (item_pairs P floor (node_item item ∷ [])) (item_pairs P floor rest)
    ∙ ap (λ (ps : List Pair). old ++ ps) (sym (first_pairs P floor (node_item item) rest))
    ∙ ap (λ (xs : List NodeItem). old ++ item_pairs P floor xs) (sym (parted items index d item low is))
    ∙ all

-- The item is not `fail`, so that those behind it have `fail` where it and they have.
pub fails_later : (items : List ItemNode) (index : ℕ) (d item : ItemNode) (total : Bool) → index < length items → get_or items index d ≡ item
    → is_fail (node_item item) ≡ false → has_fail (map node_item (drop index items)) ≡ total
    → has_fail (map node_item (drop (index + 1) items)) ≡ total
fails_later items index d item total low is none all =
    ap (λ (b : Bool). cond b true (has_fail (map node_item (drop (index + 1) items)))) (sym none) ∙ ap has_fail (sym (parted items index d item low is)) ∙ all

-- ---- Pairs, and the equations that they ask for

-- Over so many words the pairs can be handed to unification. In words of which this holds they name no word of a pair, and ask for just these
-- equations.
pub record Asks (P : NamedProgram) (words : ℕ) (Whole : Words → Type 0) (pairs : List Pair) (es : List Equation) : Type 0 where
  pub in_range : AreInRange P words pairs
  pub written : (s : Seen) → AreWritten s pairs
  pub whole : (w : Words) → Whole w → NameNoHalf P w pairs
  pub equations : (w : Words) → Whole w → equations_of_pairs P w pairs ≡ es

-- The variables of a node of a clause lie in the clause's frame, so that none is a word of a pair where that frame is whole.
pub own_is_whole : (P : NamedProgram) (w : Words) (c b n : ℕ) → SpeaksOf (IsOwn (clause_at P.program c).variables) (node_term P.skeleton.nodes n)
    → IsWholeFrame P w c b → IsWholeIn P w b n
own_is_whole P w c b n own whole v at = whole v.1 (own v at).1

pub node_names_no_half : (P : NamedProgram) (w : Words) (b n : ℕ) → AllFall 0 P.skeleton.nodes → IsWholeIn P w b n → (cell : ℕ)
    → Contains (shallow_cells P (part_at P b n)) cell → is_half (w cell) ≡ false
node_names_no_half P w b n fall whole cell c =
    let (v, at, is) = part_cells P b n fall cell c in
    ap (λ (m : ℕ). is_half (w m)) is ∙ whole v at

nothing_asks : (P : NamedProgram) (words : ℕ) (Whole : Words → Type 0) → Asks P words Whole [] []
nothing_asks P words Whole = record {
  in_range = All-nil (λ (p : Pair). IsInRange P words p.left × IsInRange P words p.right);
  written = λ s. All-nil (λ (p : Pair). IsWrittenIfNumber s p.left × IsWrittenIfNumber s p.right);
  whole = λ w all. All-nil (λ (p : Pair). All (λ (cell : ℕ). is_half (w cell) ≡ false) (shallow_cells P p.left ++ shallow_cells P p.right));
  equations = λ w all. refl;
}

-- two nodes in their frames
nodes_asked : (P : NamedProgram) (words : ℕ) (Whole : Words → Type 0) (b n d m : ℕ) → AllFall 0 P.skeleton.nodes → IsNodeInRange P words n b
    → IsNodeInRange P words m d → ((w : Words) → Whole w → IsWholeIn P w b n) → ((w : Words) → Whole w → IsWholeIn P w d m)
    → Asks P words Whole (nodes_pair P b n d m ∷ []) ((placed b (node_term P.skeleton.nodes n), placed d (node_term P.skeleton.nodes m)) ∷ [])
nodes_asked P words Whole b n d m fall left right one other =
    let p : Pair = nodes_pair P b n d m in
    record {
      in_range = All-cons (λ (p : Pair). IsInRange P words p.left × IsInRange P words p.right) p []
          (part_in_range P words n b fall left, part_in_range P words m d fall right)
          (All-nil (λ (p : Pair). IsInRange P words p.left × IsInRange P words p.right));
      written = λ s. All-cons (λ (p : Pair). IsWrittenIfNumber s p.left × IsWrittenIfNumber s p.right) p [] (part_written P s b n, part_written P s d m)
          (All-nil (λ (p : Pair). IsWrittenIfNumber s p.left × IsWrittenIfNumber s p.right));
      whole = λ w all.
          All-cons (λ (p : Pair). All (λ (cell : ℕ). is_half (w cell) ≡ false) (shallow_cells P p.left ++ shallow_cells P p.right)) p []
          (all_of (λ (cell : ℕ). is_half (w cell) ≡ false) (shallow_cells P (part_at P b n) ++ shallow_cells P (part_at P d m))
          (λ cell c. elim (Contains-append_cases (shallow_cells P (part_at P b n)) (shallow_cells P (part_at P d m)) cell c) [
            | inl i ↦ node_names_no_half P w b n fall (one w all) cell i
            | inr i ↦ node_names_no_half P w d m fall (other w all) cell i
          ])) (All-nil (λ (p : Pair). All (λ (cell : ℕ). is_half (w cell) ≡ false) (shallow_cells P p.left ++ shallow_cells P p.right)));
      equations = λ w all. append-nil (equations_between P w p.left p.right) ∙ nodes_ask P w b n d m fall (one w all) (other w all);
    }

asks_more : (P : NamedProgram) (words : ℕ) (Whole : Words → Type 0) (ps qs : List Pair) (es ds : List Equation) → Asks P words Whole ps es
    → Asks P words Whole qs ds → Asks P words Whole (ps ++ qs) (es ++ ds)
asks_more P words Whole ps qs es ds a b = record {
  in_range = All-append (λ (p : Pair). IsInRange P words p.left × IsInRange P words p.right) ps qs a.in_range b.in_range;
  written = λ s. All-append (λ (p : Pair). IsWrittenIfNumber s p.left × IsWrittenIfNumber s p.right) ps qs (a.written s) (b.written s);
  whole = λ w all. All-append (λ (p : Pair). All (λ (cell : ℕ). is_half (w cell) ≡ false) (shallow_cells P p.left ++ shallow_cells P p.right)) ps qs
      (a.whole w all) (b.whole w all);
  equations = λ w all. flat_map-append (λ (p : Pair). equations_between P w p.left p.right) ps qs
      ∙ ap (λ (xs : List Equation). xs ++ equations_of_pairs P w qs) (a.equations w all) ∙ ap (λ (xs : List Equation). es ++ xs) (b.equations w all);
}

-- ---- What a reduction asks

-- The items of a body without `fail`.
module _ (P : NamedProgram) (words : ℕ) (Whole : Words → Type 0) (c floor : ℕ) (fall : AllFall 0 P.skeleton.nodes)
    (frame : (w : Words) → Whole w → IsWholeFrame P w c floor) where
  items_asked : (items : List NodeItem) → ((i : ℕ) → IsItemInRange P words c floor (get_or items i Skeletons.fail))
      → ((i : ℕ) → ItemSpeaksOf (IsOwn (clause_at P.program c).variables) (item_of P.skeleton.nodes (get_or items i Skeletons.fail)))
      → has_fail items ≡ false
      → Asks P words Whole (item_pairs P floor items) (body_equations (placed floor) (map (item_of P.skeleton.nodes) items))
  items_asked [] range own none = nothing_asks P words Whole
  items_asked (Skeletons.call n ∷ items) range own none = items_asked items (λ i. range (suc i)) (λ i. own (suc i)) none
  items_asked (Skeletons.equal n m ∷ items) range own none =
      asks_more P words Whole (nodes_pair P floor n floor m ∷ []) (item_pairs P floor items)
      ((placed floor (node_term P.skeleton.nodes n), placed floor (node_term P.skeleton.nodes m)) ∷ [])
      (body_equations (placed floor) (map (item_of P.skeleton.nodes) items))
      (nodes_asked P words Whole floor n floor m fall (range 0).0 (range 0).1 (λ w all. own_is_whole P w c floor n (own 0).0 (frame w all))
      (λ w all. own_is_whole P w c floor m (own 0).1 (frame w all)))
      (items_asked items (λ i. range (suc i)) (λ i. own (suc i)) none)
  items_asked (Skeletons.is n m pair ∷ items) range own none = items_asked items (λ i. range (suc i)) (λ i. own (suc i)) none
  items_asked (Skeletons.compare r n m ∷ items) range own none = items_asked items (λ i. range (suc i)) (λ i. own (suc i)) none
  items_asked (Skeletons.fail ∷ items) range own none = absurd (false≢true (sym none))

-- The clause's frame begins at the floor, and lies in the words. The goal's node is a call over the words.
module _ (P : NamedProgram) (loaded : IsLoaded P) (words : ℕ) (g : Goal) (n : ℕ) (over : IsItemOver P words g (Skeletons.call n))
    (g_there : g.clause.0 ≤ length P.program.clauses) (c floor : ℕ) (there : c ≤ length P.program.clauses)
    (room : floor + clause_weight (clause_at P.program c) ≤ words) (short : words ≤ MAX_LIMIT) where
  head_in_range : IsNodeInRange P words (nodes_at P.skeleton c).head floor
  head_in_range =
      let k = clause_nodes P loaded c there in
      let few = loaded.few in
      let weighs = clause_weighs_more (clause_at P.program c) in
      let head : ℕ = (nodes_at P.skeleton c).head in
      let own : AreOwn (clause_at P.program c).variables (node_term P.skeleton.nodes head) =
      subst (AreOwn (clause_at P.program c).variables) (sym k.head) (head_is_own P loaded.own c) in
      record {
        there = k.head_there;
        nameable = let low = k.head_there in omega arith;
        base_below = omega arith;
        cells = all_of (λ (v : Path × ℕ). floor + 1 + v.1 < words) (variables_of (node_term P.skeleton.nodes head))
            (λ v i. let less = (All-contains (IsOwn (clause_at P.program c).variables) (variables_of (node_term P.skeleton.nodes head)) v own i).1 in
            omega arith);
      }

  head_is_whole : (w : Words) → IsWholeFrame P w c floor → IsWholeIn P w floor (nodes_at P.skeleton c).head
  head_is_whole w whole =
      let k = clause_nodes P loaded c there in
      let head : ℕ = (nodes_at P.skeleton c).head in
      own_is_whole P w c floor head (λ v i. All-contains (IsOwn (clause_at P.program c).variables) (variables_of (node_term P.skeleton.nodes head)) v
      (subst (AreOwn (clause_at P.program c).variables) (sym k.head) (head_is_own P loaded.own c)) i) whole

  call_is_whole : (w : Words) → IsWholeFrame P w g.clause.0 g.base → IsWholeIn P w g.base n
  call_is_whole w whole =
      let own : ItemSpeaksOf (IsOwn (clause_at P.program g.clause.0).variables) (item_of P.skeleton.nodes (Skeletons.call n)) =
      subst (ItemSpeaksOf (IsOwn (clause_at P.program g.clause.0).variables)) (sym over.is_item)
      (item_speaks (clause_at P.program g.clause.0).variables (clause_at P.program g.clause.0).body (body_is_own P loaded.own g.clause.0) g.item) in
      own_is_whole P w g.clause.0 g.base n own whole

  -- both frames are whole
  abbrev pub BothWhole : Words → Type 0
  BothWhole w = IsWholeFrame P w g.clause.0 g.base × IsWholeFrame P w c floor

  pub reduction_asked : has_fail (nodes_at P.skeleton c).items ≡ false
      → Asks P words BothWhole (call_pair P g.base n c floor ∷ item_pairs P floor (nodes_at P.skeleton c).items) (reduction_in_cells P.program g c floor)
  reduction_asked none =
      let k = clause_nodes P loaded c there in
      let ss : List Shape = P.skeleton.nodes in
      let items : List NodeItem = (nodes_at P.skeleton c).items in
      let pairs : List Pair = call_pair P g.base n c floor ∷ item_pairs P floor items in
      let head : ℕ = (nodes_at P.skeleton c).head in
      let own : (i : ℕ) → ItemSpeaksOf (IsOwn (clause_at P.program c).variables) (item_of ss (get_or items i Skeletons.fail)) =
      λ i. subst (ItemSpeaksOf (IsOwn (clause_at P.program c).variables)) (item_of_nodes P loaded c there i)
      (item_speaks (clause_at P.program c).variables (clause_at P.program c).body (body_is_own P loaded.own c) i) in
      let by_nodes = asks_more P words BothWhole (call_pair P g.base n c floor ∷ []) (item_pairs P floor items)
      ((placed g.base (node_term ss n), placed floor (node_term ss head)) ∷ []) (body_equations (placed floor) (map (item_of ss) items))
      (nodes_asked P words BothWhole g.base n floor head loaded.skeleton.0 over.item_in_range head_in_range (λ w all. call_is_whole w all.0)
      (λ w all. head_is_whole w all.1))
      (items_asked P words BothWhole c floor loaded.skeleton.0 (λ w all. all.1) items
      (item_in_range P loaded c there words floor room (omega arith)) own none) in
      subst (λ (t : Term). Asks P words BothWhole pairs ((placed g.base t, placed floor (clause_at P.program c).head)
      ∷ body_equations (placed floor) (clause_at P.program c).body)) (ap item_term over.is_item)
      (subst (λ (t : Term). Asks P words BothWhole pairs ((placed g.base (node_term ss n), placed floor t)
      ∷ body_equations (placed floor) (clause_at P.program c).body)) k.head
      (subst (λ (xs : List Item). Asks P words BothWhole pairs ((placed g.base (node_term ss n), placed floor (node_term ss head))
      ∷ body_equations (placed floor) xs)) k.body by_nodes))

-- Nothing solves what a body with `fail` asks.
false_is_unsolved : (t : Substitution) (es : List Equation) → Solves t (falsehood ∷ es) → ⊥
false_is_unsolved t es p = let e : number (pos 0) ≡ number (pos 1) = p.0 in absurd (cc)

failing_items : (ss : List Shape) (put : Term → Term) (items : List NodeItem) → has_fail items ≡ true → (t : Substitution)
    → Solves t (body_equations put (map (item_of ss) items)) → ⊥
failing_items ss put [] fails t p = absurd (false≢true fails)
failing_items ss put (Skeletons.call n ∷ items) fails t p = failing_items ss put items fails t p
failing_items ss put (Skeletons.equal n m ∷ items) fails t p = failing_items ss put items fails t p.1
failing_items ss put (Skeletons.is n m pair ∷ items) fails t p = failing_items ss put items fails t p
failing_items ss put (Skeletons.compare r n m ∷ items) fails t p = failing_items ss put items fails t p
failing_items ss put (Skeletons.fail ∷ items) fails t p = false_is_unsolved t (body_equations put (map (item_of ss) items)) p

pub failing_reduction : (P : NamedProgram) (loaded : IsLoaded P) (g : Goal) (c floor : ℕ) → c ≤ length P.program.clauses
    → has_fail (nodes_at P.skeleton c).items ≡ true → (t : Substitution) → Solves t (reduction_in_cells P.program g c floor) → ⊥
failing_reduction P loaded g c floor there fails t p =
    failing_items P.skeleton.nodes (placed floor) (nodes_at P.skeleton c).items fails t
    (subst (λ (xs : List Item). Solves t (body_equations (placed floor) xs)) (sym (clause_nodes P loaded c there).body) p.1)
