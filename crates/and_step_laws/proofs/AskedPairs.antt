-- The pairs that are handed to unification in a new frame: the call with the head, and the sides of an `=` item.
use Rattle.std.proofs.Common.{ℕ, zero, suc, ◌+◌, ◌≡◌, ◌<◌, ◌≤◌, List, [], ◌∷◌, ◌++◌, append_assoc, append-nil, length, map, get_or, drop}
use Rattle.std.proofs.Common.{refl, sym, ap, ◌∙◌, subst, arith}
use Rattle.std.specs.Prelude.{Contains}
use Rattle.std.proofs.Math.ListN.{get_or-map}
use Rattle.std.proofs.lemmas.List.{at_drop_more}
use Rattle.and_model.specs.Terms.{Term, variables_of}
use Rattle.and_model.specs.Solutions.{Equation}
use Rattle.and_model.specs.Programs
use Rattle.and_model.specs.Programs.{Item, clause_at}
use Rattle.and_model.specs.Stands.{term_of}
use Rattle.and_model.specs.declared.goal.Goal.{Goal}
use Rattle.and_model.specs.declared.reference.Ref.{Ref}
use Rattle.and_program.specs.Skeletons
use Rattle.and_program.specs.Skeletons.{Shape, NodeItem, node_term, item_of}
use Rattle.and_program.specs.Items.{node_item}
use Rattle.and_program.specs.declared.item.ItemNode.{ItemNode}
use Rattle.and_program.specs.declared.item.ItemNode.TheVariants.{Fail}
use Rattle.and_cell_laws.proofs.Images.{contains_image}
use Rattle.and_program.specs.Loaded.{nodes_at, shape_at}
use Rattle.and_cells.specs.Ranges.{NamedProgram}
use Rattle.and_cells.specs.Seen.{word_at}
use Rattle.and_cells.specs.Meaning.{shallow_cells}
use Rattle.and_cells.specs.Parts.{part_at}
use Rattle.and_branch_laws.specs.OwnVariables.{IsLoaded}
use Rattle.and_branch_laws.specs.Reducing.{body_equations}
use Rattle.and_branch_laws.specs.Variables.{placed}
use Rattle.and_branch_laws.proofs.Clauses.{clause_nodes}
use Rattle.and_branch_laws.proofs.Lists.{all_of}
use Rattle.and_branch_laws.proofs.PairEquations.{part_cells}
use Rattle.and_unify.specs.Pairs.{equations_of_pairs}
use Rattle.and_unify.specs.Settling.{KeepsBelow}
use Rattle.and_unify.specs.declared.pairs.Pair.{Pair}
use Rattle.and_branch_laws.specs.Goals.{IsNodeOf}
use Rattle.and_step_laws.specs.Asking.{AreReady, Ask, CanBeAsked}
use Rattle.and_step_laws.specs.Frames.{IsFrame, IsCallBelow}
use Rattle.and_step_laws.proofs.NewFrames.{own_keeps, head_reads, first_asked}
use Rattle.and_branch_laws.proofs.Resolved.{resolved_not_below}
use Rattle.and_step_laws.proofs.ReadyPairs.{IsReady, one_more, only_one, nodes_ready}

-- a pair of references that are found there is ready where that of what is found is
pub found_ready : (P : NamedProgram) (row : List Ref) (floor : ℕ) (left right a b : Ref) (es : List Equation) → left ≡ a → right ≡ b
    → IsReady P row floor (record { left = a; right = b }) es → IsReady P row floor (record { left = left; right = right }) es
found_ready P row floor left right a b es one other ready =
    let first : IsReady P row floor (record { left = left; right = b }) es =
    subst (λ (r : Ref). IsReady P row floor (record { left = r; right = b }) es) (sym one) ready in
    subst (λ (r : Ref). IsReady P row floor (record { left = left; right = r }) es) (sym other) first

-- The call with the head.
module _ (P : NamedProgram) (loaded : IsLoaded P) (row : List Ref) (c floor : ℕ) (there : c ≤ length P.program.clauses)
    (frame : IsFrame P row c floor) (g : Goal) (below : IsCallBelow P row floor g) (n : ℕ) (node : IsNodeOf P row g n) where
  call_keeps : KeepsBelow P floor (part_at P g.base n)
  call_keeps is_below =
      all_of (λ (x : ℕ). x < floor) (shallow_cells P (part_at P g.base n))
      (λ x i.
      let (v, at, is) = part_cells P g.base n loaded.skeleton.0 x i in
      let low = below.below v (subst (λ (t : Term). Contains (variables_of t) v) (sym node.term) at) in
      omega (arith, low, is))

  pub call_asked : (head : ℕ) → head ≡ (nodes_at P.skeleton c).head → (left right : Ref) → left ≡ part_at P g.base n
      → right ≡ part_at P floor head
      → (cleared pairs : List Pair) → cleared ≡ [] → pairs ≡ cleared ++ record { left = left; right = right } ∷ []
      → Ask P row floor pairs ((placed g.base (term_of P.program g), placed floor (clause_at P.program c).head) ∷ [])
  call_asked head is left right one other cleared pairs none pushed =
      let own : ℕ = (nodes_at P.skeleton c).head in
      let k = clause_nodes P loaded c there in
      let ready : IsReady P row floor (record { left = part_at P g.base n; right = part_at P floor own })
      ((placed g.base (node_term P.skeleton.nodes n), placed floor (node_term P.skeleton.nodes own)) ∷ []) =
      nodes_ready P row floor g.base n floor own loaded.skeleton.0 node.reads (head_reads P loaded row c floor there frame) call_keeps
      (own_keeps P loaded row c floor there frame own) in
      let terms : IsReady P row floor (record { left = part_at P g.base n; right = part_at P floor own })
      ((placed g.base (term_of P.program g), placed floor (clause_at P.program c).head) ∷ []) =
      subst (λ (t : Term). IsReady P row floor (record { left = part_at P g.base n; right = part_at P floor own })
      ((placed g.base t, placed floor (clause_at P.program c).head) ∷ [])) (sym node.term)
      (subst (λ (t : Term). IsReady P row floor (record { left = part_at P g.base n; right = part_at P floor own })
      ((placed g.base (node_term P.skeleton.nodes n), placed floor t) ∷ [])) k.head ready) in
      only_one P row floor cleared pairs (record { left = left; right = right })
      ((placed g.base (term_of P.program g), placed floor (clause_at P.program c).head) ∷ []) none pushed
      (found_ready P row floor left right (part_at P g.base n) (part_at P floor own)
      ((placed g.base (term_of P.program g), placed floor (clause_at P.program c).head) ∷ []) one (other ∙ ap (part_at P floor) is) terms)

-- The sides of an `=` item.
pub sides_asked : (P : NamedProgram) (loaded : IsLoaded P) (row : List Ref) (floor n m : ℕ) → CanBeAsked P row floor (Skeletons.equal n m)
    → (old new : List Pair) (left right : Ref) → left ≡ part_at P floor n → right ≡ part_at P floor m → AreReady P row floor old
    → new ≡ old ++ record { left = left; right = right } ∷ []
    → Ask P row floor new
    (equations_of_pairs P (word_at row) old ++ body_equations (placed floor) (item_of P.skeleton.nodes (Skeletons.equal n m) ∷ []))
sides_asked P loaded row floor n m can old new left right one other ready pushed =
    let keeps : (k : ℕ) → KeepsBelow P floor (part_at P floor k) =
    λ k below. absurd (resolved_not_below floor (shape_at P.skeleton k) (record { 0 = k }) below) in
    let es : List Equation = (placed floor (node_term P.skeleton.nodes n), placed floor (node_term P.skeleton.nodes m)) ∷ [] in
    let pair : IsReady P row floor (record { left = left; right = right }) es =
    found_ready P row floor left right (part_at P floor n) (part_at P floor m) es one other
    (nodes_ready P row floor floor n floor m loaded.skeleton.0 can.0 can.1 (keeps n) (keeps m)) in
    subst (λ (ps : List Pair). Ask P row floor ps (equations_of_pairs P (word_at row) old ++ es)) (sym pushed)
    (one_more P row floor old (record { left = left; right = right }) es ready pair)

-- An item that asks for nothing.
pub nothing_asked : (P : NamedProgram) (row : List Ref) (floor : ℕ) (pairs : List Pair) (es : List Equation) → es ≡ []
    → AreReady P row floor pairs
    → Ask P row floor pairs (equations_of_pairs P (word_at row) pairs ++ es)
nothing_asked P row floor pairs es none ready = record {
  ready = ready;
  equations = sym (append-nil (equations_of_pairs P (word_at row) pairs))
      ∙ ap (λ (ds : List Equation). equations_of_pairs P (word_at row) pairs ++ ds) (sym none);
}

-- ---- The items of a body

-- the items that these stand for
abbrev pub body_of : List Shape → List ItemNode → List Item
body_of ss items = map (item_of ss) (map node_item items)

-- One more of them was asked for.
pub one_asked : (P : NamedProgram) (row : List Ref) (floor : ℕ) (items : List ItemNode) (index : ℕ) (item : ItemNode) (old new : List Pair)
    (total : List Equation) → index < length items → get_or items index item ≡ item
    → Ask P row floor new
    (equations_of_pairs P (word_at row) old ++ body_equations (placed floor) (item_of P.skeleton.nodes (node_item item) ∷ []))
    → equations_of_pairs P (word_at row) old ++ body_equations (placed floor) (body_of P.skeleton.nodes (drop index items)) ≡ total
    → equations_of_pairs P (word_at row) new ++ body_equations (placed floor) (body_of P.skeleton.nodes (drop (index + 1) items)) ≡ total
one_asked P row floor items index item old new total low is asked all =
    let x : Item = item_of P.skeleton.nodes (node_item item) in
    let before : List Equation = equations_of_pairs P (word_at row) old in
    let rest : List Item = body_of P.skeleton.nodes (drop (index + 1) items) in
    let first : List Equation = body_equations (placed floor) (x ∷ []) in
    let parted : drop index items ≡ item ∷ drop (index + 1) items =
    at_drop_more (λ (xs : List ItemNode). xs) items index item low ∙ ap (λ (y : ItemNode). y ∷ drop (index + 1) items) is in
    ap (λ (es : List Equation). es ++ body_equations (placed floor) rest) asked.equations
    ∙ append_assoc before first (body_equations (placed floor) rest)
    ∙ ap (λ (es : List Equation). before ++ es) (sym (first_asked (placed floor) x rest))
    ∙ ap (λ (xs : List ItemNode). before ++ body_equations (placed floor) (body_of P.skeleton.nodes xs)) (sym parted)
    ∙ all

-- an item in range does not depend on the default
default_apart : {X : Type 0} (xs : List X) (i : ℕ) (d e : X) → i < length xs → get_or xs i d ≡ get_or xs i e
default_apart [] i d e low = absurd (omega arith)
default_apart (x ∷ xs) zero d e low = refl
default_apart (x ∷ xs) (suc i) d e low = default_apart xs i d e (omega arith)

-- Items by their nodes.
pub nth_node : (items : List ItemNode) (nodes : List NodeItem) (i : ℕ) (d : ItemNode) → map node_item items ≡ nodes → i < length items
    → get_or nodes i Skeletons.fail ≡ node_item (get_or items i d)
nth_node items nodes i d is low =
    ap (λ (xs : List NodeItem). get_or xs i Skeletons.fail) (sym is) ∙ get_or-map node_item items i Fail
    ∙ ap node_item (default_apart items i Fail d low)

-- A body with this item has `fail`.
pub has_fail : (ss : List Shape) (items : List ItemNode) (index : ℕ) (d : ItemNode) → index < length items → get_or items index d ≡ Fail
    → Contains (body_of ss items) Programs.fail
has_fail ss items index d low fails =
    let here : Contains items Fail = (index, low, default_apart items index Fail d low ∙ fails) in
    contains_image (item_of ss) (map node_item items) Skeletons.fail (contains_image node_item items Fail here)
