-- Words that name what lies in frames.
use Rattle.std.proofs.Common.{ℕ, suc, ◌+◌, ◌≡◌, ◌<◌, ◌≤◌, List, [], ◌∷◌, length, map, refl, sym, ap, ◌∙◌, subst, inl, inr, arith, Contains}
use Rattle.std.specs.Prelude.{ℤ}
use Rattle.std.proofs.lemmas.Bool.{cases_eq}
use Rattle.std.proofs.lemmas.List.Elements.{Contains-append_left, Contains-append_right, All-contains}
use Rattle.and_model.specs.Programs.{clause_at, clause_weight}
use Rattle.and_model.specs.Terms.{Path, Term, variables_of, variables_in}
use Rattle.and_model.specs.Stands.{term_of}
use Rattle.and_model.specs.Store.{Frame}
use Rattle.and_model.specs.declared.goal.Goal.{Goal}
use Rattle.and_model.specs.declared.reference.Ref.{Ref}
use Rattle.and_model.specs.declared.reference.Ref.TheVariants.{Free, Cell, Node, Number, Half}
use Rattle.and_program.specs.Skeletons
use Rattle.and_program.specs.Skeletons.{Shape, term_list, nth, shape_term, terms_behind, node_term, AllFall}
use Rattle.and_program.specs.Loaded.{shape_at}
use Rattle.and_program.specs.Shown.{arguments_in, resolved}
use Rattle.and_laws.proofs.Ordered.{contains_cases, contains_none}
use Rattle.and_cells.specs.Ranges.{NamedProgram, pair_of, IsInRange, IsNodeInRange}
use Rattle.and_cells.specs.Parts.{part_at, parts_of}
use Rattle.and_cells.specs.Rows.{plain}
use Rattle.and_cells.specs.Seen.{word_at}
use Rattle.and_cells.proofs.Keeping.{free_or_set}
use Rattle.and_cell_laws.proofs.Images.{contains_origin}
use Rattle.and_cell_laws.proofs.Structures.{node_term_shape}
use Rattle.and_unify.specs.declared.pairs.Pair.{Pair}
use Rattle.and_unify.specs.Places.{sides, IsPlace, root, set, part}
use Rattle.and_unify.specs.Settling.{SetsPlaces}
use Rattle.and_branch_laws.specs.Settling.{widened, IsWritten}
use Rattle.and_branch_laws.specs.OwnVariables.{IsLoaded, OwnVariables}
use Rattle.and_branch_laws.specs.Kept.{node_item_at}
use Rattle.and_branch_laws.proofs.Clauses.{clause_weighs_more, number_is}
use Rattle.and_branch_laws.proofs.Naming.{variables_fit}
use Rattle.and_branch_laws.proofs.Rows.{widened_words}
use Rattle.and_branch_laws.proofs.Owning.{term_speaks}
use Rattle.and_moved_laws.specs.KeptFrames.{frame_of_goal, IsInFrame, NamesFrame, NamesFrames}

-- ---- Nodes

-- The frame has the node's base and the cells of its variables.
abbrev pub HoldsNode : NamedProgram → Frame → (base node : ℕ) → Type 0
HoldsNode P f base node = (f.base ≡ base) × IsInFrame base f
    × ((v : Path × ℕ) → Contains (variables_of (node_term P.skeleton.nodes node)) v → IsInFrame (base + 1 + v.1) f)

resolved_named : (P : NamedProgram) (frames : List Frame) (f : Frame) → Contains frames f → (base node : ℕ) → HoldsNode P f base node → (s : Shape)
    → NamesFrame P frames (resolved s (record { 0 = node }) base)
resolved_named P frames f h base node x (Skeletons.variable k) = tt
resolved_named P frames f h base node x (Skeletons.number z) = (f, h, x.0, x.1, x.2)
resolved_named P frames f h base node x (Skeletons.compound c ns) = (f, h, x.0, x.1, x.2)

-- A node that is found in such a frame names what lies in it,
pub node_named : (P : NamedProgram) (frames : List Frame) (f : Frame) → Contains frames f → (base node : ℕ) → f.base ≡ base → IsInFrame base f
    → ((v : Path × ℕ) → Contains (variables_of (node_term P.skeleton.nodes node)) v → IsInFrame (base + 1 + v.1) f)
    → NamesFrame P frames (part_at P base node)
node_named P frames f h base node begins inside cells = resolved_named P frames f h base node (begins, inside, cells) (shape_at P.skeleton node)

-- as one of a clause does in the clause's frame.
pub own_node_named : (P : NamedProgram) (frames : List Frame) (c base node : ℕ)
    → Contains frames (record { base = base; weight = clause_weight (clause_at P.program c) })
    → ((v : Path × ℕ) → Contains (variables_of (node_term P.skeleton.nodes node)) v → v.1 < (clause_at P.program c).variables)
    → NamesFrame P frames (part_at P base node)
own_node_named P frames c base node h own =
    let fit = variables_fit (clause_at P.program c) in
    node_named P frames (record { base = base; weight = clause_weight (clause_at P.program c) }) h base node refl (omega arith, omega arith)
    (λ v i. (let o = own v i in (omega arith, omega arith)))

-- The pair of an `is` goal lies in the goal's.
pub own_pair_named : (P : NamedProgram) → IsLoaded P → (frames : List Frame) (g : Goal) (left right pair : ℕ)
    → g.clause.0 ≤ length P.program.clauses → node_item_at P g ≡ Skeletons.is left right pair → Contains frames (frame_of_goal P g)
    → NamesFrame P frames (Number (pair_of P g.clause.0 g.base pair))
own_pair_named P loaded frames g left right pair there node h =
    let low = (number_is P loaded g.clause.0 there g.item left right pair node).1 in
    let weighs = clause_weighs_more (clause_at P.program g.clause.0) in
    (frame_of_goal P g, h, (omega arith, omega arith), (omega arith, omega arith))

-- Where a goal's frame is among them, so does a node that has variables of the goal alone,
pub own_named : (P : NamedProgram) (frames : List Frame) (g : Goal) (node : ℕ) → OwnVariables P → Contains frames (frame_of_goal P g)
    → ((v : Path × ℕ) → Contains (variables_of (node_term P.skeleton.nodes node)) v → Contains (variables_of (term_of P.program g)) v)
    → NamesFrame P frames (part_at P g.base node)
own_named P frames g node own h among =
    own_node_named P frames g.clause.0 g.base node h (λ v c. (term_speaks P own g v (among v c)).1)

-- as the goal's own,
pub goal_named : (P : NamedProgram) (frames : List Frame) (g : Goal) (node : ℕ) → OwnVariables P → Contains frames (frame_of_goal P g)
    → term_of P.program g ≡ node_term P.skeleton.nodes node → NamesFrame P frames (part_at P g.base node)
goal_named P frames g node own h term =
    own_named P frames g node own h (λ v c. subst (λ (t : Term). Contains (variables_of t) v) (sym term) c)

-- and so does one in a frame with which the row ends.
last_inside : (P : NamedProgram) (f : Frame) → 0 < f.weight → (node : ℕ) → IsNodeInRange P (f.base + f.weight) node f.base
    → IsInFrame f.base f
    × ((v : Path × ℕ) → Contains (variables_of (node_term P.skeleton.nodes node)) v → IsInFrame (f.base + 1 + v.1) f)
last_inside P f some node fits = (
  (omega arith, omega arith),
  λ v c.
      let below = All-contains (λ (u : Path × ℕ). f.base + 1 + u.1 < f.base + f.weight) (variables_of (node_term P.skeleton.nodes node)) v fits.cells c in
      (omega arith, below),
)

last_resolved : (P : NamedProgram) (frames : List Frame) (f : Frame) → Contains frames f → 0 < f.weight → (node : ℕ) (s : Shape)
    → IsInRange P (f.base + f.weight) (resolved s (record { 0 = node }) f.base) → NamesFrame P frames (resolved s (record { 0 = node }) f.base)
last_resolved P frames f h some node (Skeletons.variable k) fits = tt
last_resolved P frames f h some node (Skeletons.number z) fits =
    let x = last_inside P f some node fits.0 in (f, h, refl, x.0, x.1)
last_resolved P frames f h some node (Skeletons.compound c ns) fits =
    let x = last_inside P f some node fits.0 in (f, h, refl, x.0, x.1)

pub last_named : (P : NamedProgram) (frames : List Frame) (f : Frame) (node : ℕ) → Contains frames f → 0 < f.weight
    → IsInRange P (f.base + f.weight) (part_at P f.base node) → NamesFrame P frames (part_at P f.base node)
last_named P frames f node h some fits = last_resolved P frames f h some node (shape_at P.skeleton node) fits

-- a variable of an argument is one of the structure's
argument_variable : (ts : List Term) (ns : List ℕ) (n : ℕ) (v : Path × ℕ) → Contains ns n → Contains (variables_of (nth ts n)) v
    → Contains (variables_in (term_list (map (nth ts) ns))) v
argument_variable ts [] n v h c = absurd (contains_none n h)
argument_variable ts (m ∷ ns) n v h c = elim (contains_cases m n ns h) [
  | inl e ↦ Contains-append_left (variables_of (nth ts m)) (variables_in (term_list (map (nth ts) ns))) v
      (subst (λ (x : ℕ). Contains (variables_of (nth ts x)) v) e c)
  | inr i ↦ Contains-append_right (variables_of (nth ts m)) (variables_in (term_list (map (nth ts) ns))) v (argument_variable ts ns n v i c)
]

shape_variable : (ts : List Term) (s : Shape) (n : ℕ) (v : Path × ℕ) → Contains (arguments_in s) n → Contains (variables_of (nth ts n)) v
    → Contains (variables_of (shape_term ts s)) v
shape_variable ts (Skeletons.variable k) n v h c = absurd (contains_none n h)
shape_variable ts (Skeletons.number z) n v h c = absurd (contains_none n h)
shape_variable ts (Skeletons.compound name ns) n v h c = argument_variable ts ns n v h c

-- and so do the parts of what does.
pub part_named : (P : NamedProgram) (frames : List Frame) (r q : Ref) → AllFall 0 P.skeleton.nodes → NamesFrame P frames r → Contains (parts_of P r) q
    → NamesFrame P frames q
part_named P frames Free q fall n c = absurd (contains_none q c)
part_named P frames (Cell cell) q fall n c = absurd (contains_none q c)
part_named P frames (Node node base) q fall n c =
    let s : Shape = shape_at P.skeleton node.0 in
    let (m, there, from) = contains_origin (part_at P base) (arguments_in s) q c in
    let ts : List Term = terms_behind [] P.skeleton.nodes in
    let term : node_term P.skeleton.nodes node.0 ≡ shape_term ts s = node_term_shape P.skeleton.nodes node.0 fall in
    subst (λ (x : Ref). NamesFrame P frames x) (sym from)
    (node_named P frames n.0 n.1 base m n.2 n.3 (λ v i.
    n.4 v (subst (λ (t : Term). Contains (variables_of t) v) (sym term) (shape_variable ts s m v there i))))
part_named P frames (Number pair) q fall n c = absurd (contains_none q c)
part_named P frames (Half bits) q fall n c = absurd (contains_none q c)

-- ---- Rows

-- What lies in some frames lies in more.
more_named : (P : NamedProgram) (frames more : List Frame) → ((f : Frame) → Contains frames f → Contains more f) → (r : Ref)
    → NamesFrame P frames r → NamesFrame P more r
more_named P frames more in_more Free n = tt
more_named P frames more in_more (Cell cell) n = tt
more_named P frames more in_more (Node node base) n = (n.0, in_more n.0 n.1, n.2, n.3, n.4)
more_named P frames more in_more (Number pair) n = (n.0, in_more n.0 n.1, n.2, n.3)
more_named P frames more in_more (Half bits) n = tt

pub more_frames : (P : NamedProgram) (frames more : List Frame) (row : List Ref) → ((f : Frame) → Contains frames f → Contains more f)
    → NamesFrames P frames row → NamesFrames P more row
more_frames P frames more row in_more names place = more_named P frames more in_more (word_at row place) (names place)

pub widened_names : (P : NamedProgram) (frames : List Frame) (row : List Ref) (by : ℕ) → NamesFrames P frames row → NamesFrames P frames (widened row by)
widened_names P frames row by names place = subst (λ (r : Ref). NamesFrame P frames r) (sym (widened_words row by place)) (names place)

pub written_names : (P : NamedProgram) (frames : List Frame) (row written : List Ref) (pair : ℕ) (z : ℤ) → IsWritten row written pair z
    → NamesFrames P frames row → NamesFrames P frames written
written_names P frames row written pair z x names place = elim (cases_eq place pair) [
  | inl e ↦ subst (λ (r : Ref). NamesFrame P frames r) (sym (ap (word_at written) e ∙ x.high)) tt
  | inr one ↦ elim (cases_eq place (suc pair)) [
    | inl e ↦ subst (λ (r : Ref). NamesFrame P frames r) (sym (ap (word_at written) e ∙ x.low)) tt
    | inr other ↦ subst (λ (r : Ref). NamesFrame P frames r) (sym (x.others place one other)) (names place)
  ]
]

-- ---- Rows that were settled

-- What roots lead to names what lies in frames, where these and the words of the row do,
place_named : (P : NamedProgram) (frames : List Frame) (row roots : List Ref) (r : Ref) → AllFall 0 P.skeleton.nodes → NamesFrames P frames row
    → ((q : Ref) → Contains roots q → NamesFrame P frames q) → IsPlace P (plain row) roots r → NamesFrame P frames r
place_named P frames row roots r fall names each (root q at) = each q at
place_named P frames row roots r fall names each (set cell q at knows) = subst (λ (x : Ref). NamesFrame P frames x) knows.0 (names cell)
place_named P frames row roots r fall names each (part node base q at within) =
    part_named P frames (Node node base) q fall (place_named P frames row roots (Node node base) fall names each at) within

-- and so does a row in which only that was set.
pub settled_names : (P : NamedProgram) (frames : List Frame) (old new : List Ref) (pairs : List Pair) → AllFall 0 P.skeleton.nodes
    → NamesFrames P frames old → ((q : Ref) → Contains (sides pairs) q → NamesFrame P frames q) → SetsPlaces P old new pairs → NamesFrames P frames new
settled_names P frames old new pairs fall names each sets place = elim (free_or_set (word_at new place)) [
  | inl free ↦ subst (λ (x : Ref). NamesFrame P frames x) (sym free) tt
  | inr some ↦ elim (sets.each place (word_at new place) (refl, some)) [
    | inl before ↦ subst (λ (x : Ref). NamesFrame P frames x) before.0 (names place)
    | inr led ↦ place_named P frames old (sides pairs) (word_at new place) fall names each led
  ]
]
