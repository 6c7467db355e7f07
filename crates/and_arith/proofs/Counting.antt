-- How many parts are left, and what gets less with each turn.
use Rattle.std.proofs.Common.{ℕ, ℤ, zero, suc, ◌≡◌, ◌<◌, ◌≤◌, ◌+◌, ◌-◌, ◌*◌, ◌^◌, List, [], ◌∷◌, ◌++◌, map, length, refl, ap, sym, ◌∙◌, arith}
use Rattle.std.proofs.Math.Nat.{suc-mul}
use Rattle.and_model.specs.Terms as terms
use Rattle.and_model.specs.Terms.{Term, Terms}
use Rattle.and_model.specs.Store.{Setting}
use Rattle.and_model.specs.declared.numbers.NodeNo.{NodeNo}
use Rattle.and_model.specs.declared.reference.Ref.{Ref}
use Rattle.and_model.specs.declared.reference.Ref.TheVariants.{Free, Cell, Node, Number, Half}
use Rattle.and_program.specs.Skeletons as shapes
use Rattle.and_program.specs.Skeletons.{Shape, term_list, nth, shape_term, terms_behind, node_term, AllFall}
use Rattle.and_program.specs.Shown.{resolved}
use Rattle.and_program.specs.Loaded.{shape_at}
use Rattle.and_cells.specs.Ranges.{NamedProgram}
use Rattle.and_cells.specs.Parts.{part_at, parts_of}
use Rattle.and_cell_laws.proofs.Structures.{node_term_shape}
use Rattle.and_laws.specs.Sizes.{size, sizes}
use Rattle.and_arith.specs.Sizes.{size_of, parts_behind}
use Rattle.and_arith.specs.Taken.{Listed}
use Rattle.and_arith.specs.Turns.{IsStructureAt}
use Rattle.and_arith.specs.declared.walk.Task.{Task}
use Rattle.and_arith.specs.declared.walk.Task.TheVariants.{Enter, Leave, Keep}
use Rattle.and_arith.proofs.Yielding.{parts_are}

-- how many parts references have together
abbrev pub sizes_of : NamedProgram → List Ref → ℕ
sizes_of P [] = 0
sizes_of P (r ∷ rs) = size_of P r + sizes_of P rs

-- how many parts are to be entered
abbrev pub parts_left : NamedProgram → List Task → ℕ
parts_left P [] = 0
parts_left P (Enter r ∷ tasks) = size_of P r + parts_left P tasks
parts_left P (Leave name count ∷ tasks) = parts_left P tasks
parts_left P (Keep cell ∷ tasks) = parts_left P tasks

pub parts_left_behind : (P : NamedProgram) (rs : List Ref) (tasks : List Task) → parts_left P (map Enter rs ++ tasks) ≡ sizes_of P rs + parts_left P tasks
parts_left_behind P [] tasks = omega arith
parts_left_behind P (r ∷ rs) tasks = omega (arith, parts_left_behind P rs tasks)

-- a term has a part
pub size_some : (t : Term) → 1 ≤ size t
size_some (terms.variable q k) = omega arith
size_some (terms.number z) = omega arith
size_some (terms.compound c ts) = omega arith

pub size_of_some : (P : NamedProgram) (r : Ref) → 1 ≤ size_of P r
size_of_some P Free = omega arith
size_of_some P (Cell cell) = omega arith
size_of_some P (Node node base) = size_some (node_term P.skeleton.nodes node.0)
size_of_some P (Number pair) = omega arith
size_of_some P (Half bits) = omega arith

-- the parts of a node where it is found
resolved_size : (P : NamedProgram) (ts : List Term) (s : Shape) (node : NodeNo) (base : ℕ) → node_term P.skeleton.nodes node.0 ≡ shape_term ts s
    → size_of P (resolved s node base) ≡ size (node_term P.skeleton.nodes node.0)
resolved_size P ts (shapes.variable k) node base e = ap size (sym e)
resolved_size P ts (shapes.number z) node base e = refl
resolved_size P ts (shapes.compound c ns) node base e = refl

part_size : (P : NamedProgram) (base n : ℕ) → AllFall 0 P.skeleton.nodes → size_of P (part_at P base n) ≡ size (node_term P.skeleton.nodes n)
part_size P base n fall =
    resolved_size P (terms_behind [] P.skeleton.nodes) (shape_at P.skeleton n) (record { 0 = n }) base (node_term_shape P.skeleton.nodes n fall)

arguments_sizes : (P : NamedProgram) (base : ℕ) (ns : List ℕ) → AllFall 0 P.skeleton.nodes
    → sizes (term_list (map (nth (terms_behind [] P.skeleton.nodes)) ns)) ≡ sizes_of P (map (part_at P base) ns)
arguments_sizes P base [] fall = refl
arguments_sizes P base (n ∷ ns) fall = omega (arith, part_size P base n fall, arguments_sizes P base ns fall)

-- A structure has one part more than its arguments.
pub opened_size : (P : NamedProgram) (node : NodeNo) (base : ℕ) (is : IsStructureAt P node) → AllFall 0 P.skeleton.nodes
    → size_of P (Node node base) ≡ 1 + sizes_of P (parts_of P (Node node base))
opened_size P node base is fall =
    ap size (node_term_shape P.skeleton.nodes node.0 fall ∙ ap (shape_term (terms_behind [] P.skeleton.nodes)) is.shape)
    ∙ ap (λ n. 1 + n) (arguments_sizes P base is.arguments fall ∙ ap (sizes_of P) (sym (parts_are P node base is)))

-- A literal has one.
pub literal_size : (P : NamedProgram) (node : NodeNo) (base : ℕ) (z : ℤ) → AllFall 0 P.skeleton.nodes → shape_at P.skeleton node.0 ≡ shapes.number z
    → size_of P (Node node base) ≡ 1
literal_size P node base z fall at = ap size (node_term_shape P.skeleton.nodes node.0 fall ∙ ap (shape_term (terms_behind [] P.skeleton.nodes)) at)

-- one cell more is opened
pub parts_push : (P : NamedProgram) (settings : List Setting) (k : Setting)
    → parts_behind P (settings ++ k ∷ []) ≡ parts_behind P settings + (size_of P k.value - 1)
parts_push P [] k = omega arith
parts_push P (j ∷ settings) k = omega (arith, parts_push P settings k)

-- as many parts as all nodes have together, and one
abbrev all_sizes : List Term → ℕ
all_sizes [] = 1
all_sizes (t ∷ ts) = size t + all_sizes ts

all_some : (ts : List Term) → 1 ≤ all_sizes ts
all_some [] = omega arith
all_some (t ∷ ts) = omega (arith, all_some ts)

below_all : (ts : List Term) (n : ℕ) → size (nth ts n) ≤ all_sizes ts
below_all [] n = omega arith
below_all (t ∷ ts) zero = omega arith
below_all (t ∷ ts) (suc n) = omega (arith, below_all ts n)

-- No reference has more parts than this.
abbrev pub most_parts : NamedProgram → ℕ
most_parts P = all_sizes (terms_behind [] P.skeleton.nodes)

pub size_of_bounded : (P : NamedProgram) (r : Ref) → size_of P r ≤ most_parts P
size_of_bounded P Free = all_some (terms_behind [] P.skeleton.nodes)
size_of_bounded P (Cell cell) = all_some (terms_behind [] P.skeleton.nodes)
size_of_bounded P (Node node base) = below_all (terms_behind [] P.skeleton.nodes) node.0
size_of_bounded P (Number pair) = all_some (terms_behind [] P.skeleton.nodes)
size_of_bounded P (Half bits) = all_some (terms_behind [] P.skeleton.nodes)

-- what is to be done, where to enter a part counts for it and for leaving it
abbrev pub tasks_weight : NamedProgram → List Task → ℕ
tasks_weight P [] = 0
tasks_weight P (Enter r ∷ tasks) = 2 * size_of P r + tasks_weight P tasks
tasks_weight P (Leave name count ∷ tasks) = suc (tasks_weight P tasks)
tasks_weight P (Keep cell ∷ tasks) = suc (tasks_weight P tasks)

pub tasks_weight_behind : (P : NamedProgram) (rs : List Ref) (tasks : List Task)
    → tasks_weight P (map Enter rs ++ tasks) ≡ 2 * sizes_of P rs + tasks_weight P tasks
tasks_weight_behind P [] tasks = omega arith
tasks_weight_behind P (r ∷ rs) tasks = omega (arith, tasks_weight_behind P rs tasks)

-- What gets less with each turn: a cell that can still be taken counts for more than what it is set to can.
abbrev pub weight : NamedProgram → Listed → List Task → ℕ
weight P taken tasks = (2 ^ 63 - length taken) * (2 * most_parts P + 1) + tasks_weight P tasks

-- the same where a cell was taken
pub lighter_by_cell : (m n k a b : ℕ) → n ≡ suc k → b < m + a → k * m + b < n * m + a
lighter_by_cell m n k a b one less =
    let e : n * m ≡ k * m + m = ap (λ x. x * m) one ∙ suc-mul k m in
    omega (arith, e, less)
