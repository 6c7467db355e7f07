-- What is left to do in a tree: its open calls and its arithmetic among each other, in preorder.
use Rattle.std.specs.Prelude.{ℕ, suc, List, [], ◌∷◌, ◌++◌}
use Rattle.and_model.specs.Terms.{Path, Term, Terms, framed}
use Rattle.and_model.specs.Solutions.{Equation}
use Rattle.and_model.specs.Programs.{Program, Item, call, equal, arithmetic, fail, Arithmetic, arithmetic_in}
use Rattle.and_model.specs.Closure.{added, Known}
use Rattle.and_model.specs.Trees.{Agenda, Tree, done, left, by, equate, reckon}

-- an open call, with the path that its clause will have, or a goal of arithmetic
pub data Task : Type 0 where
  take : Path → Term → Task
  run : Arithmetic → Task

-- the tasks of a tree, in preorder
abbrev pub tasks : {P : Program} {ag : Agenda} → Tree P ag → List Task
tasks done = []
tasks (left {q = q} {g = g} t) = take q g ∷ tasks t
tasks (by c h t) = tasks t
tasks (equate t) = tasks t
tasks (reckon {a = a} t) = run a ∷ tasks t

-- those of a body in the frame q, whose items are numbered from i on
abbrev pub body_tasks : Path → ℕ → List Item → List Task
body_tasks q i [] = []
body_tasks q i (call g ∷ items) = take (q ++ i ∷ []) (framed q g) ∷ body_tasks q (suc i) items
body_tasks q i (equal a b ∷ items) = body_tasks q (suc i) items
body_tasks q i (arithmetic a ∷ items) = run (arithmetic_in q a) ∷ body_tasks q (suc i) items
body_tasks q i (fail ∷ items) = body_tasks q (suc i) items

-- the calls among tasks,
abbrev pub calls_among : List Task → List (Path × Term)
calls_among [] = []
calls_among (take q g ∷ ts) = (q, g) ∷ calls_among ts
calls_among (run a ∷ ts) = calls_among ts

-- and the arithmetic
abbrev pub arithmetic_among : List Task → List Arithmetic
arithmetic_among [] = []
arithmetic_among (take q g ∷ ts) = arithmetic_among ts
arithmetic_among (run a ∷ ts) = a ∷ arithmetic_among ts

-- Drops ts a us: the tasks us are ts without this goal of arithmetic, which stood somewhere among them.
pub data Drops : List Task → Arithmetic → List Task → Type 0 where
  here : (a : Arithmetic) (ts : List Task) → Drops (run a ∷ ts) a ts
  behind : (t : Task) (ts : List Task) (a : Arithmetic) (us : List Task) → Drops ts a us → Drops (t ∷ ts) a (t ∷ us)

-- RanAmong es ts ds us: some of the arithmetic among the tasks was run, in any order, which
-- makes the equations ds of es. The other tasks, us, are left in their order.
pub data RanAmong : List Equation → List Task → List Equation → List Task → Type 0 where
  none_yet : (es : List Equation) (ts : List Task) → RanAmong es ts es ts
  one : (es : List Equation) (ts : List Task) (a : Arithmetic) (us : List Task) (values : Terms)
      (ds : List Equation) (vs : List Task)
      → Drops ts a us → Known es a values → RanAmong (added a values ++ es) us ds vs → RanAmong es ts ds vs
