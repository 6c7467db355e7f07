-- What is still to be written of a term, on a stack.
use Rattle.std.specs.Prelude.{ℕ, zero, suc, ◌+◌, ◌*◌, ◌<◌, ◌≤◌, ◌≡◌, List, [], ◌∷◌, ◌++◌, reverse}
use Rattle.std.specs.Prelude.{length, Bool, ◌&&◌, nat_eq}
use Rattle.and_model.specs.declared.builtins.TheConstants.{NIL, POINT}
use Rattle.std.specs.List.{flat_map}
use Rattle.and_model.specs.Terms.{Path, Term, Terms, variable, number, compound, none, more}
use Rattle.and_model.specs.Lines.{Bytes, shown, shown_rest, shown_tail}
use Rattle.and_model.specs.declared.numbers.NodeNo.{NodeNo}
use Rattle.and_program.specs.Skeletons.{Shape, node_term}
use Rattle.and_program.specs.Shown.{argument_of}
use Rattle.and_lint.specs.declared.printing.Task.{Task}
use Rattle.and_lint.specs.declared.printing.Task.TheVariants.{Whole, Tail, Rest, Close}

-- the arguments of a term, as terms
abbrev pub arguments_in : Term → Terms
arguments_in (variable q k) = none
arguments_in (number z) = none
arguments_in (compound c ts) = ts

-- the name of list cells, with two arguments
abbrev pub is_cell_by : (name count : ℕ) → Bool
is_cell_by c n = nat_eq c POINT && nat_eq n 2

-- the name of the empty list, without arguments
abbrev pub is_nil_by : (name count : ℕ) → Bool
is_nil_by c n = nat_eq c NIL && nat_eq n 0

-- the terms from a place on
abbrev pub from_place : ℕ → Terms → Terms
from_place zero ts = ts
from_place (suc n) none = none
from_place (suc n) (more t ts) = from_place n ts

-- what a task writes
abbrev pub task_text : List Bytes → List (Path × ℕ) → List Shape → Task → Bytes
task_text names vs ss (Whole n) = shown names vs (node_term ss n.0)
task_text names vs ss (Tail n) = shown_tail names vs (node_term ss n.0)
task_text names vs ss (Rest n place) = shown_rest names vs (from_place place (arguments_in (node_term ss n.0)))
task_text names vs ss Close = 93 ∷ []

-- the node of a task is there
abbrev pub IsTaskThere : ℕ → Task → Type 0
IsTaskThere m (Whole n) = n.0 < m
IsTaskThere m (Tail n) = n.0 < m
IsTaskThere m (Rest n place) = n.0 < m
IsTaskThere m Close = Unit {0}

abbrev pub AreTasksThere : ℕ → List Task → Type 0
AreTasksThere m [] = Unit {0}
AreTasksThere m (k ∷ ks) = IsTaskThere m k × AreTasksThere m ks

-- what all tasks on the stack write, from its top down
abbrev pub texts_ahead : List Bytes → List (Path × ℕ) → List Shape → List Task → Bytes
texts_ahead names vs ss work = flat_map (task_text names vs ss) (reverse work)

-- Some was written of what was to be written first, and the rest is now on the stack.
pub record Does (names : List Bytes) (vs : List (Path × ℕ)) (ss : List Shape) (due : Bytes)
    (before after : List Task) (old new : Bytes) : Type 0 where
  pub there : AreTasksThere (length ss) before → AreTasksThere (length ss) after
  pub written : new ++ texts_ahead names vs ss after ≡ old ++ due ++ texts_ahead names vs ss before
  pub longer : length old ≤ length new
  pub few : length after + 3 * length old ≤ length before + 3 * length new

-- The tail and the head of a list cell were put on the stack.
pub record HasPushed (ss : List Shape) (t : Term) (before after : List Task) : Type 0 where
  pub tail : NodeNo
  pub head : NodeNo
  pub after_is : after ≡ before ++ Tail tail ∷ Whole head ∷ []
  pub tail_there : tail.0 < length ss
  pub head_there : head.0 < length ss
  pub tail_is : node_term ss tail.0 ≡ argument_of t 1
  pub head_is : node_term ss head.0 ≡ argument_of t 0
