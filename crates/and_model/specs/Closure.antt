-- Arithmetic goals that wait until their terms are ground, and what equations become when those that can run have run
-- (this project's own).
use Rattle.std.specs.Prelude.{ℤ, ◌≡◌, Bool, true, false, not, cond, List, [], ◌∷◌, ◌++◌, Option, Some, None}
use Rattle.and_model.specs.Terms.{Term, Terms, number, none, more, are_ground, Substitution, apply_all}
use Rattle.and_model.specs.Solutions.{Equation, Solves, Solvable, falsehood}
use Rattle.and_model.specs.Arithmetic.{value, holds}
use Rattle.and_model.specs.Programs.{Arithmetic, is, compare}

-- the terms that a goal waits for
abbrev pub needs : Arithmetic → Terms
needs (is l r) = more r none
needs (compare r a b) = more a (more b none)

abbrev pub equals : Term → Option ℤ → List Equation
equals l None = falsehood ∷ []
equals l (Some z) = (l, number z) ∷ []

-- what a goal adds once these ground terms stand for those that it waited for
abbrev pub added : Arithmetic → Terms → List Equation
added (is l r) none = []
added (is l r) (more t ts) = equals l (value t)
added (compare r a b) none = []
added (compare r a b) (more x none) = []
added (compare r a b) (more x (more y ts)) = cond (holds r x y) [] (falsehood ∷ [])

-- A goal is known where every solution gives the terms that it waits for these same ground ones. (Under a most
-- general solution they are these.)
abbrev pub Known : List Equation → Arithmetic → Terms → Type 0
Known es g ts = (are_ground ts ≡ true) × ((s : Substitution) → Solves s es → apply_all s (needs g) ≡ ts)

abbrev pub Ready : List Equation → Arithmetic → Type 0
Ready es g = (ts : Terms) × Known es g ts

-- the first goal that is known, and the goals without it
pub data First (es : List Equation) : List Arithmetic → Arithmetic → List Arithmetic → Type 0 where
  first : (g : Arithmetic) (gs : List Arithmetic) → First es (g ∷ gs) g gs
  after : (a : Arithmetic) (gs : List Arithmetic) (g : Arithmetic) (bs : List Arithmetic) → (Ready es a → ⊥)
      → First es gs g bs → First es (a ∷ gs) g (a ∷ bs)

abbrev pub NoneReady : List Equation → List Arithmetic → Type 0
NoneReady es [] = Unit {0}
NoneReady es (a ∷ gs) = (Ready es a → ⊥) × NoneReady es gs

-- Closes es gs ds ws: the equations es with the goals gs close to the equations ds, and the goals ws wait.
pub data Closes : List Equation → List Arithmetic → List Equation → List Arithmetic → Type 0 where
  unsolved : (es : List Equation) (gs : List Arithmetic) → (Solvable es → ⊥) → Closes es gs es gs
  waiting : (es : List Equation) (gs : List Arithmetic) → NoneReady es gs → Closes es gs es gs
  run : (es : List Equation) (gs : List Arithmetic) (g : Arithmetic) (bs : List Arithmetic) (ts : Terms)
      (ds : List Equation) (ws : List Arithmetic)
      → Solvable es → First es gs g bs → Known es g ts → Closes (added g ts ++ es) bs ds ws → Closes es gs ds ws

-- some goal of the list, and the others
pub data Without : List Arithmetic → Arithmetic → List Arithmetic → Type 0 where
  here : (g : Arithmetic) (gs : List Arithmetic) → Without (g ∷ gs) g gs
  there : (a : Arithmetic) (gs : List Arithmetic) (g : Arithmetic) (bs : List Arithmetic) → Without gs g bs
      → Without (a ∷ gs) g (a ∷ bs)

-- the same with the known goals taken in any order
pub data ClosesAnyhow : List Equation → List Arithmetic → List Equation → List Arithmetic → Type 0 where
  unsolved : (es : List Equation) (gs : List Arithmetic) → (Solvable es → ⊥) → ClosesAnyhow es gs es gs
  waiting : (es : List Equation) (gs : List Arithmetic) → NoneReady es gs → ClosesAnyhow es gs es gs
  run : (es : List Equation) (gs : List Arithmetic) (g : Arithmetic) (bs : List Arithmetic) (ts : Terms)
      (ds : List Equation) (ws : List Arithmetic)
      → Without gs g bs → Known es g ts → ClosesAnyhow (added g ts ++ es) bs ds ws → ClosesAnyhow es gs ds ws

-- some of the goals were run, in any order
pub data Ran : List Equation → List Arithmetic → List Equation → List Arithmetic → Type 0 where
  none_yet : (es : List Equation) (gs : List Arithmetic) → Ran es gs es gs
  one : (es : List Equation) (gs : List Arithmetic) (g : Arithmetic) (bs : List Arithmetic) (ts : Terms)
      (ds : List Equation) (ws : List Arithmetic)
      → Without gs g bs → Known es g ts → Ran (added g ts ++ es) bs ds ws → Ran es gs ds ws

-- the goal is a comparison that does not hold of these ground terms
abbrev pub refutes : Arithmetic → Terms → Bool
refutes (is l r) ts = false
refutes (compare r a b) none = false
refutes (compare r a b) (more x none) = false
refutes (compare r a b) (more x (more y ts)) = not (holds r x y)
