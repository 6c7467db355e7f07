-- SLD resolution by the leftmost rule, as a textbook has it (Lloyd, Foundations of Logic Programming, sections 4 and
-- 7). It knows nothing of trees, agendas or equations: a goal is a list of items, and a step makes one goal of
-- another.
use Rattle.std.specs.Prelude.{ℕ, ℤ, ◌≡◌, ◌<◌, ◌≤◌, ◌⊎◌, Bool, true, false, ◌&&◌}
use Rattle.std.specs.Prelude.{List, [], ◌∷◌, ◌++◌, length, map, Some}
use Rattle.and_model.specs.Terms.{Path, Term, Terms, variable, number}
use Rattle.and_model.specs.Terms.{compound, none, more, is_ground, Substitution, apply}
use Rattle.and_model.specs.Arithmetic.{Relation, value, holds}
use Rattle.and_model.specs.Programs.{Program, Item, call, equal, arithmetic, fail, Arithmetic, is, compare, clause_at}
use Rattle.and_model.specs.Lines.{goal_term, line_of}
use Rattle.and_model.specs.Listing.{Outcome, outcome_of}
use Rattle.and_model.specs.Stands.{numbers_below}

-- A most general unifier (section 4): s makes both terms the same, and each substitution that does is s and then
-- another. (It need not be idempotent.)
abbrev pub IsMgu : Substitution → Term → Term → Type 0
IsMgu s a b =
    (apply s a ≡ apply s b)
    × ((t : Substitution) → apply t a ≡ apply t b
    → (r : Substitution) × ((q : Path) (k : ℕ) → t q k ≡ apply r (s q k)))

-- an arithmetic goal under a substitution
abbrev pub apply_arithmetic : Substitution → Arithmetic → Arithmetic
apply_arithmetic s (is l r) = is (apply s l) (apply s r)
apply_arithmetic s (compare m a b) = compare m (apply s a) (apply s b)

-- an item under a substitution
abbrev pub apply_item : Substitution → Item → Item
apply_item s (call g) = call (apply s g)
apply_item s (equal a b) = equal (apply s a) (apply s b)
apply_item s (arithmetic a) = arithmetic (apply_arithmetic s a)
apply_item s fail = fail

-- a goal under a substitution
abbrev pub apply_goal : Substitution → List Item → List Item
apply_goal s [] = []
apply_goal s (item ∷ items) = apply_item s item ∷ apply_goal s items

-- The renaming that gives a clause the variables of the frame q. (Frames are the subscripts by which section 7 keeps
-- the variables of input clauses apart.)
abbrev pub moved : Path → Substitution
moved q = λ r k. variable q k

abbrev mutual
  -- no variable of the frame stands in the term
  pub Lacks : Path → Term → Type 0
  Lacks q (variable p k) = p ≡ q → ⊥
  Lacks q (number z) = Unit {0}
  Lacks q (compound c ts) = LackAll q ts

  pub LackAll : Path → Terms → Type 0
  LackAll q none = Unit {0}
  LackAll q (more t ts) = Lacks q t × LackAll q ts

-- nor in the terms of the list
abbrev pub ListLacks : Path → List Term → Type 0
ListLacks q [] = Unit {0}
ListLacks q (t ∷ ts) = Lacks q t × ListLacks q ts

-- nor in the goal
abbrev pub GoalLacks : Path → List Item → Type 0
GoalLacks q [] = Unit {0}
GoalLacks q (call g ∷ items) = Lacks q g × GoalLacks q items
GoalLacks q (equal a b ∷ items) = Lacks q a × Lacks q b × GoalLacks q items
GoalLacks q (arithmetic a ∷ items) = Lacks q (goal_term a) × GoalLacks q items
GoalLacks q (fail ∷ items) = GoalLacks q items

-- the frame is one of the list
abbrev pub In : Path → List Path → Type 0
In q [] = ⊥
In q (p ∷ ps) = (q ≡ p) ⊎ In q ps

-- Standardising apart (section 7): neither the query nor an input clause before had this frame, and no variable of
-- it stands in the goal, with what was passed over, or in the values. (So more is allowed than by section 7, by
-- which none stands in the unifiers so far either.)
abbrev pub IsNew : Path → List Path → List Arithmetic → List Item → List Term → Type 0
IsNew q frames passed goal values =
    (In q frames → ⊥) × ListLacks q (map goal_term passed) × GoalLacks q goal × ListLacks q values

-- Derivations (section 7): Derives P frames passed goal values clauses left found. The goal is the arithmetic that
-- was passed over, and then these items; these frames were taken; and the unifiers so far make these values of the
-- query's variables. The input clauses with these numbers, in this order, lead from there to a goal of arithmetic
-- alone, and to the values that are found. (So what is found is the composition of all unifiers, restricted to the
-- query's variables.)
pub data Derives (P : Program)
    : List Path → List Arithmetic → List Item → List Term → List ℕ → List Arithmetic → List Term → Type 0 where
  -- No item is left. Where nothing was passed over, this is the empty goal.
  ended : (frames : List Path) (passed : List Arithmetic) (values : List Term)
      → Derives P frames passed [] values [] passed values
  -- The leftmost item is a call. The input clause is clause c with the variables of a new frame, and s is a most
  -- general unifier of the call and its head. Then the body stands in the call's place, and all is under s.
  resolved : (frames : List Path) (passed : List Arithmetic) (g : Term) (rest : List Item) (values : List Term)
      (c : ℕ) (cs : List ℕ) (q : Path) (s : Substitution) (left : List Arithmetic) (found : List Term)
      → 0 < c → c ≤ length P.clauses → IsNew q frames passed (call g ∷ rest) values
      → IsMgu s g (apply (moved q) (clause_at P c).head)
      → Derives P (q ∷ frames) (map (apply_arithmetic s) passed)
      (apply_goal s (apply_goal (moved q) (clause_at P c).body ++ rest)) (map (apply s) values) cs left found
      → Derives P frames passed (call g ∷ rest) values (c ∷ cs) left found
  -- The leftmost item is `a = b`. Its one clause is X = X, and but for X a most general unifier of `a = b` with that
  -- is one of a and b.
  equated : (frames : List Path) (passed : List Arithmetic) (a b : Term) (rest : List Item) (values : List Term)
      (cs : List ℕ) (s : Substitution) (left : List Arithmetic) (found : List Term)
      → IsMgu s a b
      → Derives P frames (map (apply_arithmetic s) passed) (apply_goal s rest) (map (apply s) values) cs left found
      → Derives P frames passed (equal a b ∷ rest) values cs left found
  -- The leftmost item is arithmetic. It is passed over, and stays in the goal: the rule selects calls and equations
  -- first.
  passes : (frames : List Path) (passed : List Arithmetic) (a : Arithmetic) (rest : List Item) (values : List Term)
      (cs : List ℕ) (left : List Arithmetic) (found : List Term)
      → Derives P frames (passed ++ a ∷ []) rest values cs left found
      → Derives P frames passed (arithmetic a ∷ rest) values cs left found
  -- (No clause has the head `fail`: it has no rule.)

-- An arithmetic goal may be selected where the terms that it asks for are ground. (So the rule is safe, as section
-- 15 has it of negated atoms.)
abbrev pub is_ready : Arithmetic → Bool
is_ready (is l r) = is_ground r
is_ready (compare m a b) = is_ground a && is_ground b

-- Selects goals goal others: the rule selects the first goal that may be, and these are the others.
pub data Selects : List Arithmetic → Arithmetic → List Arithmetic → Type 0 where
  leftmost : (g : Arithmetic) (gs : List Arithmetic) → is_ready g ≡ true → Selects (g ∷ gs) g gs
  later : (a : Arithmetic) (gs : List Arithmetic) (g : Arithmetic) (others : List Arithmetic)
      → is_ready a ≡ false → Selects gs g others → Selects (a ∷ gs) g (a ∷ others)

-- no goal may be selected
abbrev pub NoneIsReady : List Arithmetic → Type 0
NoneIsReady [] = Unit {0}
NoneIsReady (g ∷ gs) = (is_ready g ≡ false) × NoneIsReady gs

-- A goal of arithmetic alone goes on: Reckons goals values waiting answer. (`X is E` is the equation of X with the
-- value of E, and a comparison that holds is true. Where E has no value, or the comparison does not hold, there is
-- no rule.)
pub data Reckons : List Arithmetic → List Term → List Arithmetic → List Term → Type 0 where
  -- No goal may be selected: none is left, or what is left waits, and the computation flounders (section 15).
  settled : (goals : List Arithmetic) (values : List Term) → NoneIsReady goals → Reckons goals values goals values
  assigned : (goals : List Arithmetic) (values : List Term) (l r : Term) (others : List Arithmetic) (z : ℤ)
      (s : Substitution) (waiting : List Arithmetic) (answer : List Term)
      → Selects goals (is l r) others → value r ≡ Some z → IsMgu s l (number z)
      → Reckons (map (apply_arithmetic s) others) (map (apply s) values) waiting answer
      → Reckons goals values waiting answer
  compared : (goals : List Arithmetic) (values : List Term) (m : Relation) (a b : Term) (others : List Arithmetic)
      (waiting : List Arithmetic) (answer : List Term)
      → Selects goals (compare m a b) others → holds m a b ≡ true
      → Reckons others values waiting answer
      → Reckons goals values waiting answer

-- The query as a goal: its variables stand in the frame with the empty path.
abbrev pub query_goal : Program → List Item
query_goal P = apply_goal (moved []) P.query.body

-- what a substitution gives the query's variables
abbrev pub query_values : Program → Substitution → List Term
query_values P s = map (s []) (numbers_below P.query.variables)

-- By these input clauses a computation of the query ends with that answer, and these goals wait.
pub record Computes (P : Program) (clauses : List ℕ) (answer : List Term) (waiting : List Arithmetic) : Type 0 where
  pub left : List Arithmetic
  pub found : List Term
  pub derived : Derives P ([] ∷ []) [] (query_goal P) (query_values P (moved [])) clauses left found
  pub reckoned : Reckons left found waiting answer

-- A refutation (section 7), and its computed answer: the computation ends with the empty goal.
abbrev pub IsRefuted : Program → List ℕ → List Term → Type 0
IsRefuted P clauses answer = Computes P clauses answer []

-- The outcome shows the answer and the goals that wait: it has the line of a substitution that gives this answer.
abbrev pub Shows : Program → List Term → List Arithmetic → Outcome → Type 0
Shows P answer waiting o =
    (r : Substitution) × (query_values P r ≡ answer) × (o ≡ outcome_of waiting (line_of P r (map goal_term waiting)))
