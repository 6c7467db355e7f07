-- What a branch of the engine stands for (this project's own).
use Rattle.std.specs.Prelude.{ℕ, zero, suc, ◌≡◌, ◌⊎◌, Bool, true, false, List, [], ◌∷◌, ◌++◌, map, get_or, All}
use Rattle.std.specs.Prelude.{Contains}
use Rattle.and_model.specs.Prefixes.{IsPrefix}
use Rattle.and_model.specs.Terms.{Path, Term, compound, none, more, framed, Substitution, apply}
use Rattle.and_model.specs.Solutions.{Equation, MostGeneral}
use Rattle.and_model.specs.Programs.{Program, Item, call, equal, arithmetic, fail, Arithmetic, clause_at}
use Rattle.and_model.specs.Closure.{Ran}
use Rattle.and_model.specs.Trees.{Agenda, Tree, QueryTree, query_agenda, done, left, by, equate, reckon, equations}
use Rattle.and_model.specs.Trees.{arithmetics, decided, code, weight, HasOutcome, Below}
use Rattle.and_model.specs.Reached.{Dead, ReachedBy}
use Rattle.and_model.specs.Reductions.{Reduction, PlaceHas, Makes}
use Rattle.and_model.specs.Lines.{goal_term}
use Rattle.and_model.specs.declared.builtins.TheConstants.{EQUAL, FAIL}
use Rattle.and_model.specs.declared.goal.Goal.{Goal}

-- What a branch keeps.
pub record Branch : Type 0 where
  pub key : List ℕ
  -- its tree, written down
  pub reductions : List Reduction
  -- what a variable of a frame stands for, read through the cells: by the frame's base and the variable's number, a
  -- term whose variables are free cells
  pub reading : (base number : ℕ) → Term
  -- its open goals, and its arithmetic that waits, both from left to right
  pub goals : List Goal
  pub waiting : List Goal
  -- the weight used, and its limit
  pub used : ℕ
  pub limit : ℕ
  pub is_failed : Bool

-- the calls of a tree that are left, each with the path that its clause will have
abbrev pub calls_left : {P : Program} {ag : Agenda} → Tree P ag → List (Path × Term)
calls_left done = []
calls_left (left {q = q} {g = g} t) = (q, g) ∷ calls_left t
calls_left (by c h t) = calls_left t
calls_left (equate t) = calls_left t
calls_left (reckon t) = calls_left t

-- the place has this clause
abbrev pub ClauseHas : List Reduction → (node clause : ℕ) → Type 0
ClauseHas rs node clause = ((node ≡ 0) × (clause ≡ 0))
    ⊎ ((r : Reduction) × Contains rs r × (r.node ≡ node) × (r.clause ≡ clause))

-- a goal of a branch, with the path of its frame
pub record Framed : Type 0 where
  pub goal : Goal
  pub frame : Path

-- In the tree that is written down, the goal's place has this path, and the goal's clause.
abbrev pub IsFramed : List Reduction → Framed → Type 0
IsFramed rs f = PlaceHas rs f.goal.node f.frame × ClauseHas rs f.goal.node f.goal.clause.0

-- an item of a body as a term
abbrev pub item_term : Item → Term
item_term (call g) = g
item_term (equal a b) = compound EQUAL (more a (more b none))
item_term (arithmetic a) = goal_term a
item_term fail = compound FAIL none

-- the item of its clause that a goal is
abbrev pub term_of : Program → Goal → Term
term_of P g = item_term (get_or (clause_at P g.clause.0).body g.item fail)

-- a goal as the tree has it: in the frame of its path
abbrev pub in_tree : Program → Framed → Term
in_tree P f = framed f.frame (term_of P f.goal)

-- and with the path that a clause for it will have
abbrev pub call_in_tree : Program → Framed → Path × Term
call_in_tree P f = (f.frame ++ f.goal.item ∷ [], in_tree P f)

-- a goal as the branch has it: each variable read in the frame at the goal's base, wherever that stands
abbrev pub in_cells : Program → Branch → Framed → Term
in_cells P b f = apply (λ q k. b.reading f.goal.base k) (term_of P f.goal)

abbrev pub numbers_below : ℕ → List ℕ
numbers_below zero = []
numbers_below (suc n) = numbers_below n ++ n ∷ []

-- Two lists of terms are variants, by one renaming of variables (Lloyd, section 4).
abbrev pub AreVariants : List Term → List Term → Type 0
AreVariants ts us = ((r : Substitution) × (map (apply r) ts ≡ us)) × ((r : Substitution) × (map (apply r) us ≡ ts))

-- The branch has the tree's goals, and its cells have a solution.
pub record IsLive (P : Program) (b : Branch) (tree : QueryTree P) : Type 0 where
  pub goals : List Framed
  pub waiting : List Framed
  pub goals_are : map (λ (f : Framed). f.goal) goals ≡ b.goals
  pub waiting_are : map (λ (f : Framed). f.goal) waiting ≡ b.waiting
  pub framed : All (IsFramed b.reductions) (goals ++ waiting)
  -- Its open goals are the tree's.
  pub calls : map (call_in_tree P) goals ≡ calls_left tree
  -- Its waiting goals are the tree's arithmetic that was not run.
  pub solved : List Equation
  pub waits : List Arithmetic
  pub ran : Ran (equations tree) (arithmetics tree) solved waits
  pub not_run : map (in_tree P) waiting ≡ map goal_term waits
  -- A most general solution of the tree's equations, with those of the arithmetic that was run, makes of the query's
  -- variables and of these goals what is read in the cells, but for a renaming of variables. (The query's frame is at
  -- base 0.)
  pub solution : Substitution
  pub general : MostGeneral solution solved
  pub read : AreVariants
      (map (b.reading 0) (numbers_below P.query.variables) ++ map (in_cells P b) (goals ++ waiting))
      (map (solution []) (numbers_below P.query.variables)
      ++ map (λ f. apply solution (in_tree P f)) (goals ++ waiting))

-- Stands b key P limit: what the branch stands for.
pub record Stands (b : Branch) (key : List ℕ) (P : Program) (limit : ℕ) : Type 0 where
  pub tree : QueryTree P
  pub made : Makes P b.reductions tree
  -- (1) The key is a prefix of what is decided in the branch's tree.
  pub decides : IsPrefix key (decided tree)
  -- (2) The tree is reached by the key. It weighs what was used, and the branch keeps the limit and the key.
  pub reached : ReachedBy P limit key tree
  pub used : weight tree ≡ b.used
  pub limit_kept : b.limit ≡ limit
  pub key_kept : b.key ≡ key
  -- (3) Every code that begins with the key and has an outcome agrees with the tree.
  pub agrees : (u : QueryTree P) → HasOutcome u → IsPrefix key (code u) → Below P (query_agenda P) tree u
  -- (4) The branch is marked failed, and the tree is dead. Or it has the tree's goals, and its cells have a solution.
  pub state : ((b.is_failed ≡ true) × Dead tree) ⊎ ((b.is_failed ≡ false) × IsLive P b tree)
