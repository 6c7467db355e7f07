-- What is known of the arguments of a program's calls: whether they are ground, or integers (modes: Dembinski and
-- Maluszynski, 1985; well-moded programs: Apt, 1997).
use Rattle.std.specs.Prelude.{ℕ, suc, ◌≡◌, ◌<◌, ◌≤◌, ◌⊎◌, Bool, true, ◌&&◌, cond, nat_eq, leb}
use Rattle.std.specs.Prelude.{List, [], ◌∷◌, length, map, take, get_or, Contains}
use Rattle.std.specs.List.{position_or_len}
use Rattle.and_model.specs.Terms.{Path, Term, Terms, variable, number, compound, none, more, variables_of, variables_in}
use Rattle.and_model.specs.Programs.{Program, Clause, Item, call, equal, arithmetic, fail, is, compare, clause_at}
use Rattle.and_model.specs.Closure.{needs}
use Rattle.and_model.specs.Lines.{has}
use Rattle.and_modes.specs.declared.level.Level.{Level}
use Rattle.and_modes.specs.declared.level.Level.TheVariants.{Any, Ground, Integer}
use Rattle.and_modes.specs.declared.level.Side.{Side}
use Rattle.and_modes.specs.declared.level.Side.TheVariants.{Called, Succeeded}

-- the levels, from the lowest on
abbrev pub rank : Level → ℕ
rank Any = 0
rank Ground = 1
rank Integer = 2

abbrev pub IsAtLeast : (high low : Level) → Type 0
IsAtLeast high low = rank low ≤ rank high

abbrev pub higher : Level → Level → Level
higher l k = cond (leb (rank l) (rank k)) k l

-- An assignment gives a level to each argument place of each predicate (by its name and number of arguments), when it
-- is called and when the call has succeeded.
abbrev pub Assignment : Type 0
Assignment = (name count place : ℕ) → Side → Level

-- An environment gives a level to each variable of a clause.
abbrev pub Environment : Type 0
Environment = ℕ → Level

abbrev mutual
  -- all variables of the term are at least ground
  pub is_ground_in : Environment → Term → Bool
  is_ground_in e (variable q k) = leb (rank Ground) (rank (e k))
  is_ground_in e (number z) = true
  is_ground_in e (compound c ts) = are_ground_in e ts

  pub are_ground_in : Environment → Terms → Bool
  are_ground_in e none = true
  are_ground_in e (more t ts) = is_ground_in e t && are_ground_in e ts

-- the level of a term
abbrev pub level_in : Environment → Term → Level
level_in e (variable q k) = e k
level_in e (number z) = Integer
level_in e (compound c ts) = cond (are_ground_in e ts) Ground Any

-- The level to which a term's variables are raised, where the term is raised to a level: only a term that is a
-- variable becomes an integer.
abbrev pub level_within : Term → Level → Level
level_within t Any = Any
level_within t Ground = Ground
level_within (variable q k) Integer = Integer
level_within (number z) Integer = Ground
level_within (compound c ts) Integer = Ground

-- the environment in which the term was raised to the level
abbrev pub raised : Environment → Term → Level → Environment
raised e t l = λ k. cond (has ([], k) (variables_of t)) (higher (e k) (level_within t l)) (e k)

abbrev pub name_of : Term → ℕ
name_of (variable q k) = 0
name_of (number z) = 0
name_of (compound c ts) = c

abbrev pub arguments_of : Term → Terms
arguments_of (variable q k) = none
arguments_of (number z) = none
arguments_of (compound c ts) = ts

abbrev pub count_of : Terms → ℕ
count_of none = 0
count_of (more t ts) = suc (count_of ts)

-- The levels of a predicate on one side, by place.
abbrev pub levels_of : Assignment → Term → Side → ℕ → Level
levels_of m goal side = λ place. m (name_of goal) (count_of (arguments_of goal)) place side

-- the environment in which each of the terms was raised to its level, where the first has place i
abbrev pub all_raised : Environment → (ℕ → Level) → (i : ℕ) → Terms → Environment
all_raised e levels i none = e
all_raised e levels i (more t ts) = all_raised (raised e t (levels i)) levels (suc i) ts

-- each of the terms has at least its level
abbrev pub HaveLevels : Environment → (ℕ → Level) → (i : ℕ) → Terms → Type 0
HaveLevels e levels i none = Unit {0}
HaveLevels e levels i (more t ts) = IsAtLeast (level_in e t) (levels i) × HaveLevels e levels (suc i) ts

-- the environment with which a body begins: each argument of the head has its level of a call
abbrev pub at_entry : Assignment → Clause → Environment
at_entry m k = all_raised (λ v. Any) (levels_of m k.head Called) 0 (arguments_of k.head)

-- the environment after an item
abbrev pub after_item : Assignment → Environment → Item → Environment
after_item m e (call g) = all_raised e (levels_of m g Succeeded) 0 (arguments_of g)
after_item m e (equal a b) = raised (raised e a (level_in e b)) b (level_in e a)
after_item m e (arithmetic (is l r)) = cond (is_ground_in e r) (raised e l Integer) e
after_item m e (arithmetic (compare r a b)) = e
after_item m e fail = e

abbrev pub after_items : Assignment → Environment → List Item → Environment
after_items m e [] = e
after_items m e (item ∷ items) = after_items m (after_item m e item) items

-- Each argument of each call has, before its item, at least its level of a call.
abbrev pub CallsHaveLevels : Assignment → Environment → List Item → Type 0
CallsHaveLevels m e [] = Unit {0}
CallsHaveLevels m e (call g ∷ items) = HaveLevels e (levels_of m g Called) 0 (arguments_of g)
    × CallsHaveLevels m (after_item m e (call g)) items
CallsHaveLevels m e (equal a b ∷ items) = CallsHaveLevels m (after_item m e (equal a b)) items
CallsHaveLevels m e (arithmetic a ∷ items) = CallsHaveLevels m (after_item m e (arithmetic a)) items
CallsHaveLevels m e (fail ∷ items) = CallsHaveLevels m (after_item m e fail) items

-- Also, each argument of the head has, after the body, at least its level of a success.
abbrev pub IsWellModed : Assignment → Clause → Type 0
IsWellModed m k =
    CallsHaveLevels m (at_entry m k) k.body
    × HaveLevels (after_items m (at_entry m k) k.body) (levels_of m k.head Succeeded) 0 (arguments_of k.head)

-- each clause and the query, whose head has no arguments
abbrev pub WellModed : Program → Assignment → Type 0
WellModed P m = (c : ℕ) → c ≤ length P.clauses → IsWellModed m (clause_at P c)

-- the predicate has a clause, and the argument place
abbrev pub HasPlace : Program → (name count place : ℕ) → Type 0
HasPlace P name count place = (k : Clause) × Contains P.clauses k × (name_of k.head ≡ name)
    × (count_of (arguments_of k.head) ≡ count) × (place < count)

-- the one assignment is above the other or equal to it, in each place of the program's predicates
abbrev pub IsAbove : Program → (high low : Assignment) → Type 0
IsAbove P high low = (name count place : ℕ) (side : Side) → HasPlace P name count place
    → IsAtLeast (high name count place side) (low name count place side)

-- well-moded, and above all others that are
abbrev pub Greatest : Program → Assignment → Type 0
Greatest P m = WellModed P m × ((other : Assignment) → WellModed P other → IsAbove P m other)

-- a variable of an item of a clause
pub record Wait : Type 0 where
  pub clause : ℕ
  pub item : ℕ
  pub variable : ℕ

-- the numbers of the variables that an arithmetic goal waits for, from left to right; no other item waits
abbrev pub waited_by : Item → List ℕ
waited_by (call g) = []
waited_by (equal a b) = []
waited_by (arithmetic a) = map (λ (v : Path × ℕ). v.1) (variables_in (needs a))
waited_by fail = []

abbrev pub waited_at : Program → (clause item : ℕ) → List ℕ
waited_at P c i = waited_by (get_or (clause_at P c).body i fail)

-- the environment before an item of a clause
abbrev pub before_item : Program → Assignment → (clause item : ℕ) → Environment
before_item P m c i = after_items m (at_entry m (clause_at P c)) (take i (clause_at P c).body)

-- An arithmetic goal waits for the variable, whose level before the goal is the lowest.
abbrev pub WaitsFor : Program → Assignment → Wait → Type 0
WaitsFor P m w =
    (w.clause ≤ length P.clauses) × Contains (waited_at P w.clause w.item) w.variable
    × (before_item P m w.clause w.item w.variable ≡ Any)

-- the number of a clause, and for the query one above all
abbrev pub query_last : Program → ℕ → ℕ
query_last P c = cond (nat_eq c 0) (suc (length P.clauses)) c

-- how many variables stand before the first occurrence of that one, where a goal waits
abbrev pub place_waited : Program → Wait → ℕ
place_waited P w = position_or_len (nat_eq w.variable) (waited_at P w.clause w.item)

-- The one is earlier in the text than the other: by the clause's line, on one line by its number with the query last,
-- then by the item, then from left to right.
abbrev pub IsEarlier : Program → Wait → Wait → Type 0
IsEarlier P w v =
    ((clause_at P w.clause).line < (clause_at P v.clause).line)
    ⊎ (((clause_at P w.clause).line ≡ (clause_at P v.clause).line) × (query_last P w.clause < query_last P v.clause))
    ⊎ ((w.clause ≡ v.clause) × (w.item < v.item))
    ⊎ ((w.clause ≡ v.clause) × (w.item ≡ v.item) × (place_waited P w < place_waited P v))

-- nothing waits
abbrev pub IsSafe : Program → Assignment → Type 0
IsSafe P m = (w : Wait) → WaitsFor P m w → ⊥

-- the first variable that waits
abbrev pub WaitsFirst : Program → Assignment → Wait → Type 0
WaitsFirst P m w = WaitsFor P m w × ((v : Wait) → WaitsFor P m v → (v ≡ w) ⊎ IsEarlier P w v)
