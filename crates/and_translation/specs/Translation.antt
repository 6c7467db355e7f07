-- The clause that a grammar rule stands for: states are threaded through its body (definite clause grammars: Pereira
-- and Warren, 1980; names and order are this project's own).
use Rattle.std.specs.Prelude.{ℕ, suc, ◌||◌, not, List, [], ◌∷◌, ◌++◌, Option, None, codes}
use Rattle.std.specs.Fmt.{decimal}
use Rattle.and_syntax.specs.Written.{Written, Many, variable, integer, compound, none, more}
use Rattle.and_syntax.specs.Tables.{Fault, What, not_pure, too_big, arguments, first_of}
use Rattle.and_translation.specs.Bodies.{Body, Alternatives, nothing, terminals, goals, nonterminal, both, either}
use Rattle.and_translation.specs.Bodies.{impure, last, or}
use Rattle.and_translation.specs.Bodies.{body_of, has_impure, has_wide, is_head, is_wide_head, first_terminals}
use Rattle.and_translation.specs.Bodies.{behind_first}

-- New variable n is named by the byte FF and the number in decimal, which no text can write.
abbrev pub state : ℕ → Written
state n = variable (255 ∷ decimal n)

-- these elements before the rest of a list
abbrev pub list_before : List Written → Written → Written
list_before [] s = s
list_before (t ∷ ts) s = compound (codes ".") (more t (more (list_before ts s) none))

abbrev pub equation : Written → Written → Written
equation t u = compound (codes "=") (more t (more u none))

-- two states as further arguments
abbrev pub with_states : Many → Written → Written → Many
with_states none s t = more s (more t none)
with_states (more u us) s t = more u (with_states us s t)

-- goals joined by `,`, and `true` where there are none
abbrev pub joined : List Written → Written
joined [] = compound (codes "true") none
joined (g ∷ []) = g
joined (g ∷ h ∷ gs) = compound (codes ",") (more g (more (joined (h ∷ gs)) none))

-- What comes of a body: its goals, the number of the state behind it, and that of the next new variable.
pub record Walk : Type 0 where
  pub goals : List Written
  pub behind : ℕ
  pub next : ℕ

-- What comes of alternatives: one goal, and the number of the next new variable.
pub record Choice : Type 0 where
  pub goal : Written
  pub next : ℕ

-- an alternative ends by making its last state the one behind all alternatives
abbrev pub ended : ℕ → Walk → Written
ended i w = joined (w.goals ++ equation (state i) (state w.behind) ∷ [])

abbrev mutual
  -- A body from state s on, where n is the number of the next new variable. A list of terminals, a nonterminal and a
  -- disjunction take one.
  pub walk : Body → (s n : ℕ) → Walk
  walk nothing s n = record { goals = []; behind = s; next = n }
  walk (terminals ts) s n =
      record { goals = equation (state s) (list_before ts (state n)) ∷ []; behind = n; next = suc n }
  walk (goals t) s n = record { goals = t ∷ []; behind = s; next = n }
  walk (nonterminal c ts) s n =
      record { goals = compound c (with_states ts (state s) (state n)) ∷ []; behind = n; next = suc n }
  walk (both a b) s n =
      let v = walk a s n in
      let w = walk b v.behind v.next in
      record { goals = v.goals ++ w.goals; behind = w.behind; next = w.next }
  walk (either rest) s n =
      let c = choose rest s n (suc n) in
      record { goals = c.goal ∷ []; behind = n; next = c.next }
  walk impure s n = record { goals = []; behind = s; next = n }

  -- Alternatives from state s on, each of which ends in state i.
  pub choose : Alternatives → (s i n : ℕ) → Choice
  choose (last a) s i n = let w = walk a s n in record { goal = ended i w; next = w.next }
  choose (or a rest) s i n =
      let w = walk a s n in
      let c = choose rest s i w.next in
      record { goal = compound (codes ";") (more (ended i w) (more c.goal none)); next = c.next }

-- a head between two states
abbrev pub head_between : Written → Written → Written → Written
head_between (variable x) s t = variable x
head_between (integer z) s t = integer z
head_between (compound c ts) s t = compound c (with_states ts s t)

-- the clause of a head and what came of its body: terminals at the beginning stand in the first state
abbrev pub clause_from : Written → List Written → Walk → Written
clause_from h ts w = compound (codes ":-")
    (more (head_between h (list_before ts (state 0)) (state w.behind)) (more (joined w.goals) none))

abbrev pub rule_clause : Written → Body → Written
rule_clause h b = clause_from h (first_terminals b) (walk (behind_first b) 0 1)

-- The clause that a rule, a head and a body, stands for.
abbrev pub translated : Written → Written
translated (variable x) = variable x
translated (integer z) = integer z
translated (compound c none) = compound c none
translated (compound c (more h none)) = compound c (more h none)
translated (compound c (more h (more b none))) = rule_clause h (body_of b)
translated (compound c (more h (more b (more t ts)))) = compound c (more h (more b (more t ts)))

abbrev pub rule_fault : Written → Body → Option Fault
rule_fault h b = first_of ((not (is_head h) || has_impure b, not_pure)
    ∷ (is_wide_head h || has_wide b, too_big arguments) ∷ [])

-- Why a rule stands for no clause.
abbrev pub translation_fault : Written → Option Fault
translation_fault (variable x) = None
translation_fault (integer z) = None
translation_fault (compound c none) = None
translation_fault (compound c (more h none)) = None
translation_fault (compound c (more h (more b none))) = rule_fault h (body_of b)
translation_fault (compound c (more h (more b (more t ts)))) = None
