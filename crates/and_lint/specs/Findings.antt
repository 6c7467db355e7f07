-- Findings: what is told of a program that can be run, and may still not be meant. Each is a line.
use Rattle.std.specs.Prelude.{ℕ, suc, ◌≡◌, Bool, false, not, ◌&&◌, cond, nat_eq, List, [], ◌∷◌, ◌++◌, length, get_or}
use Rattle.std.specs.Prelude.{codes}
use Rattle.std.specs.List.{flat_map, range_with_len}
use Rattle.std.specs.Fmt.{decimal}
use Rattle.and_model.specs.Terms.{Term, variable, number, compound, width, variables_of}
use Rattle.and_model.specs.Lines.{Bytes, shown_name, shown, first_seen, begins_underscore}
use Rattle.and_model.specs.Programs.{Program, Clause, Item, call, equal, arithmetic, fail, clause_at}
use Rattle.and_model.specs.declared.numbers.ClauseNo.{ClauseNo}
use Rattle.and_program.specs.Shown.{clauses_with}
use Rattle.and_lint.specs.Bodies.{is_lifted, items_written, variables_written}
use Rattle.and_lint.specs.Subterms.{subterms, expressions_of, has_no_value, looks_worked_out}
use Rattle.and_lint.specs.Reached.{TellsReached}

-- the name of a term
abbrev pub name_of : Term → ℕ
name_of (variable q k) = 0
name_of (number z) = 0
name_of (compound c ts) = c

abbrev pub shown_name_of : Program → Term → Bytes
shown_name_of P t = shown_name (get_or P.names (name_of t) [])

-- how a line about a clause begins
abbrev pub front : (line : ℕ) → Bytes
front n = codes "line " ++ decimal n ++ codes ": "

-- how often a number is among these
abbrev pub times : ℕ → List ℕ → ℕ
times n [] = 0
times n (m ∷ ms) = cond (nat_eq m n) (suc (times n ms)) (times n ms)

-- The variable is among these once, and its name does not begin with `_`.
abbrev pub is_alone : Clause → List ℕ → (variable : ℕ) → Bool
is_alone k vs v = not (begins_underscore (get_or k.written v [])) && nat_eq (times v vs) 1

abbrev pub once_line : Clause → (variable : ℕ) → Bytes
once_line k v = front k.line ++ get_or k.written v [] ++ codes " occurs once"

abbrev pub once_lines_of : Clause → List ℕ → (variable : ℕ) → List Bytes
once_lines_of k vs v = cond (is_alone k vs v) (once_line k v ∷ []) []

-- The variables that are among these once, by their numbers, which are in the order of first occurrences.
abbrev pub once_lines : Clause → List ℕ → List Bytes
once_lines k vs = flat_map (once_lines_of k vs) (range_with_len 0 k.variables)

-- the first number of a list is this one
abbrev pub begins_with : ℕ → List ClauseNo → Bool
begins_with c [] = false
begins_with c (m ∷ ms) = nat_eq m.0 c

-- the clause of that number, whose head is given, is the first of its predicate
abbrev pub is_first : Program → ℕ → (head : Term) → Bool
is_first P c (variable q k) = false
is_first P c (number z) = false
is_first P c (compound d ts) = begins_with c (clauses_with d (width ts) 1 P.clauses)

-- how many arguments a term has
abbrev pub arity_of : Term → ℕ
arity_of (variable q k) = 0
arity_of (number z) = 0
arity_of (compound c ts) = width ts

abbrev pub never_line : Program → Clause → Bytes
never_line P k = front k.line ++ shown_name_of P k.head ++ codes "/" ++ decimal (arity_of k.head)
    ++ codes " is never called"

-- The clause is the first of a predicate to which no chain of calls leads.
abbrev pub never_lines : Program → (reached : ℕ → Bool) → ℕ → List Bytes
never_lines P reached c = let k = clause_at P c in
    cond (not (reached c) && is_first P c k.head) (never_line P k ∷ []) []

abbrev pub no_value_line : Program → Clause → Term → Bytes
no_value_line P k t = front k.line ++ shown_name_of P t ++ codes " has no value"

abbrev pub no_value_lines_of : Program → Clause → Term → List Bytes
no_value_lines_of P k t = cond (has_no_value t) (no_value_line P k t ∷ []) []

-- The subterms of these items' expressions that can have no value.
abbrev pub no_value_lines : Program → Clause → List Item → List Bytes
no_value_lines P k items = flat_map (no_value_lines_of P k) (flat_map subterms (flat_map expressions_of items))

-- the term as it is written, its variables named by first occurrence
abbrev pub left_line : Program → Clause → Term → Bytes
left_line P k t =
    front k.line ++ codes "= leaves " ++ shown P.names (first_seen [] (variables_of t)) t ++ codes " as a term"

abbrev pub left_lines_at : Program → Clause → Term → List Bytes
left_lines_at P k t = cond (looks_worked_out t) (left_line P k t ∷ []) []

-- of two sides the left one is told, and else the right one
abbrev pub left_lines_between : Program → Clause → (left right : Term) → List Bytes
left_lines_between P k a b = cond (looks_worked_out a) (left_line P k a ∷ []) (left_lines_at P k b)

-- An equation one side of which is an operator's term with a variable or a numeral in it leaves that side as it is.
abbrev pub left_lines_of : Program → Clause → Item → List Bytes
left_lines_of P k (call g) = []
left_lines_of P k (equal a b) = left_lines_between P k a b
left_lines_of P k (arithmetic g) = []
left_lines_of P k fail = []

abbrev pub left_lines : Program → Clause → List Item → List Bytes
left_lines P k items = flat_map (left_lines_of P k) items

-- the findings of a clause of the text, or of the query, those of its disjunctions among them
abbrev pub clause_lines : Program → (reached : ℕ → Bool) → ℕ → List Bytes
clause_lines P reached c = let k = clause_at P c in
    once_lines k (variables_written P c) ++ never_lines P reached c
    ++ no_value_lines P k (items_written P c) ++ left_lines P k (items_written P c)

-- An alternative of a disjunction is told of where its clause is.
abbrev pub lines_of : Program → (reached : ℕ → Bool) → ℕ → List Bytes
lines_of P reached c = cond (is_lifted P (clause_at P c).head) [] (clause_lines P reached c)

-- the findings of all clauses in the order of the text, the query's last
abbrev pub all_lines : Program → (reached : ℕ → Bool) → List Bytes
all_lines P reached = flat_map (lines_of P reached) (range_with_len 1 (length P.clauses) ++ 0 ∷ [])

-- lines, each with its newline
abbrev pub written_lines : List Bytes → Bytes
written_lines ls = flat_map (λ (l : Bytes). l ++ 10 ∷ []) ls

-- What is told of a program: its findings, and how many they are.
pub record IsLint (P : Program) (text : Bytes) (count : ℕ) : Type 0 where
  pub reached : ℕ → Bool
  pub tells : TellsReached P reached
  pub counted : count ≡ length (all_lines P reached)
  pub written : text ≡ written_lines (all_lines P reached) ++ decimal count ++ codes " findings\n"
