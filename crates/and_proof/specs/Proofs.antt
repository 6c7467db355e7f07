-- The text of a proof, which can be checked without a search (this project's own).
use Rattle.std.specs.Prelude.{ℕ, ◌≤◌, ◌≡◌, Bool, false, cond, nat_eq, List, [], ◌∷◌, ◌++◌, length, map, codes, get_or}
use Rattle.std.specs.Prelude.{Some}
use Rattle.std.specs.Fmt.{decimal}
use Rattle.and_model.specs.Terms.{Path, Term, variable, number, compound, variables_of, Substitution, apply}
use Rattle.and_model.specs.Solutions.{Equation, MostGeneral}
use Rattle.and_model.specs.Programs.{Program, Arithmetic, clause_at}
use Rattle.and_model.specs.Trees.{Agenda, Tree, QueryTree, done, left, by, equate, reckon, unfold_code, weight}
use Rattle.and_model.specs.Trees.{IsWhole, Closed, HasOutcome}
use Rattle.and_model.specs.Lines.{Bytes, first_seen, shown, goal_term, shown_variables, variables_along, line_of}
use Rattle.and_model.specs.declared.limits.TheConstants.{MAX_LIMIT}
use Rattle.and_proof.specs.Documents.{mark}

-- A call that was replaced by a clause: the length of the clause's path, the clause, and the call.
pub record Replaced : Type 0 where
  pub depth : ℕ
  pub clause : ℕ
  pub call : Term

-- the calls of a tree that were replaced, in preorder, as its code has their clauses
abbrev pub all_replaced : {P : Program} {ag : Agenda} → Tree P ag → List Replaced
all_replaced done = []
all_replaced (left t) = all_replaced t
all_replaced (by {q = q} {g = g} c h t) = record { depth = length q; clause = c; call = g } ∷ all_replaced t
all_replaced (equate t) = all_replaced t
all_replaced (reckon t) = all_replaced t

-- the same call under a solution
abbrev pub solved_by : Substitution → Replaced → Replaced
solved_by s r = record { depth = r.depth; clause = r.clause; call = apply s r.call }

-- The name of the predicate to which a disjunction was lifted begins with the byte FF, which no text can write.
abbrev pub begins_lifted : Bytes → Bool
begins_lifted [] = false
begins_lifted (b ∷ bs) = nat_eq b 255

-- the name of a head, under a table of names
abbrev pub head_name : List Bytes → Term → Bytes
head_name names (variable q k) = []
head_name names (number z) = []
head_name names (compound c ts) = get_or names c []

-- the clause is an alternative of a disjunction
abbrev pub is_alternative : Program → ℕ → Bool
is_alternative P c = begins_lifted (head_name P.names (clause_at P c).head)

-- What is written for a call that was replaced, where variables are named by their places in `vs`: `;` where an
-- alternative replaced it, and else the call.
abbrev pub goal_text : (alternative : Bool) → List Bytes → List (Path × ℕ) → Term → Bytes
goal_text alternative names vs g = cond alternative (codes ";") (shown names vs g)

-- the variables that then have names: those of `;` are none
abbrev pub named_with : (alternative : Bool) → List (Path × ℕ) → Term → List (Path × ℕ)
named_with alternative seen g = cond alternative seen (first_seen seen (variables_of g))

-- the line of a call
abbrev pub call_line : Program → List (Path × ℕ) → Replaced → Bytes
call_line P vs r = codes "%% " ++ decimal r.depth ++ 32 ∷ decimal r.clause
    ++ 32 ∷ goal_text (is_alternative P r.clause) P.names vs r.call ++ 10 ∷ []

-- The lines of calls, where these variables have names. Each call names those of its own that have none.
abbrev pub call_lines : Program → List (Path × ℕ) → List Replaced → Bytes
call_lines P seen [] = []
call_lines P seen (r ∷ rs) =
    let vs = named_with (is_alternative P r.clause) seen r.call in call_line P vs r ++ call_lines P vs rs

-- the variables along the line of the outcome, by first occurrence
abbrev pub named_along : Program → Substitution → List Term → List (Path × ℕ)
named_along P s goals = first_seen []
    (variables_along (map (λ (v : Bytes × ℕ). s [] v.1) (shown_variables 0 P.query.written) ++ goals))

-- The proof of the query's variables under a substitution, of goals that wait, and of calls: the mark, a line for
-- each call, and the outcome's line. Variables are named along that line first, and then along the calls.
abbrev pub proof_of : Program → Substitution → List Term → List Replaced → Bytes
proof_of P s goals calls =
    mark ++ 10 ∷ call_lines P (named_along P s goals) calls ++ codes "%% line " ++ line_of P s goals ++ 10 ∷ []

-- The code has an outcome, and weighs at most the greatest limit.
abbrev pub HasProof : Program → List ℕ → Type 0
HasProof P cs = (t : QueryTree P) × (unfold_code P cs ≡ Some t) × HasOutcome t × (weight t ≤ MAX_LIMIT)

-- ProofText P cs text: this is the text of the code's proof. The code has an outcome and weighs at most the greatest
-- limit, and each call that was replaced is written as it is under a most general solution of what the proof's
-- equations close to.
pub record ProofText (P : Program) (cs : List ℕ) (text : Bytes) : Type 0 where
  pub tree : QueryTree P
  pub unfolds : unfold_code P cs ≡ Some tree
  pub fits : weight tree ≤ MAX_LIMIT
  pub whole : IsWhole tree
  pub solved : List Equation
  pub waits : List Arithmetic
  pub closed : Closed tree solved waits
  pub solution : Substitution
  pub general : MostGeneral solution solved
  pub text_is : text ≡ proof_of P solution (map (λ g. apply solution (goal_term g)) waits)
      (map (solved_by solution) (all_replaced tree))
