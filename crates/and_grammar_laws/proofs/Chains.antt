-- Clauses of rules over numbered names, and the steps from one list to another that they make of an agenda.
use Rattle.std.proofs.Common.{ℕ, suc, ◌+◌, ◌<◌, ◌≤◌, ◌≡◌, List, [], ◌∷◌, ◌++◌, length, refl, ap, ◌∙◌, arith}
use Rattle.and_model.specs.Lines.{Bytes}
use Rattle.and_model.specs.Terms.{Path, Term, variable, compound, none, more, Substitution, apply}
use Rattle.and_model.specs.Programs.{Program, Clause, Item, call, equal, clause_at}
use Rattle.and_model.specs.Trees.{Agenda, goal, equation, agenda}
use Rattle.and_model.specs.declared.builtins.TheConstants.{POINT, NIL}
use Rattle.and_grammar_laws.specs.Derivations.{Symbol, letters, phrase, Rule, IsNumber, DerivesAll, terminals}

abbrev pub nil : Term
nil = compound NIL none

-- what comes first in a body, if it is a list, and the others
abbrev pub first : List Symbol → List Bytes
first [] = []
first (letters ls ∷ body) = ls
first (phrase n ∷ body) = []

abbrev pub others : List Symbol → List Symbol
others [] = []
others (letters ls ∷ body) = body
others (phrase n ∷ body) = phrase n ∷ body

-- the state behind a body from state k on
abbrev pub behind : List Symbol → ℕ → ℕ
behind [] k = k
behind (letters [] ∷ body) k = behind body k
behind (letters (l ∷ ls) ∷ body) k = behind body (suc k)
behind (phrase n ∷ body) k = behind body (suc k)

-- how many states it takes
abbrev pub states : List Symbol → ℕ
states [] = 0
states (letters [] ∷ body) = states body
states (letters (l ∷ ls) ∷ body) = suc (states body)
states (phrase n ∷ body) = suc (states body)

pub behind_states : (body : List Symbol) (k : ℕ) → behind body k ≡ k + states body
behind_states [] k = omega arith
behind_states (letters [] ∷ body) k = behind_states body k
behind_states (letters (l ∷ ls) ∷ body) k = omega (arith, behind_states body (suc k))
behind_states (phrase n ∷ body) k = omega (arith, behind_states body (suc k))

-- (f gives the numbers of names)
module _ (f : Bytes → ℕ) where
  abbrev pub list_to : List Bytes → Term → Term
  list_to [] t = t
  list_to (x ∷ xs) t = compound POINT (more (compound (f x) none) (more (list_to xs t) none))

  abbrev pub between : Bytes → Term → Term → Term
  between n s t = compound (f n) (more s (more t none))

  -- the items of a body from state k on, where state k is variable `m k`
  abbrev pub items_of : (ℕ → ℕ) → List Symbol → ℕ → List Item
  items_of m [] k = []
  items_of m (letters [] ∷ body) k = items_of m body k
  items_of m (letters (l ∷ ls) ∷ body) k =
      equal (variable [] (m k)) (list_to (l ∷ ls) (variable [] (m (suc k)))) ∷ items_of m body (suc k)
  items_of m (phrase n ∷ body) k = call (between n (variable [] (m k)) (variable [] (m (suc k)))) ∷ items_of m body (suc k)

  -- The clause is that of the rule: its states are variables of their own.
  pub record IsClauseOf (k : Clause) (r : Rule) : Type 0 where
    pub number : ℕ → ℕ
    pub back : ℕ → ℕ
    pub inverse : (j : ℕ) → j ≤ states (others r.body) → back (number j) ≡ j
    pub head_is : k.head ≡ between r.head (list_to (first r.body) (variable [] (number 0))) (variable [] (number (states (others r.body))))
    pub body_is : k.body ≡ items_of number (others r.body) 0

  pub apply_list : (s : Substitution) (xs : List Bytes) (t : Term) → apply s (list_to xs t) ≡ list_to xs (apply s t)
  apply_list s [] t = refl
  apply_list s (x ∷ xs) t = ap (λ (u : Term). compound POINT (more (compound (f x) none) (more u none))) (apply_list s xs t)

  pub list_both : (xs ys : List Bytes) (t : Term) → list_to (xs ++ ys) t ≡ list_to xs (list_to ys t)
  list_both [] ys t = refl
  list_both (x ∷ xs) ys t = ap (λ (u : Term). compound POINT (more (compound (f x) none) (more u none))) (list_both xs ys t)

  -- A step from one list to another: by terminals, or by a call.
  pub data Step : Type 0 where
    joins : Term → List Bytes → Term → Step
    calls : Path → Bytes → Term → Term → Step

  abbrev pub before : List Step → Agenda → Agenda
  before [] rest = rest
  before (joins a ls b ∷ steps) rest = equation a (list_to ls b) (before steps rest)
  before (calls p n a b ∷ steps) rest = goal p (between n a b) (before steps rest)

  pub before_both : (xs ys : List Step) (rest : Agenda) → before (xs ++ ys) rest ≡ before xs (before ys rest)
  before_both [] ys rest = refl
  before_both (joins a ls b ∷ xs) ys rest = ap (equation a (list_to ls b)) (before_both xs ys rest)
  before_both (calls p n a b ∷ xs) ys rest = ap (goal p (between n a b)) (before_both xs ys rest)

  -- the steps of a body in the frame q, from item i and state k on
  abbrev pub steps_of : (ℕ → ℕ) → Path → ℕ → List Symbol → ℕ → List Step
  steps_of m q i [] k = []
  steps_of m q i (letters [] ∷ body) k = steps_of m q i body k
  steps_of m q i (letters (l ∷ ls) ∷ body) k =
      joins (variable q (m k)) (l ∷ ls) (variable q (m (suc k))) ∷ steps_of m q (suc i) body (suc k)
  steps_of m q i (phrase n ∷ body) k =
      calls (q ++ i ∷ []) n (variable q (m k)) (variable q (m (suc k))) ∷ steps_of m q (suc i) body (suc k)

  pub body_agenda : (m : ℕ → ℕ) (q : Path) (i : ℕ) (body : List Symbol) (k : ℕ) (rest : Agenda)
      → agenda q i (items_of m body k) rest ≡ before (steps_of m q i body k) rest
  body_agenda m q i [] k rest = refl
  body_agenda m q i (letters [] ∷ body) k rest = body_agenda m q i body k rest
  body_agenda m q i (letters (l ∷ ls) ∷ body) k rest =
      ap (λ (t : Term). equation (variable q (m k)) t (agenda q (suc i) (items_of m body (suc k)) rest))
      (apply_list (λ r j. variable q j) (l ∷ ls) (variable [] (m (suc k))))
      ∙ ap (equation (variable q (m k)) (list_to (l ∷ ls) (variable q (m (suc k))))) (body_agenda m q (suc i) body (suc k) rest)
  body_agenda m q i (phrase n ∷ body) k rest =
      ap (goal (q ++ i ∷ []) (between n (variable q (m k)) (variable q (m (suc k))))) (body_agenda m q (suc i) body (suc k) rest)

-- A program of these rules, in which no other name has the number of a head.
pub record IsProgramOf (f : Bytes → ℕ) (P : Program) (grammar : List Rule) : Type 0 where
  pub rule_of : (c : ℕ) → 0 < c → c ≤ length P.clauses → (r : Rule) × IsNumber c grammar r × IsClauseOf f (clause_at P c) r
  pub clause_of : (c : ℕ) (r : Rule) → IsNumber c grammar r → (0 < c) × (c ≤ length P.clauses) × IsClauseOf f (clause_at P c) r
  pub heads : (c : ℕ) (r : Rule) → IsNumber c grammar r → (n : Bytes) → f n ≡ f r.head → r.head ≡ n

-- the others of a body and what comes first are the body's
pub with_first : (grammar : List Rule) (body : List Symbol) (word : List Bytes) (code : List ℕ)
    → DerivesAll grammar (others body) word code → DerivesAll grammar body (first body ++ word) code
with_first grammar [] word code d = d
with_first grammar (letters ls ∷ body) word code d = terminals ls body word code d
with_first grammar (phrase n ∷ body) word code d = d
