-- A machine that takes the words of a text one by one, and says at each whether a text of the grammar can go on with
-- it.
use Rattle.std.specs.Prelude.{ℕ, zero, suc, ◌+◌, pos, neg_ℤ, Bool, true, false, cond, ◌&&◌, List, [], ◌∷◌, ◌++◌}
use Rattle.std.specs.Prelude.{length, map, Option, Some, None, leb, codes}
use Rattle.std.specs.Str.{bytes_eq}
use Rattle.and_model.specs.Lines.{Bytes}
use Rattle.and_syntax.specs.Written
use Rattle.and_syntax.specs.Written.{Written, Many}
use Rattle.and_language.specs.Words.{Word, Placed, products, sums, relations, is_one_of, is_reserved}
use Rattle.and_language.specs.Words as words
use Rattle.and_language.specs.Grammar.{binary, unary, cell, nil, Sort, Neck, turnstile, symbol_of, sort_of}
use Rattle.and_language.specs.Grammar.{arrow, Statement}
use Rattle.and_model.specs.declared.limits.TheConstants.{MAX_ARGUMENTS, MAX_NESTING}

-- an infix operator and its left operand, where the right one is to come
pub record Half : Type 0 where
  pub left : Written
  pub operator : Bytes

-- What waits for its operand since the last bracket, comma, semicolon or bar: at most one operator of each priority,
-- and prefix minuses.
pub record Pending : Type 0 where
  pub relation : Option Half
  pub sum : Option Half
  pub product : Option Half
  pub minuses : ℕ

-- where a term begins
abbrev pub nothing_pending : Pending
nothing_pending = record { relation = None; sum = None; product = None; minuses = 0 }

-- the operator with both operands, or the right one alone
abbrev pub with_half : Option Half → Written → Written
with_half None w = w
with_half (Some h) w = binary h.operator h.left w

-- a term behind so many prefix minuses
abbrev pub negated : ℕ → Written → Written
negated zero w = w
negated (suc n) w = negated n (unary (codes "-") w)

-- what an operand becomes by what is pending up to the priority 200: its minuses
abbrev pub at200 : Pending → Written → Written
at200 p w = negated p.minuses w

-- up to 400: the product too
abbrev pub at400 : Pending → Written → Written
at400 p w = with_half p.product (at200 p w)

-- up to 500: the sum too
abbrev pub at500 : Pending → Written → Written
at500 p w = with_half p.sum (at400 p w)

-- up to 700: the relation too
abbrev pub at700 : Pending → Written → Written
at700 p w = with_half p.relation (at500 p w)

-- An open bracket: a plain one or a brace, with the alternatives before the last semicolon in it (the latest first);
-- that of the arguments of a compound with that name, that of a list's elements, or that of a list behind its bar.
pub data Bracket : Type 0 where
  plain : List Written → Bracket
  braces : List Written → Bracket
  arguments : Bytes → Bracket
  elements : Bracket
  tail : Bracket

-- An open bracket, with the terms since the last semicolon and before the last comma or bar in it (the latest first),
-- and what was pending before it.
pub record Frame : Type 0 where
  pub bracket : Bracket
  pub before : List Written
  pub outside : Pending

-- a part of a clause: its head (or all of a fact), the body behind that head, or the body of a query
pub data ClausePart : Type 0 where
  head : ClausePart
  body : Neck → Written → ClausePart
  query : ClausePart

-- What stands outside of all brackets: the part of the clause, its alternatives before the last semicolon, and the
-- terms since then and before the last comma (the latest first).
pub record Outermost : Type 0 where
  pub part : ClausePart
  pub alternatives : List Written
  pub before : List Written

-- What may come next: an operand; only the integer behind its minus; or what can follow that operand, which may be a
-- name that a bracket makes a compound's.
pub data Mode : Type 0 where
  wanted : Mode
  numeral : Mode
  operand : Written → Option Bytes → Mode

-- Before the first word of a clause; inside a clause, where brackets are open (the innermost first); right behind the
-- bracket of a list; and behind the end of a statement of that sort and with that term.
pub data State : Type 0 where
  start : State
  inside : Outermost → List Frame → Pending → Mode → State
  opened_list : Outermost → List Frame → Pending → State
  over : Sort → Written → State

-- how many brackets and prefix minuses are open right behind the innermost of these brackets
abbrev pub depth : List Frame → ℕ
depth [] = 0
depth (f ∷ fs) = suc (f.outside.minuses + depth fs)

-- The terms before the last comma, and then that one, joined by commas.
abbrev pub conjunction : List Written → Written → Written
conjunction [] w = w
conjunction (a ∷ more) w = conjunction more (binary (codes ",") a w)

-- The alternatives before the last semicolon, and then that one, joined by semicolons.
abbrev pub disjunction : List Written → Written → Written
disjunction [] w = w
disjunction (a ∷ more) w = disjunction more (binary (codes ";") a w)

-- the alternatives before the last semicolon, and then the terms before the last comma and that one
abbrev pub at1100 : List Written → List Written → Written → Written
at1100 es b w = disjunction es (conjunction b w)

-- the arguments before the last comma, and then those
abbrev pub many : List Written → Many → Many
many [] ts = ts
many (a ∷ more) ts = many more (Written.more a ts)

-- the list of the elements before the last comma or bar, and then that rest
abbrev pub list : List Written → Written → Written
list [] w = w
list (a ∷ more) w = list more (cell a w)

-- what a name is where an operator can follow
pub data Role : Type 0 where
  is_product : Role
  is_sum : Role
  is_relation : Role
  is_neck : Neck → Role
  is_none : Role

-- the role of a name: that of the one list of operators in which it stands
abbrev pub role : Bytes → Role
role c = cond (is_one_of products c) is_product
    (cond (is_one_of sums c) is_sum
    (cond (is_one_of relations c) is_relation
    (cond (bytes_eq c (codes ":-")) (is_neck turnstile) (cond (bytes_eq c (codes "-->")) (is_neck arrow) is_none))))

-- a word where an operand is wanted: the state behind it, if it is one with which an operand begins
abbrev pub take_operand : Outermost → List Frame → Pending → Word → Option State
take_operand l fs p (words.variable x) = Some (inside l fs p (operand (Written.variable x) None))
take_operand l fs p (words.integer z) = Some (inside l fs p (operand (Written.integer (pos z)) None))
take_operand l fs p (words.name c) =
    cond (is_reserved c) None (Some (inside l fs p (operand (Written.compound c Written.none) (Some c))))
take_operand l fs p (words.quoted c) = Some (inside l fs p (operand (Written.compound c Written.none) (Some c)))
take_operand l fs p (words.minus words.integer) = Some (inside l fs p numeral)
take_operand l fs p (words.minus words.bracket) = None
take_operand l fs p (words.minus words.stop) =
    Some (inside l fs p (operand (Written.compound (codes "-") Written.none) None))
take_operand l fs p (words.minus words.operand) = Some (inside l fs (record p { minuses = suc p.minuses }) wanted)
take_operand l fs p (words.open_bracket behind) =
    Some (inside l (record { bracket = plain []; before = []; outside = p } ∷ fs) nothing_pending wanted)
take_operand l fs p words.open_brace =
    Some (inside l (record { bracket = braces []; before = []; outside = p } ∷ fs) nothing_pending wanted)
take_operand l fs p words.open_list = Some (opened_list l fs p)
take_operand l fs p words.close_bracket = None
take_operand l fs p words.close_list = None
take_operand l fs p words.close_brace = None
take_operand l fs p words.comma = None
take_operand l fs p words.semicolon = None
take_operand l fs p words.bar = None
take_operand l fs p words.end = None

-- A product behind the operand w: its left operand is what w becomes up to 400.
abbrev pub take_product : Outermost → List Frame → Pending → Written → Bytes → State
take_product l fs p w c =
    inside l fs (record {
      relation = p.relation;
      sum = p.sum;
      product = Some (record { left = at400 p w; operator = c });
      minuses = 0;
    }) wanted

-- A sum behind w: its left operand is what w becomes up to 500.
abbrev pub take_sum : Outermost → List Frame → Pending → Written → Bytes → State
take_sum l fs p w c = inside l fs
    (record {
      relation = p.relation;
      sum = Some (record { left = at500 p w; operator = c });
      product = None;
      minuses = 0;
    }) wanted

-- A relation behind w, where none is pending: its left operand is what w becomes up to 500.
abbrev pub take_relation : Outermost → List Frame → Pending → Written → Bytes → Option State
take_relation l fs p w c = elim p.relation [
  | None ↦ Some (inside l fs
      (record { relation = Some (record { left = at500 p w; operator = c }); sum = None; product = None; minuses = 0 })
      wanted)
  | Some h ↦ None
]

-- the `:-` or `-->` behind the term a, where that ends the head
abbrev pub take_neck : Outermost → List Frame → Neck → Written → Option State
take_neck l (f ∷ fs) n a = None
take_neck l [] n a = elim l.part [
  | head ↦ Some (inside (record { part = body n (at1100 l.alternatives l.before a); alternatives = []; before = [] })
      [] nothing_pending wanted)
  | body m h ↦ None
  | query ↦ None
]

-- a comma behind the term a: another argument, element or term of a conjunction begins
abbrev pub take_comma : Outermost → List Frame → Written → Option State
take_comma l [] a = Some
    (inside (record { part = l.part; alternatives = l.alternatives; before = a ∷ l.before }) [] nothing_pending wanted)
take_comma l (f ∷ fs) a =
    let next : Option State =
    Some (inside l (record { bracket = f.bracket; before = a ∷ f.before; outside = f.outside } ∷ fs)
    nothing_pending wanted) in
    elim f.bracket [ plain es ↦ next | braces es ↦ next | arguments c ↦ next | elements ↦ next | tail ↦ None ]

-- a semicolon behind the term a: another alternative begins
abbrev pub take_semicolon : Outermost → List Frame → Written → Option State
take_semicolon l [] a = Some
    (inside (record { part = l.part; alternatives = conjunction l.before a ∷ l.alternatives; before = [] }) []
    nothing_pending wanted)
take_semicolon l (f ∷ fs) a = elim f.bracket [
  | plain es ↦ Some (inside l
      (record { bracket = plain (conjunction f.before a ∷ es); before = []; outside = f.outside } ∷ fs)
      nothing_pending wanted)
  | braces es ↦ Some (inside l
      (record { bracket = braces (conjunction f.before a ∷ es); before = []; outside = f.outside } ∷ fs)
      nothing_pending wanted)
  | arguments c ↦ None
  | elements ↦ None
  | tail ↦ None
]

-- a bar behind the term a, the last element before it
abbrev pub take_bar : Outermost → List Frame → Written → Option State
take_bar l [] a = None
take_bar l (f ∷ fs) a = elim f.bracket [
  | plain es ↦ None
  | braces es ↦ None
  | arguments c ↦ None
  | elements ↦ Some (inside l (record { bracket = tail; before = a ∷ f.before; outside = f.outside } ∷ fs)
      nothing_pending wanted)
  | tail ↦ None
]

-- A round bracket that closes behind the term a: what was in it is an operand.
abbrev pub take_close_bracket : Outermost → List Frame → Written → Option State
take_close_bracket l [] a = None
take_close_bracket l (f ∷ fs) a = elim f.bracket [
  | plain es ↦ Some (inside l fs f.outside (operand (at1100 es f.before a) None))
  | braces es ↦ None
  | arguments c ↦ Some (inside l fs f.outside
      (operand (Written.compound c (many f.before (Written.more a Written.none))) None))
  | elements ↦ None
  | tail ↦ None
]

-- A brace that closes behind the term a: what was in it is the argument of an operand.
abbrev pub take_close_brace : Outermost → List Frame → Written → Option State
take_close_brace l [] a = None
take_close_brace l (f ∷ fs) a = elim f.bracket [
  | plain es ↦ None
  | braces es ↦ Some (inside l fs f.outside (operand (unary (codes "{}") (at1100 es f.before a)) None))
  | arguments c ↦ None
  | elements ↦ None
  | tail ↦ None
]

-- A list's bracket that closes behind the term a: the list is an operand.
abbrev pub take_close_list : Outermost → List Frame → Written → Option State
take_close_list l [] a = None
take_close_list l (f ∷ fs) a = elim f.bracket [
  | plain es ↦ None
  | braces es ↦ None
  | arguments c ↦ None
  | elements ↦ Some (inside l fs f.outside (operand (list f.before (cell a nil)) None))
  | tail ↦ Some (inside l fs f.outside (operand (list f.before a) None))
]

-- the end of a clause behind the term a
abbrev pub take_end : Outermost → List Frame → Written → Option State
take_end l (f ∷ fs) a = None
take_end l [] a = elim l.part [
  | head ↦ Some (over Sort.clause (at1100 l.alternatives l.before a))
  | body n h ↦ Some (over (sort_of n) (binary (symbol_of n) h (at1100 l.alternatives l.before a)))
  | query ↦ Some (over Sort.query (unary (codes "?-") (at1100 l.alternatives l.before a)))
]

-- a name of that role behind the operand w
abbrev pub take_name : Outermost → List Frame → Pending → Written → Bytes → Role → Option State
take_name l fs p w c is_product = Some (take_product l fs p w c)
take_name l fs p w c is_sum = Some (take_sum l fs p w c)
take_name l fs p w c is_relation = take_relation l fs p w c
take_name l fs p w c (is_neck n) = take_neck l fs n (at700 p w)
take_name l fs p w c is_none = None

-- a bracket behind an operand: it makes a name that of a compound
abbrev pub take_functor : Outermost → List Frame → Pending → Option Bytes → Option State
take_functor l fs p None = None
take_functor l fs p (Some c) =
    Some (inside l (record { bracket = arguments c; before = []; outside = p } ∷ fs) nothing_pending wanted)

-- a word behind the operand w, which may be the name f
abbrev pub take_operator : Outermost → List Frame → Pending → Written → Option Bytes → Word → Option State
take_operator l fs p w f (words.name c) = take_name l fs p w c (role c)
take_operator l fs p w f (words.minus b) = Some (take_sum l fs p w (codes "-"))
take_operator l fs p w f (words.open_bracket true) = take_functor l fs p f
take_operator l fs p w f (words.open_bracket false) = None
take_operator l fs p w f words.close_bracket = take_close_bracket l fs (at700 p w)
take_operator l fs p w f words.close_list = take_close_list l fs (at700 p w)
take_operator l fs p w f words.close_brace = take_close_brace l fs (at700 p w)
take_operator l fs p w f words.comma = take_comma l fs (at700 p w)
take_operator l fs p w f words.semicolon = take_semicolon l fs (at700 p w)
take_operator l fs p w f words.bar = take_bar l fs (at700 p w)
take_operator l fs p w f words.end = take_end l fs (at700 p w)
take_operator l fs p w f (words.variable x) = None
take_operator l fs p w f (words.integer z) = None
take_operator l fs p w f (words.quoted c) = None
take_operator l fs p w f words.open_list = None
take_operator l fs p w f words.open_brace = None

-- the integer behind its minus
abbrev pub take_numeral : Outermost → List Frame → Pending → Word → Option State
take_numeral l fs p (words.integer z) = Some (inside l fs p (operand (Written.integer (neg_ℤ (pos z))) None))
take_numeral l fs p (words.variable x) = None
take_numeral l fs p (words.name c) = None
take_numeral l fs p (words.quoted c) = None
take_numeral l fs p (words.minus b) = None
take_numeral l fs p (words.open_bracket behind) = None
take_numeral l fs p words.close_bracket = None
take_numeral l fs p words.open_list = None
take_numeral l fs p words.close_list = None
take_numeral l fs p words.open_brace = None
take_numeral l fs p words.close_brace = None
take_numeral l fs p words.comma = None
take_numeral l fs p words.semicolon = None
take_numeral l fs p words.bar = None
take_numeral l fs p words.end = None

-- the word `?-` begins a query
abbrev pub begins_query : Word → Bool
begins_query (words.name c) = bytes_eq c (codes "?-")
begins_query w = false

-- the word `]` closes a list
abbrev pub closes_list : Word → Bool
closes_list words.close_list = true
closes_list w = false

-- where a part of a clause begins
abbrev pub in_part : ClausePart → State
in_part a = inside (record { part = a; alternatives = []; before = [] }) [] nothing_pending wanted

-- The state behind one more word, without limits; there is none where no clause goes on with it.
abbrev pub go : State → Word → Option State
go start x = cond (begins_query x) (Some (in_part query))
    (take_operand (record { part = head; alternatives = []; before = [] }) [] nothing_pending x)
go (inside l fs p wanted) x = take_operand l fs p x
go (inside l fs p numeral) x = take_numeral l fs p x
go (inside l fs p (operand w f)) x = take_operator l fs p w f x
go (opened_list l fs p) x =
    cond (closes_list x) (Some (inside l fs p (operand nil None)))
    (take_operand l (record { bracket = elements; before = []; outside = p } ∷ fs) nothing_pending x)
go (over q t) x = None

-- Where an operand is wanted, the word is over a limit: a numeral of 2 ^ 63 or more, or a bracket or prefix minus
-- where 256 are open.
abbrev pub operand_exceeds : List Frame → Pending → Word → Bool
operand_exceeds fs p (words.integer z) = leb 9223372036854775808 z
operand_exceeds fs p (words.minus words.operand) = leb MAX_NESTING (p.minuses + depth fs)
operand_exceeds fs p (words.open_bracket behind) = leb MAX_NESTING (p.minuses + depth fs)
operand_exceeds fs p words.open_brace = leb MAX_NESTING (p.minuses + depth fs)
operand_exceeds fs p words.open_list = leb MAX_NESTING (p.minuses + depth fs)
operand_exceeds fs p x = false

-- the comma is one behind a compound's 255th argument
abbrev pub comma_exceeds : List Frame → Bool
comma_exceeds [] = false
comma_exceeds (f ∷ fs) = elim f.bracket [
  | plain es ↦ false
  | braces es ↦ false
  | arguments c ↦ leb MAX_ARGUMENTS (suc (length f.before))
  | elements ↦ false
  | tail ↦ false
]

-- Behind an operand, the word is over a limit: a bracket where 256 are open, or a comma behind a 255th argument.
abbrev pub operator_exceeds : List Frame → Pending → Word → Bool
operator_exceeds fs p (words.open_bracket behind) = leb MAX_NESTING (p.minuses + depth fs)
operator_exceeds fs p words.comma = comma_exceeds fs
operator_exceeds fs p x = false

-- In the state, the word is over a limit of a text that is taken.
abbrev pub exceeds : State → Word → Bool
exceeds start x = operand_exceeds [] nothing_pending x
exceeds (inside l fs p wanted) x = operand_exceeds fs p x
exceeds (inside l fs p numeral) x = false
exceeds (inside l fs p (operand w f)) x = operator_exceeds fs p x
exceeds (opened_list l fs p) x =
    operand_exceeds (record { bracket = elements; before = []; outside = p } ∷ fs) nothing_pending x
exceeds (over q t) x = false

-- the state behind one more word; there is none where no clause goes on with it, within the limits if they are kept
abbrev pub step : Bool → State → Word → Option State
step limited s x = cond (limited && exceeds s x) None (go s x)

-- what the second gives for what the first gives, if both give something
abbrev pub and_then : {A B : Type 0} → Option A → (A → Option B) → Option B
and_then None f = None
and_then (Some a) f = f a

-- the state behind these words
abbrev pub run : Bool → State → List Word → Option State
run limited s [] = Some s
run limited s (x ∷ xs) = and_then (step limited s x) (λ t. run limited t xs)

-- How far a text is read: its clauses, queries and rules so far; and where one more is begun, the place of its first
-- word and the state behind its last.
pub data Reading : Type 0 where
  between : List Statement → Reading
  within : List Statement → ℕ → State → Reading

-- how far the text is read where the clause that began at the place n is in that state
abbrev pub at_state : List Statement → ℕ → State → Reading
at_state ss n (over q t) = between (ss ++ record { sort = q; term = t; place = n } ∷ [])
at_state ss n start = within ss n start
at_state ss n (inside l fs p m) = within ss n (inside l fs p m)
at_state ss n (opened_list l fs p) = within ss n (opened_list l fs p)

-- a text with one more word
abbrev pub take_word : Bool → Reading → Placed → Option Reading
take_word limited (between ss) p = and_then (step limited start p.word) (λ s. Some (at_state ss p.place s))
take_word limited (within ss n s) p = and_then (step limited s p.word) (λ t. Some (at_state ss n t))

-- a text with these words more
abbrev pub take_words : Bool → Reading → List Placed → Option Reading
take_words limited r [] = Some r
take_words limited r (p ∷ ps) = and_then (take_word limited r p) (λ t. take_words limited t ps)

-- The state is behind the end of a clause, query or rule.
abbrev pub is_over : State → Bool
is_over (over q t) = true
is_over start = false
is_over (inside l fs p m) = false
is_over (opened_list l fs p) = false

-- the words by themselves
abbrev pub words_of : List Placed → List Word
words_of ps = map (λ (p : Placed). p.word) ps
