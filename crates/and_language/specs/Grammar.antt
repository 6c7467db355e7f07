-- The grammar of texts (after ISO 13211-1, sections 6.2 and 6.3, for pure clauses and grammar rules):
--
--   text   = { clause }
--   clause = e1100 End | e1100 ":-" e1100 End | "?-" e1100 End
--          | e1100 "-->" e1100 End
--   e1100  = e1000 | e1000 ";" e1100
--   e1000  = e700 | e700 "," e1000
--   e700   = e500 | e500 op700 e500
--   e500   = e400 | e500 ( "+" | "-" ) e400
--   e400   = e200 | e400 ( "*" | "//" | "mod" | "rem" ) e200
--   e200   = "-" e200 | e0
--   e0     = Variable | Integer | atom | atom "(" e700 { "," e700 } ")"
--          | "(" e1100 ")" | "{" e1100 "}" | "[" "]"
--          | "[" e700 { "," e700 } [ "|" e700 ] "]"
use Rattle.std.specs.Prelude.{ℕ, suc, ◌<◌, ◌≡◌, pos, neg_ℤ, Bool, true, false, List, [], ◌∷◌, ◌++◌, map, codes}
use Rattle.and_model.specs.Lines.{Bytes}
use Rattle.and_syntax.specs.Written
use Rattle.and_syntax.specs.Written.{Written, Many}
use Rattle.and_language.specs.Words.{Word, Placed, products, sums, relations, is_one_of, is_reserved}
use Rattle.and_language.specs.Words as words
use Rattle.and_model.specs.declared.limits.TheConstants.{MAX_ARGUMENTS, MAX_NESTING}

-- the operators' priorities, from the tightest on
pub data Level : Type 0 where
  term0 : Level
  term200 : Level
  term400 : Level
  term500 : Level
  term700 : Level
  term1000 : Level
  term1100 : Level

-- a name with two arguments, or with one
abbrev pub binary : Bytes → Written → Written → Written
binary c a b = Written.compound c (Written.more a (Written.more b Written.none))

abbrev pub unary : Bytes → Written → Written
unary c a = Written.compound c (Written.more a Written.none)

-- a list cell, and the empty list
abbrev pub cell : Written → Written → Written
cell a b = binary (codes ".") a b

abbrev pub nil : Written
nil = Written.compound (codes "[]") Written.none

-- an atom by itself
pub data IsAtom : Word → Bytes → Type 0 where
  name : (c : Bytes) → is_reserved c ≡ false → IsAtom (words.name c) c
  quoted : (c : Bytes) → IsAtom (words.quoted c) c
  minus : IsAtom (words.minus words.stop) (codes "-")

-- the name of a compound, behind which its bracket stands
pub data IsFunctor : Word → Bytes → Type 0 where
  name : (c : Bytes) → is_reserved c ≡ false → IsFunctor (words.name c) c
  quoted : (c : Bytes) → IsFunctor (words.quoted c) c

-- an operator of the priority 500
pub data IsSum : Word → Bytes → Type 0 where
  name : (c : Bytes) → is_one_of sums c ≡ true → IsSum (words.name c) c
  minus : (b : words.Before) → IsSum (words.minus b) (codes "-")

-- what a text consists of: clauses, queries and grammar rules
pub data Sort : Type 0 where
  clause : Sort
  query : Sort
  grammar_rule : Sort

-- what stands between a head and a body: `:-` in a clause, and `-->` in a grammar rule
pub data Neck : Type 0 where
  turnstile : Neck
  arrow : Neck

abbrev pub symbol_of : Neck → Bytes
symbol_of turnstile = codes ":-"
symbol_of arrow = codes "-->"

abbrev pub sort_of : Neck → Sort
sort_of turnstile = Sort.clause
sort_of arrow = Sort.grammar_rule

-- Terms, without limits or with those of a text that is taken: a plain numeral is below 2 ^ 63, at most 256 brackets
-- and prefix minuses are open at once, and a name has at most 255 arguments.
module _ (limited : Bool) where
  mutual
    -- Reads n level ws rest w: where n brackets and minuses are open, the words ws are a term w of that priority, and
    -- then the rest.
    pub data Reads : ℕ → Level → List Word → List Word → Written → Type 0 where
      variable : (n : ℕ) (x : Bytes) (rest : List Word)
          → Reads n term0 (words.variable x ∷ rest) rest (Written.variable x)
      integer : (n z : ℕ) (rest : List Word) → (limited ≡ true → z < 9223372036854775808)
          → Reads n term0 (words.integer z ∷ rest) rest (Written.integer (pos z))
      negative : (n z : ℕ) (rest : List Word)
          → Reads n term0 (words.minus words.integer ∷ words.integer z ∷ rest) rest (Written.integer (neg_ℤ (pos z)))
      atom : (n : ℕ) (a : Word) (c : Bytes) (rest : List Word) → IsAtom a c
          → Reads n term0 (a ∷ rest) rest (Written.compound c Written.none)
      compound : (n : ℕ) (a : Word) (c : Bytes) (ws rest : List Word) (ts : Many) → IsFunctor a c
          → (limited ≡ true → n < MAX_NESTING) → Arguments (suc n) 0 ws rest ts
          → Reads n term0 (a ∷ words.open_bracket true ∷ ws) rest (Written.compound c ts)
      bracketed : (n : ℕ) (behind : Bool) (ws rest : List Word) (w : Written) → (limited ≡ true → n < MAX_NESTING)
          → Reads (suc n) term1100 ws (words.close_bracket ∷ rest) w
          → Reads n term0 (words.open_bracket behind ∷ ws) rest w
      braced : (n : ℕ) (ws rest : List Word) (w : Written) → (limited ≡ true → n < MAX_NESTING)
          → Reads (suc n) term1100 ws (words.close_brace ∷ rest) w
          → Reads n term0 (words.open_brace ∷ ws) rest (unary (codes "{}") w)
      empty_list : (n : ℕ) (rest : List Word) → (limited ≡ true → n < MAX_NESTING)
          → Reads n term0 (words.open_list ∷ words.close_list ∷ rest) rest nil
      list : (n : ℕ) (ws rest : List Word) (w : Written) → (limited ≡ true → n < MAX_NESTING)
          → Elements (suc n) ws rest w → Reads n term0 (words.open_list ∷ ws) rest w
      negated : (n : ℕ) (ws rest : List Word) (w : Written) → (limited ≡ true → n < MAX_NESTING)
          → Reads (suc n) term200 ws rest w
          → Reads n term200 (words.minus words.operand ∷ ws) rest (unary (codes "-") w)
      product : (n : ℕ) (ws us rest : List Word) (c : Bytes) (a b : Written) → Reads n term400 ws (words.name c ∷ us) a
          → is_one_of products c ≡ true → Reads n term200 us rest b
          → Reads n term400 ws rest (binary c a b)
      sum : (n : ℕ) (ws us rest : List Word) (o : Word) (c : Bytes) (a b : Written) → Reads n term500 ws (o ∷ us) a
          → IsSum o c → Reads n term400 us rest b
          → Reads n term500 ws rest (binary c a b)
      relation : (n : ℕ) (ws us rest : List Word) (c : Bytes) (a b : Written)
          → Reads n term500 ws (words.name c ∷ us) a → is_one_of relations c ≡ true → Reads n term500 us rest b
          → Reads n term700 ws rest (binary c a b)
      conjunction : (n : ℕ) (ws us rest : List Word) (a b : Written) → Reads n term700 ws (words.comma ∷ us) a
          → Reads n term1000 us rest b
          → Reads n term1000 ws rest (binary (codes ",") a b)
      disjunction : (n : ℕ) (ws us rest : List Word) (a b : Written) → Reads n term1000 ws (words.semicolon ∷ us) a
          → Reads n term1100 us rest b
          → Reads n term1100 ws rest (binary (codes ";") a b)
      -- a term of one priority is one of the next
      as200 : (n : ℕ) (ws rest : List Word) (w : Written) → Reads n term0 ws rest w → Reads n term200 ws rest w
      as400 : (n : ℕ) (ws rest : List Word) (w : Written) → Reads n term200 ws rest w → Reads n term400 ws rest w
      as500 : (n : ℕ) (ws rest : List Word) (w : Written) → Reads n term400 ws rest w → Reads n term500 ws rest w
      as700 : (n : ℕ) (ws rest : List Word) (w : Written) → Reads n term500 ws rest w → Reads n term700 ws rest w
      as1000 : (n : ℕ) (ws rest : List Word) (w : Written) → Reads n term700 ws rest w → Reads n term1000 ws rest w
      as1100 : (n : ℕ) (ws rest : List Word) (w : Written) → Reads n term1000 ws rest w → Reads n term1100 ws rest w

    -- the arguments of a compound behind its first k, and its closing bracket
    pub data Arguments : ℕ → ℕ → List Word → List Word → Many → Type 0 where
      last_argument : (n k : ℕ) (ws rest : List Word) (w : Written) → Reads n term700 ws (words.close_bracket ∷ rest) w
          → Arguments n k ws rest (Written.more w Written.none)
      next_argument : (n k : ℕ) (ws us rest : List Word) (w : Written) (ts : Many)
          → Reads n term700 ws (words.comma ∷ us) w → (limited ≡ true → suc k < MAX_ARGUMENTS)
          → Arguments n (suc k) us rest ts
          → Arguments n k ws rest (Written.more w ts)

    -- the elements of a list, and its closing bracket
    pub data Elements : ℕ → List Word → List Word → Written → Type 0 where
      last_element : (n : ℕ) (ws rest : List Word) (a : Written) → Reads n term700 ws (words.close_list ∷ rest) a
          → Elements n ws rest (cell a nil)
      tail : (n : ℕ) (ws us rest : List Word) (a b : Written) → Reads n term700 ws (words.bar ∷ us) a
          → Reads n term700 us (words.close_list ∷ rest) b → Elements n ws rest (cell a b)
      next_element : (n : ℕ) (ws us rest : List Word) (a b : Written) → Reads n term700 ws (words.comma ∷ us) a
          → Elements n us rest b → Elements n ws rest (cell a b)

  -- The words are a clause, a query or a grammar rule, and nothing else.
  pub data IsClause : List Word → Sort → Written → Type 0 where
    fact : (ws : List Word) (h : Written) → Reads 0 term1100 ws (words.end ∷ []) h → IsClause ws Sort.clause h
    rule : (ws us : List Word) (k : Neck) (h b : Written) → Reads 0 term1100 ws (words.name (symbol_of k) ∷ us) h
        → Reads 0 term1100 us (words.end ∷ []) b
        → IsClause ws (sort_of k) (binary (symbol_of k) h b)
    query : (ws : List Word) (b : Written) → Reads 0 term1100 ws (words.end ∷ []) b
        → IsClause (words.name (codes "?-") ∷ ws) Sort.query (unary (codes "?-") b)

-- A clause, query or grammar rule of a text: its term, and the place of its first token.
pub record Statement : Type 0 where
  pub sort : Sort
  pub term : Written
  pub place : ℕ

-- The words are those of these clauses, queries and rules, in order.
pub data IsText (limited : Bool) : List Placed → List Statement → Type 0 where
  nothing : IsText limited [] []
  statement : (first : Placed) (others rest whole : List Placed) (s : Sort) (w : Written) (ss : List Statement)
      → whole ≡ first ∷ others ++ rest
      → IsClause limited (map (λ (p : Placed). p.word) (first ∷ others)) s w → IsText limited rest ss
      → IsText limited whole (record { sort = s; term = w; place = first.place } ∷ ss)

-- The words can be continued to a text.
abbrev pub CanGoOn : Bool → List Placed → Type 0
CanGoOn limited ws = (us : List Placed) × (ss : List Statement) × IsText limited (ws ++ us) ss
