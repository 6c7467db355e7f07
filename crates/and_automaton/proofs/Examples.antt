-- The machine at some clauses.
use Rattle.std.proofs.Common.{ℕ, ◌≡◌, pos, true, false, List, [], ◌∷◌, Some, None, refl}
use Rattle.std.specs.Prelude.{codes, neg_ℤ}
use Rattle.and_syntax.specs.Written
use Rattle.and_syntax.specs.Written.{Written}
use Rattle.and_language.specs.Words as words
use Rattle.and_language.specs.Grammar.{binary, unary, cell, Sort}
use Rattle.and_automaton.specs.Machine.{State, start, over, inside, opened_list, run, step, nothing_pending, plain, head, wanted}

abbrev atom : List ℕ → Written
atom c = Written.compound c Written.none

-- `a - b * c = d , e .`
operators : run true start
    (words.name (codes "a") ∷ words.minus words.operand ∷ words.name (codes "b") ∷ words.name (codes "*") ∷ words.name (codes "c") ∷ words.name (codes "=")
    ∷ words.name (codes "d") ∷ words.comma ∷ words.name (codes "e") ∷ words.end ∷ [])
    ≡ Some (over Sort.clause (binary (codes ",")
    (binary (codes "=") (binary (codes "-") (atom (codes "a")) (binary (codes "*") (atom (codes "b")) (atom (codes "c")))) (atom (codes "d")))
    (atom (codes "e"))))
operators = refl

-- `- - 1 .`
minuses : run true start (words.minus words.operand ∷ words.minus words.integer ∷ words.integer 1 ∷ words.end ∷ [])
    ≡ Some (over Sort.clause (unary (codes "-") (Written.integer (neg_ℤ (pos 1)))))
minuses = refl

-- `?- f(-, [X|Y]) .`
brackets : run true start
    (words.name (codes "?-") ∷ words.name (codes "f") ∷ words.open_bracket true ∷ words.minus words.stop ∷ words.comma ∷ words.open_list
    ∷ words.variable (codes "X")
    ∷ words.bar ∷ words.variable (codes "Y") ∷ words.close_list ∷ words.close_bracket ∷ words.end ∷ [])
    ≡ Some (over Sort.query (unary (codes "?-") (Written.compound (codes "f") (Written.more (atom (codes "-"))
    (Written.more (cell (Written.variable (codes "X")) (Written.variable (codes "Y"))) Written.none)))))
brackets = refl

-- `a --> { b ; c } , d .`
braces : run true start
    (words.name (codes "a") ∷ words.name (codes "-->") ∷ words.open_brace ∷ words.name (codes "b") ∷ words.semicolon ∷ words.name (codes "c")
    ∷ words.close_brace ∷ words.comma
    ∷ words.name (codes "d") ∷ words.end ∷ [])
    ≡ Some (over Sort.grammar_rule (binary (codes "-->") (atom (codes "a"))
    (binary (codes ",") (unary (codes "{}") (binary (codes ";") (atom (codes "b")) (atom (codes "c")))) (atom (codes "d")))))
braces = refl

-- `a ; b , c ; d .`
alternatives : run true start
    (words.name (codes "a") ∷ words.semicolon ∷ words.name (codes "b") ∷ words.comma ∷ words.name (codes "c") ∷ words.semicolon
    ∷ words.name (codes "d") ∷ words.end ∷ [])
    ≡ Some (over Sort.clause (binary (codes ";") (atom (codes "a"))
    (binary (codes ";") (binary (codes ",") (atom (codes "b")) (atom (codes "c"))) (atom (codes "d")))))
alternatives = refl

-- `f ( a ;`
semicolon_among_arguments : run false start (words.name (codes "f") ∷ words.open_bracket true ∷ words.name (codes "a") ∷ words.semicolon ∷ []) ≡ None
semicolon_among_arguments = refl

-- `a = b = c`
two_relations : run false start (words.name (codes "a") ∷ words.name (codes "=") ∷ words.name (codes "b") ∷ words.name (codes "=") ∷ []) ≡ None
two_relations = refl

-- the second of two states, before a bracket at the nesting 255 and 256
abbrev deep : ℕ → State
deep n = inside (record { part = head; alternatives = []; before = [] })
    (record { bracket = plain []; before = []; outside = record nothing_pending { minuses = n } } ∷ []) nothing_pending wanted

still_open : step true (deep 254) words.open_list ≡ Some
    (opened_list (record { part = head; alternatives = []; before = [] })
    (record { bracket = plain []; before = []; outside = record nothing_pending { minuses = 254 } } ∷ []) nothing_pending)
still_open = refl

too_deep : step true (deep 255) words.open_list ≡ None
too_deep = refl
