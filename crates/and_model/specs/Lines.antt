-- How an answer is written (the canonical form of ISO 13211-1, section 7.10.5, with lists in brackets; the line is
-- this project's own).
use Rattle.std.specs.Prelude.{ℕ, suc, Bool, true, false, not, cond, ◌&&◌, ◌||◌, List, [], ◌∷◌, ◌++◌, get_or, nat_eq}
use Rattle.std.specs.Prelude.{leb, codes, map}
use Rattle.std.specs.Fmt.{decimal, signed_decimal}
use Rattle.and_model.specs.Terms.{Path, Term, Terms, variable, number, compound, none, more, variables_of}
use Rattle.and_model.specs.Terms.{Substitution, apply}
use Rattle.and_model.specs.Arithmetic.{Relation, less, greater, at_most, at_least, same, differs}
use Rattle.and_model.specs.Programs.{Program, Arithmetic, is, compare}
use Rattle.and_model.specs.declared.builtins.TheConstants.{IS, LESS, GREATER, AT_MOST, AT_LEAST, SAME, DIFFERS, POINT}
use Rattle.and_model.specs.declared.builtins.TheConstants.{NIL}

-- A text is a list of bytes.
abbrev pub Bytes : Type 0
Bytes = List ℕ

abbrev pub is_between : ℕ → ℕ → ℕ → Bool
is_between low high b = leb low b && leb b high

abbrev pub is_small : ℕ → Bool
is_small b = is_between 97 122 b

-- a letter, a digit or `_`
abbrev pub is_word : ℕ → Bool
is_word b = is_small b || is_between 65 90 b || is_between 48 57 b || nat_eq b 95

abbrev pub holds_of_all : (ℕ → Bool) → Bytes → Bool
holds_of_all p [] = true
holds_of_all p (b ∷ bs) = p b && holds_of_all p bs

abbrev pub holds_of_some : (ℕ → Bool) → Bytes → Bool
holds_of_some p [] = false
holds_of_some p (b ∷ bs) = p b || holds_of_some p bs

-- one of + - * / \ ^ < > = ~ : . ? @ # & $
abbrev pub is_symbol : ℕ → Bool
is_symbol b = holds_of_some (nat_eq b) (codes "+-*/\\^<>=~:.?@#&$")

-- a small letter, and then letters, digits and `_`
abbrev pub is_plain_name : Bytes → Bool
is_plain_name [] = false
is_plain_name (b ∷ bs) = is_small b && holds_of_all is_word bs

abbrev pub begins_comment : Bytes → Bool
begins_comment [] = false
begins_comment (b ∷ []) = false
begins_comment (b ∷ d ∷ bs) = nat_eq b 47 && nat_eq d 42

abbrev pub is_point : Bytes → Bool
is_point [] = false
is_point (b ∷ []) = nat_eq b 46
is_point (b ∷ d ∷ bs) = false

-- symbol characters, but not the point alone and no beginning of a comment
abbrev pub is_symbol_name : Bytes → Bool
is_symbol_name [] = false
is_symbol_name (b ∷ bs) = holds_of_all is_symbol (b ∷ bs) && not (is_point (b ∷ bs)) && not (begins_comment (b ∷ bs))

-- a byte between quotes
abbrev pub escaped : ℕ → Bytes
escaped b = cond (nat_eq b 92) (92 ∷ 92 ∷ [])
    (cond (nat_eq b 39) (92 ∷ 39 ∷ []) (cond (nat_eq b 10) (92 ∷ 110 ∷ []) (b ∷ [])))

abbrev pub all_escaped : Bytes → Bytes
all_escaped [] = []
all_escaped (b ∷ bs) = escaped b ++ all_escaped bs

abbrev pub is_brackets : Bytes → Bool
is_brackets [] = false
is_brackets (b ∷ []) = false
is_brackets (b ∷ d ∷ []) = nat_eq b 91 && nat_eq d 93
is_brackets (b ∷ d ∷ e ∷ bs) = false

-- A name as it is written: in quotes, unless it is plain, a symbol name or `[]`.
abbrev pub shown_name : Bytes → Bytes
shown_name bs = cond (is_plain_name bs || is_symbol_name bs || is_brackets bs) bs (39 ∷ all_escaped bs ++ 39 ∷ [])

abbrev pub point_name : ℕ
point_name = POINT

abbrev pub nil_name : ℕ
nil_name = NIL

-- a list cell: two arguments under the name `.`
abbrev pub is_cell : ℕ → Terms → Bool
is_cell c none = false
is_cell c (more h none) = false
is_cell c (more h (more t none)) = nat_eq c point_name
is_cell c (more h (more t (more u us))) = false

abbrev pub is_nil : ℕ → Terms → Bool
is_nil c none = nat_eq c nil_name
is_nil c (more t ts) = false

abbrev pub same_path : Path → Path → Bool
same_path [] [] = true
same_path [] (j ∷ r) = false
same_path (i ∷ q) [] = false
same_path (i ∷ q) (j ∷ r) = nat_eq i j && same_path q r

abbrev pub same_variable : Path × ℕ → Path × ℕ → Bool
same_variable v w = same_path v.0 w.0 && nat_eq v.1 w.1

abbrev pub has : Path × ℕ → List (Path × ℕ) → Bool
has v [] = false
has v (w ∷ ws) = same_variable v w || has v ws

-- the variables in the order of their first occurrences, after those that were seen before
abbrev pub first_seen : List (Path × ℕ) → List (Path × ℕ) → List (Path × ℕ)
first_seen seen [] = seen
first_seen seen (v ∷ vs) = first_seen (cond (has v seen) seen (seen ++ v ∷ [])) vs

-- the place of a variable in the list
abbrev pub place_of : Path × ℕ → List (Path × ℕ) → ℕ
place_of v [] = 0
place_of v (w ∷ ws) = cond (same_variable v w) 0 (suc (place_of v ws))

-- Terms as they are written, under a table of names, where the variables of the line are those of `vs`.
module _ (names : List Bytes) (vs : List (Path × ℕ)) where
  abbrev mutual
    pub shown : Term → Bytes
    shown (variable q k) = 95 ∷ decimal (place_of (q, k) vs)
    shown (number z) = signed_decimal z
    shown (compound c ts) = cond (is_cell c ts) (91 ∷ shown_elements ts ++ 93 ∷ [])
        (shown_name (get_or names c []) ++ shown_arguments ts)

    -- the arguments in round brackets
    pub shown_arguments : Terms → Bytes
    shown_arguments none = []
    shown_arguments (more t ts) = 40 ∷ shown t ++ shown_rest ts

    pub shown_rest : Terms → Bytes
    shown_rest none = 41 ∷ []
    shown_rest (more t ts) = 44 ∷ shown t ++ shown_rest ts

    -- the element of a list cell, and then its tail
    pub shown_elements : Terms → Bytes
    shown_elements none = []
    shown_elements (more h none) = []
    shown_elements (more h (more t ts)) = shown h ++ shown_tail t

    -- the rest of a list: more elements, nothing, or a bar and a tail that is no list
    pub shown_tail : Term → Bytes
    shown_tail (variable q k) = 124 ∷ 95 ∷ decimal (place_of (q, k) vs)
    shown_tail (number z) = 124 ∷ signed_decimal z
    shown_tail (compound c ts) =
        cond (is_cell c ts) (44 ∷ shown_elements ts)
        (cond (is_nil c ts) [] (124 ∷ shown_name (get_or names c []) ++ shown_arguments ts))

-- the names of the comparisons in the table
abbrev pub relation_name : Relation → ℕ
relation_name less = LESS
relation_name greater = GREATER
relation_name at_most = AT_MOST
relation_name at_least = AT_LEAST
relation_name same = SAME
relation_name differs = DIFFERS

-- an arithmetic goal as a term
abbrev pub goal_term : Arithmetic → Term
goal_term (is l r) = compound IS (more l (more r none))
goal_term (compare r a b) = compound (relation_name r) (more a (more b none))

abbrev pub begins_underscore : Bytes → Bool
begins_underscore [] = false
begins_underscore (b ∷ bs) = nat_eq b 95

-- The query's variables that are shown: their written names, and their numbers from k on.
abbrev pub shown_variables : ℕ → List Bytes → List (Bytes × ℕ)
shown_variables k [] = []
shown_variables k (n ∷ ns) =
    cond (begins_underscore n) (shown_variables (suc k) ns) ((n, k) ∷ shown_variables (suc k) ns)

-- the variables of a list of terms, from left to right
abbrev pub variables_along : List Term → List (Path × ℕ)
variables_along [] = []
variables_along (t ∷ ts) = variables_of t ++ variables_along ts

-- texts with `, ` between them
abbrev pub joined : List Bytes → Bytes
joined [] = []
joined (t ∷ []) = t
joined (t ∷ u ∷ us) = t ++ 44 ∷ 32 ∷ joined (u ∷ us)

abbrev pub shown_value : List Bytes → List (Path × ℕ) → Substitution → Bytes × ℕ → Bytes
shown_value names vs s v = v.0 ++ codes " = " ++ shown names vs (s [] v.1)

abbrev pub with_waiting : List Bytes → List (Path × ℕ) → List Term → Bytes
with_waiting names vs [] = []
with_waiting names vs (g ∷ gs) = codes " with " ++ joined (map (shown names vs) (g ∷ gs))

abbrev pub values_or_true : List Bytes → Bytes
values_or_true [] = codes "true"
values_or_true (t ∷ ts) = joined (t ∷ ts)

-- The line of the query's variables under a substitution and of goals that wait (as terms), variables without a value
-- named along the line.
abbrev pub line_of : Program → Substitution → List Term → Bytes
line_of P s goals =
    let shown_ones = shown_variables 0 P.query.written in
    let vs = first_seen [] (variables_along (map (λ (v : Bytes × ℕ). s [] v.1) shown_ones ++ goals)) in
    values_or_true (map (shown_value P.names vs s) shown_ones) ++ with_waiting P.names vs goals

-- The line of an answer: the query's variables, and the goals that wait, under a substitution.
abbrev pub line : Program → Substitution → List Arithmetic → Bytes
line P s waiting = line_of P s (map (λ g. apply s (goal_term g)) waiting)
