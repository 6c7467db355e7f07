-- Trials of the definitions.
use Rattle.std.proofs.Common.{◌≡◌, [], ◌∷◌, ◌++◌, refl, pos, negsuc}
use Rattle.std.specs.Prelude.{codes, get_or}
use Rattle.std.specs.Fmt.{digits}
use Rattle.and_model.specs.Terms.{variable, number, compound, none, more}
use Rattle.and_model.specs.Arithmetic.{less}
use Rattle.and_model.specs.Programs.{is, compare, builtin_names, own_name}
use Rattle.and_model.specs.Lines.{shown_name, line}
use Rattle.and_model.specs.Output.{last_lines, limit_met}
use Rattle.and_model.specs.declared.builtins.TheConstants.{DIFFERS, MINUS, PLUS, POINT}
use Rattle.and_examples.specs.LineExamples.{asking, giving, cell_of, nil, f_of}

pub own_names : get_or (builtin_names ++ codes "p" ∷ codes "q" ∷ []) (own_name 1) [] ≡ codes "q"
own_names = refl

pub name_differs : get_or builtin_names DIFFERS [] ≡ codes "=\\="
name_differs = refl

pub ends : last_lines limit_met ≡ 37 ∷ 32 ∷ 108 ∷ 105 ∷ 109 ∷ 105 ∷ 116 ∷ 32 ∷ 109 ∷ 101 ∷ 116 ∷ 10 ∷ []
ends = refl

-- X = f(A,B), Y = B: names go along the line
pub named_along : line (asking (codes "X" ∷ codes "A" ∷ codes "B" ∷ codes "Y" ∷ []))
    (giving (f_of (variable [] 1) (variable [] 2) ∷ variable [] 1 ∷ variable [] 2 ∷ variable [] 2 ∷ [])) []
    ≡ codes "X = f(_0,_1), A = _0, B = _1, Y = _1"
unfolding digits
named_along = refl

-- X = [1,2|T]
pub open_list : line (asking (codes "X" ∷ codes "T" ∷ []))
    (giving (cell_of (number (pos 1)) (cell_of (number (pos 2)) (variable [] 1)) ∷ variable [] 1 ∷ [])) []
    ≡ codes "X = [1,2|_0], T = _0"
unfolding digits
open_list = refl

-- X = [[],[a]], and a dot of three arguments
pub lists_within : line (asking (codes "X" ∷ codes "Y" ∷ []))
    (giving (cell_of nil (cell_of (cell_of (compound (own_name 1) none) nil) nil) ∷ compound POINT (more nil (more nil (more nil none))) ∷ [])) []
    ≡ codes "X = [[],[a]], Y = '.'([],[],[])"
lists_within = refl

-- tails that are no lists: a number, a compound
pub other_tails : line (asking (codes "X" ∷ codes "Y" ∷ []))
    (giving (cell_of (number (pos 1)) (number (negsuc 2)) ∷ cell_of (compound (own_name 1) none) (compound (own_name 2) (more nil none)) ∷ [])) []
    ≡ codes "X = [1|-3], Y = [a|'it\\'s'([])]"
unfolding digits
other_tails = refl

-- -(1), -1 and 1 - -1
pub minuses : line (asking (codes "X" ∷ codes "Y" ∷ codes "Z" ∷ []))
    (giving (compound MINUS (more (number (pos 1)) none) ∷ number (negsuc 0) ∷ compound MINUS (more (number (pos 1)) (more (number (negsuc 0)) none)) ∷ [])) []
    ≡ codes "X = -(1), Y = -1, Z = -(1,-1)"
unfolding digits
minuses = refl

-- variables whose names begin with `_` are not shown, and their numbers are not given to others
pub hidden : line (asking (codes "_" ∷ codes "X" ∷ codes "_Y" ∷ codes "Z" ∷ [])) (giving []) [] ≡ codes "X = _0, Z = _1"
unfolding digits
hidden = refl

pub no_variable : line (asking []) (giving []) [] ≡ codes "true"
no_variable = refl

pub none_shown : line (asking (codes "_X" ∷ [])) (giving []) [] ≡ codes "true"
none_shown = refl

-- X is X + 0
pub floundered : line (asking (codes "X" ∷ [])) (giving []) (is (variable [] 0) (compound PLUS (more (variable [] 0) (more (number (pos 0)) none))) ∷ [])
    ≡ codes "X = _0 with is(_0,+(_0,0))"
unfolding digits
floundered = refl

-- _X < 3
pub floundered_hidden : line (asking (codes "_X" ∷ [])) (giving []) (compare less (variable [] 0) (number (pos 3)) ∷ []) ≡ codes "true with <(_0,3)"
unfolding digits
floundered_hidden = refl

-- the naming goes on through the goals that wait
pub floundered_twice : line (asking (codes "X" ∷ codes "Y" ∷ [])) (giving [])
    (compare less (variable [] 1) (variable [] 2) ∷ compare less (variable [] 2) (variable [] 0) ∷ [])
    ≡ codes "X = _0, Y = _1 with <(_1,_2), <(_2,_0)"
unfolding digits
floundered_twice = refl

pub plain : shown_name (codes "aB_9") ≡ codes "aB_9"
plain = refl

pub quote : shown_name (codes "it's") ≡ codes "'it\\'s'"
quote = refl

pub brackets : shown_name (codes "[]") ≡ codes "[]"
brackets = refl

pub capital : shown_name (codes "A b") ≡ codes "'A b'"
capital = refl

pub plus : shown_name (codes "+") ≡ codes "+"
plus = refl

pub point : shown_name (codes ".") ≡ codes "'.'"
point = refl

pub points : shown_name (codes "..") ≡ codes ".."
points = refl

pub comment : shown_name (codes "/*") ≡ codes "'/*'"
comment = refl

pub comment_later : shown_name (codes "+/*") ≡ codes "+/*"
comment_later = refl

pub empty : shown_name [] ≡ codes "''"
empty = refl

pub comma : shown_name (codes ",") ≡ codes "','"
comma = refl

-- a backslash and a newline
pub escapes : shown_name (97 ∷ 92 ∷ 10 ∷ []) ≡ codes "'a\\\\\\n'"
escapes = refl
