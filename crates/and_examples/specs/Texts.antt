-- The texts of some examples, as the programs that they are.
use Rattle.std.specs.Prelude.{ℕ, ◌-◌, ◌^◌, pos, negsuc, List, [], ◌∷◌, ◌++◌, length, codes}
use Rattle.and_model.specs.Terms.{Path, Term, variable, number, compound, none, more}
use Rattle.and_model.specs.Arithmetic.{less}
use Rattle.and_model.specs.Programs.{Program, Clause, Item, call, equal, arithmetic, Arithmetic, is, compare, own_name}
use Rattle.and_model.specs.Programs.{builtin_names}
use Rattle.and_model.specs.declared.builtins.TheConstants.{DIVIDE, MODULO, PLUS, TRUE}

-- the variable of a clause, or of the query, that has this number
abbrev pub own : ℕ → Term
own k = variable [] k

-- the same variable of the clause at a path
abbrev pub at : Path → ℕ → Term
at q k = variable q k

abbrev pub whole : ℕ → Term
whole n = number (pos n)

abbrev pub unary : ℕ → Term → Term
unary name t = compound name (more t none)

abbrev pub binary : ℕ → Term → Term → Term
binary name t u = compound name (more t (more u none))

abbrev pub fact : Term → Clause
fact t = record { head = t; body = []; variables = 0; written = []; line = 1 }

-- a query with these items, whose variables have these names
abbrev pub asks : List Item → List (List ℕ) → Clause
asks items names = record {
  head = compound TRUE none;
  body = items;
  variables = length names;
  written = names;
  line = 1;
}

-- a query alone
abbrev pub query_of : List Item → List (List ℕ) → Program
query_of items names = record { clauses = []; query = asks items names; names = builtin_names }

-- ---- append-cells: app(nil,L,L). app(c(H,T),L,c(H,R)) :- app(T,L,R). ?- app(X,Y,c(1,nil)).
abbrev pub app : Term → Term → Term → Term
app a b c = compound (own_name 0) (more a (more b (more c none)))

abbrev pub nil : Term
nil = compound (own_name 1) none

abbrev pub cell : Term → Term → Term
cell h t = binary (own_name 2) h t

abbrev pub append_text : Program
append_text = record {
  clauses = record { head = app nil (own 0) (own 0); body = []; variables = 1; written = codes "L" ∷ []; line = 1 }
      ∷ record {
        head = app (cell (own 0) (own 1)) (own 2) (cell (own 0) (own 3));
        body = call (app (own 1) (own 2) (own 3)) ∷ [];
        variables = 4;
        written = codes "H" ∷ codes "T" ∷ codes "L" ∷ codes "R" ∷ [];
        line = 1;
      } ∷ [];
  query = asks (call (app (own 0) (own 1) (cell (whole 1) nil)) ∷ []) (codes "X" ∷ codes "Y" ∷ []);
  names = builtin_names ++ codes "app" ∷ codes "nil" ∷ codes "c" ∷ [];
}

-- ---- two-forks: p(1). p(2). q(3). q(4). ?- p(X), q(Y).
abbrev pub p : Term → Term
p t = unary (own_name 0) t

abbrev pub q : Term → Term
q t = unary (own_name 1) t

abbrev pub forks_text : Program
forks_text = record {
  clauses = fact (p (whole 1)) ∷ fact (p (whole 2)) ∷ fact (q (whole 3)) ∷ fact (q (whole 4)) ∷ [];
  query = asks (call (p (own 0)) ∷ call (q (own 1)) ∷ []) (codes "X" ∷ codes "Y" ∷ []);
  names = builtin_names ++ codes "p" ∷ codes "q" ∷ [];
}

-- ---- floundered: ?- X is X + 0.
abbrev pub x_is_x : Arithmetic
x_is_x = is (own 0) (binary PLUS (own 0) (whole 0))

abbrev pub floundered_text : Program
floundered_text = query_of (arithmetic x_is_x ∷ []) (codes "X" ∷ [])

-- ---- late-comparison: ?- X < 3, X = 2.
abbrev pub x_below_3 : Arithmetic
x_below_3 = compare less (own 0) (whole 3)

abbrev pub late_text : Program
late_text = query_of (arithmetic x_below_3 ∷ equal (own 0) (whole 2) ∷ []) (codes "X" ∷ [])

-- ---- ?- X = 3, X < 3.
abbrev pub not_below : Program
not_below = query_of (equal (own 0) (whole 3) ∷ arithmetic x_below_3 ∷ []) (codes "X" ∷ [])

-- ---- occurs-check: ?- X = f(X).
abbrev pub circle : Program
circle = record {
  clauses = [];
  query = asks (equal (own 0) (unary (own_name 0) (own 0)) ∷ []) (codes "X" ∷ []);
  names = builtin_names ++ codes "f" ∷ [];
}

-- ---- equal-answers: p(a). p(a). ?- p(X).
abbrev pub equal_text : Program
equal_text = record {
  clauses = fact (p (compound (own_name 1) none)) ∷ fact (p (compound (own_name 1) none)) ∷ [];
  query = asks (call (p (own 0)) ∷ []) (codes "X" ∷ []);
  names = builtin_names ++ codes "p" ∷ codes "a" ∷ [];
}

-- ---- overflow: ?- X is 9223372036854775807 + 1.
abbrev pub x_is_too_much : Arithmetic
x_is_too_much = is (own 0) (binary PLUS (whole (2 ^ 63 - 1)) (whole 1))

abbrev pub too_much : Program
too_much = query_of (arithmetic x_is_too_much ∷ []) (codes "X" ∷ [])

-- ---- and: ?- X is -7 // 2, Y is -7 mod 2.
abbrev pub x_is_quotient : Arithmetic
x_is_quotient = is (own 0) (binary DIVIDE (number (negsuc 6)) (whole 2))

abbrev pub y_is_modulus : Arithmetic
y_is_modulus = is (own 1) (binary MODULO (number (negsuc 6)) (whole 2))

abbrev pub quotients : Program
quotients = query_of (arithmetic x_is_quotient ∷ arithmetic y_is_modulus ∷ []) (codes "X" ∷ codes "Y" ∷ [])

-- ---- nat-cut: nat(z). nat(s(N)) :- nat(N). ?- nat(X).
abbrev pub nat : Term → Term
nat t = unary (own_name 0) t

abbrev pub zed : Term
zed = compound (own_name 1) none

abbrev pub successor : Term → Term
successor t = unary (own_name 2) t

abbrev pub naturals : Program
naturals = record {
  clauses = fact (nat zed) ∷ record {
    head = nat (successor (own 0));
    body = call (nat (own 0)) ∷ [];
    variables = 1;
    written = codes "N" ∷ [];
    line = 1;
  } ∷ [];
  query = asks (call (nat (own 0)) ∷ []) (codes "X" ∷ []);
  names = builtin_names ++ codes "nat" ∷ codes "z" ∷ codes "s" ∷ [];
}

-- ---- endless-loop: loop(X) :- loop(X). ?- loop(a).
abbrev pub loop : Term → Term
loop t = unary (own_name 0) t

abbrev pub endless_text : Program
endless_text = record {
  clauses = record {
    head = loop (own 0);
    body = call (loop (own 0)) ∷ [];
    variables = 1;
    written = codes "X" ∷ [];
    line = 1;
  } ∷ [];
  query = asks (call (loop (compound (own_name 1) none)) ∷ []) [];
  names = builtin_names ++ codes "loop" ∷ codes "a" ∷ [];
}

-- ---- lightest-query: ?- true. and ?- X = 1.
abbrev pub lightest : Program
lightest = query_of [] []

abbrev pub next_lightest : Program
next_lightest = query_of (equal (own 0) (whole 1) ∷ []) (codes "X" ∷ [])
