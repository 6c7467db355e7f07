-- Small programs. Expected values are worked out by hand.
use Rattle.std.specs.Prelude.{[], ◌∷◌, ◌++◌, codes, pos}
use Rattle.and_model.specs.Terms.{Term, variable, number, compound, none, more}
use Rattle.and_model.specs.Programs.{Program, call, equal, arithmetic, is, builtin_names, own_name}
use Rattle.and_model.specs.declared.builtins.TheConstants.{TRUE, POINT, NIL}

-- the first names of its own, which follow those that every program has
abbrev pub p : Term
p = compound (own_name 0) none

abbrev pub p_of : Term → Term
p_of t = compound (own_name 0) (more t none)

abbrev pub f_of : Term → Term
f_of t = compound (own_name 1) (more t none)

-- ---- p(f(X)). ?- p(X).
abbrev pub renames : Program
renames = record {
  clauses = record {
    head = p_of (f_of (variable [] 0));
    body = [];
    variables = 1;
    written = codes "X" ∷ [];
    line = 1;
  }
      ∷ [];
  query = record {
    head = compound TRUE none;
    body = call (p_of (variable [] 0)) ∷ [];
    variables = 1;
    written = codes "X" ∷ [];
    line = 1;
  };
  names = builtin_names ++ codes "p" ∷ codes "f" ∷ [];
}

-- ---- p. ?- X = p, X. (No text reads as this: a variable is no goal.)
abbrev pub calls_variable : Program
calls_variable = record {
  clauses = record { head = p; body = []; variables = 0; written = []; line = 1 } ∷ [];
  query = record {
    head = compound TRUE none;
    body = equal (variable [] 0) p ∷ call (variable [] 0) ∷ [];
    variables = 1;
    written = codes "X" ∷ [];
    line = 1;
  };
  names = builtin_names ++ codes "p" ∷ [];
}

-- ---- p(X, Y). (Its variables have one number and two paths: they are not the clause's own. No text reads as this.)
abbrev pub merges : Program
merges = record {
  clauses = record {
    head = compound (own_name 0) (more (variable (0 ∷ []) 0) (more (variable (1 ∷ []) 0) none));
    body = [];
    variables = 2;
    written = [];
    line = 1;
  }
      ∷ [];
  query = record { head = compound TRUE none; body = []; variables = 0; written = []; line = 1 };
  names = builtin_names ++ codes "p" ∷ [];
}

-- ---- ?- X is Y, Y = 2.
abbrev pub late : Program
late = record {
  clauses = [];
  query = record {
    head = compound TRUE none;
    body = arithmetic (is (variable [] 0) (variable [] 1)) ∷ equal (variable [] 1) (number (pos 2)) ∷ [];
    variables = 2;
    written = codes "X" ∷ codes "Y" ∷ [];
    line = 1;
  };
  names = builtin_names;
}

-- ---- ?- X is Y.
abbrev pub waits : Program
waits = record {
  clauses = [];
  query = record {
    head = compound TRUE none;
    body = arithmetic (is (variable [] 0) (variable [] 1)) ∷ [];
    variables = 2;
    written = codes "X" ∷ codes "Y" ∷ [];
    line = 1;
  };
  names = builtin_names;
}

-- ---- app([], L, L). app([H|T], L, [H|R]) :- app(T, L, R). ?- app(X, Y, [1]).
abbrev pub nil : Term
nil = compound NIL none

abbrev pub cell : Term → Term → Term
cell h t = compound POINT (more h (more t none))

abbrev pub app : Term → Term → Term → Term
app a b c = compound (own_name 0) (more a (more b (more c none)))

abbrev pub append : Program
append = record {
  clauses = record {
    head = app nil (variable [] 0) (variable [] 0);
    body = [];
    variables = 1;
    written = codes "L" ∷ [];
    line = 1;
  }
      ∷ record {
        head = app (cell (variable [] 0) (variable [] 1)) (variable [] 2) (cell (variable [] 0) (variable [] 3));
        body = call (app (variable [] 1) (variable [] 2) (variable [] 3)) ∷ [];
        variables = 4;
        written = codes "H" ∷ codes "T" ∷ codes "L" ∷ codes "R" ∷ [];
        line = 2;
      }
      ∷ [];
  query = record {
    head = compound TRUE none;
    body = call (app (variable [] 0) (variable [] 1) (cell (number (pos 1)) nil)) ∷ [];
    variables = 2;
    written = codes "X" ∷ codes "Y" ∷ [];
    line = 3;
  };
  names = builtin_names ++ codes "app" ∷ [];
}
