-- Modes, tried on two small programs.
use Rattle.std.specs.Prelude.{ℕ, cond, List, [], ◌∷◌, pos, nat_eq}
use Rattle.and_model.specs.Terms.{Term, variable, number, compound, none, more}
use Rattle.and_model.specs.Arithmetic.{less}
use Rattle.and_model.specs.Programs.{Program, Clause, Item, call, arithmetic, is, compare, own_name}
use Rattle.and_model.specs.declared.builtins.TheConstants.{PLUS, TRUE}
use Rattle.and_modes.specs.Modes.{Assignment, Environment, Wait}
use Rattle.and_modes.specs.declared.level.Level.{Level}
use Rattle.and_modes.specs.declared.level.Level.TheVariants.{Any, Ground, Integer}
use Rattle.and_modes.specs.declared.level.Side.TheVariants.{Called, Succeeded}

abbrev pub v : ℕ → Term
v k = variable [] k

abbrev pub one : Term
one = number (pos 1)

-- the first name after those that every program has
abbrev pub inc : Term → Term → Term
inc a b = compound (own_name 0) (more a (more b none))

abbrev pub next : Term → Term
next a = compound PLUS (more a (more one none))

-- inc(X,Y) :- Y is X+1.
abbrev pub increment : Clause
increment = record {
  head = inc (v 0) (v 1);
  body = arithmetic (is (v 1) (next (v 0))) ∷ [];
  variables = 2;
  written = [];
  line = 1;
}

abbrev pub asked : List Item → Clause
asked items = record { head = compound TRUE none; body = items; variables = 2; written = []; line = 1 }

-- ?- inc(1,Z), W is Z+1.
abbrev pub safe : Program
safe = record {
  clauses = increment ∷ [];
  query = asked (call (inc one (v 0)) ∷ arithmetic (is (v 1) (next (v 0))) ∷ []);
  names = [];
}

-- The first argument is an integer, always. The second is one when the call has succeeded.
abbrev pub given_first : Assignment
given_first name count place side = elim side [ Called ↦ cond (nat_eq place 0) Integer Any | Succeeded ↦ Integer ]

-- The lowest assignment is well-moded, whatever the program.
abbrev pub lowest : Assignment
lowest name count place side = Any

-- ?- inc(A,Z).
abbrev pub waiting : Program
waiting = record { clauses = increment ∷ []; query = asked (call (inc (v 0) (v 1)) ∷ []); names = [] }

-- A higher one than the lowest, in which the first argument is ground, is not well-moded.
abbrev pub ground_first : Assignment
ground_first name count place side = cond (nat_eq place 0) Ground Any

-- X waits in the body, and nothing else does.
abbrev pub x_in_body : Wait
x_in_body = record { clause = 1; item = 0; variable = 0 }

-- On one line the query's waits are last: of `?- Y is X, p(W). p(Z) :- Z < 1.` that of Z is the earlier.
abbrev pub one_line : Program
one_line = record {
  clauses = record {
    head = compound (own_name 0) (more (v 0) none);
    body = arithmetic (compare less (v 0) one) ∷ [];
    variables = 1;
    written = [];
    line = 1;
  } ∷ [];
  query = asked (arithmetic (is (v 0) (v 1)) ∷ call (compound (own_name 0) (more (v 2) none)) ∷ []);
  names = [];
}

-- The variable 0 has this level, and no other variable is known.
abbrev pub first_has : Level → Environment
first_has l k = cond (nat_eq k 0) l Any

-- a structure
abbrev pub pair : Term → Term → Term
pair a b = compound (own_name 1) (more a (more b none))
