-- Covering forks, tried on p(1). p(2). ?- p(X).
use Rattle.std.specs.Prelude.{ℕ, [], ◌∷◌, pos}
use Rattle.and_model.specs.Terms.{Term, variable, number, compound, none, more}
use Rattle.and_model.specs.Programs.{Program, Clause, call, own_name}
use Rattle.and_model.specs.declared.builtins.TheConstants.{TRUE}

abbrev pub p : Term → Term
p t = compound (own_name 0) (more t none)

abbrev pub fact : ℕ → Clause
fact n = record { head = p (number (pos n)); body = []; variables = 0; written = []; line = 1 }

abbrev pub P : Program
P = record {
  clauses = fact 1 ∷ fact 2 ∷ [];
  query = record {
    head = compound TRUE none;
    body = call (p (variable [] 0)) ∷ [];
    variables = 1;
    written = [];
    line = 1;
  };
  names = [];
}

-- ---- p(1). p(2). ?- p(1). The query weighs 1.
abbrev pub one_asked : Program
one_asked = record {
  clauses = fact 1 ∷ fact 2 ∷ [];
  query = record {
    head = compound TRUE none;
    body = call (p (number (pos 1))) ∷ [];
    variables = 0;
    written = [];
    line = 1;
  };
  names = [];
}
