-- Trials of the definitions.
use Rattle.std.specs.Prelude.{List, [], ◌∷◌, ◌++◌, length, codes, get_or}
use Rattle.and_model.specs.Terms.{Term, variable, compound, none, more, Substitution}
use Rattle.and_model.specs.Programs.{Program, builtin_names, own_name}
use Rattle.and_model.specs.Lines.{Bytes}
use Rattle.and_model.specs.declared.builtins.TheConstants.{NIL, POINT, TRUE}

-- A query with variables of these names and a table that goes on with the names `f`, `a`, `it's`, and values for the
-- variables.
abbrev pub asking : List Bytes → Program
asking written = record {
  clauses = [];
  query = record { head = compound TRUE none; body = []; variables = length written; written = written; line = 1 };
  names = builtin_names ++ codes "f" ∷ codes "a" ∷ codes "it's" ∷ [];
}

abbrev pub giving : List Term → Substitution
giving ts q k = get_or ts k (variable q k)

abbrev pub cell_of : Term → Term → Term
cell_of h t = compound POINT (more h (more t none))

abbrev pub nil : Term
nil = compound NIL none

abbrev pub f_of : Term → Term → Term
f_of t u = compound (own_name 0) (more t (more u none))
