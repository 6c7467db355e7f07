-- What a branch stands for, tried at the root of a small program: p(a,b). ?- X = a, p(X,Y).
use Rattle.std.proofs.Common.{zero}
use Rattle.std.specs.Prelude.{ℕ, suc, false, [], ◌∷◌}
use Rattle.and_model.specs.Terms.{Term, variable, compound, none, more}
use Rattle.and_model.specs.Programs.{Program, call, equal, own_name}
use Rattle.and_model.specs.Stands.{Branch}
use Rattle.and_model.specs.declared.builtins.TheConstants.{TRUE}

abbrev pub a : Term
a = compound (own_name 0) none

abbrev pub b : Term
b = compound (own_name 1) none

abbrev pub p : Term → Term → Term
p t u = compound (own_name 2) (more t (more u none))

abbrev pub v : ℕ → Term
v k = variable [] k

abbrev pub P : Program
P = record {
  clauses = record { head = p a b; body = []; variables = 0; written = []; line = 1 } ∷ [];
  query = record {
    head = compound TRUE none;
    body = equal (v 0) a ∷ call (p (v 0) (v 1)) ∷ [];
    variables = 2;
    written = [];
    line = 1;
  };
  names = [];
}

-- The frame of the query is at base 0: X is cell 1, which is bound to a, and Y is cell 2, which is free.
abbrev pub read : ℕ → ℕ → Term
read base zero = a
read base (suc k) = variable [] (suc (suc k))

-- the root branch, where the variables of frames are read so
abbrev pub root : (ℕ → ℕ → Term) → Branch
root reading = record {
  key = [];
  reductions = [];
  reading = reading;
  goals = record { node = 0; item = 1; clause = record { 0 = 0 }; base = 0 } ∷ [];
  waiting = [];
  used = 3;
  limit = 10;
  is_failed = false;
}

-- A branch in whose cells Y is bound to a, too, does not stand: that is no most general solution.
abbrev pub bound_too_much : ℕ → ℕ → Term
bound_too_much base k = a

-- Nor does one in whose cells X is free.
abbrev pub bound_too_little : ℕ → ℕ → Term
bound_too_little base k = variable [] (suc k)
