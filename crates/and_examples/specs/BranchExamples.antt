-- What branches stand for after a split, and after arithmetic has run, tried on two small programs.
use Rattle.std.specs.Prelude.{ℕ, zero, suc, Bool, false, ◌++◌, List, [], ◌∷◌, codes}
use Rattle.and_model.specs.Terms.{Term}
use Rattle.and_model.specs.Programs.{Program, Arithmetic, call, arithmetic, is, builtin_names}
use Rattle.and_model.specs.Reductions.{Reduction}
use Rattle.and_model.specs.Stands.{Branch}
use Rattle.and_model.specs.declared.builtins.TheConstants.{PLUS}
use Rattle.and_model.specs.declared.goal.Goal.{Goal}
use Rattle.and_examples.specs.Texts.{own, whole, binary, p, fact, asks}

-- item number `item` of the query, whose frame is at base 0
abbrev pub item_of_query : ℕ → Goal
item_of_query item = record { node = 0; item = item; clause = record { 0 = 0 }; base = 0 }

-- ---- p(1). p(2). q(2). q(3). ?- p(X), q(X). The query's first call is taken by a clause, and X is read as a number.
abbrev pub taken_by : ℕ → Reduction
taken_by clause = record { parent = 0; item = 0; clause = clause; node = 2 }

abbrev pub split_by : (clause : ℕ) (goals : List Goal) (is_failed : Bool) → Branch
split_by clause goals is_failed = record {
  key = clause ∷ [];
  reductions = taken_by clause ∷ [];
  reading = λ base k. whole clause;
  goals = goals;
  waiting = [];
  used = 3;
  limit = 10;
  is_failed = is_failed;
}

-- ---- p(1). p(2). ?- Y is 1 + 2, p(X). The query weighs 5.
abbrev pub sum : Arithmetic
sum = is (own 0) (binary PLUS (whole 1) (whole 2))

abbrev pub sum_text : Program
sum_text = record {
  clauses = fact (p (whole 1)) ∷ fact (p (whole 2)) ∷ [];
  query = asks (arithmetic sum ∷ call (p (own 1)) ∷ []) (codes "Y" ∷ codes "X" ∷ []);
  names = builtin_names ++ codes "p" ∷ [];
}

abbrev pub at_root : (ℕ → ℕ → Term) → List Goal → Branch
at_root reading waiting = record {
  key = [];
  reductions = [];
  reading = reading;
  goals = item_of_query 1 ∷ [];
  waiting = waiting;
  used = 5;
  limit = 10;
  is_failed = false;
}

-- The sum has run: Y is 3, and X is the free cell 2.
abbrev pub with_sum : ℕ → ℕ → Term
with_sum base zero = whole 3
with_sum base (suc k) = own (suc (suc k))

-- It has not: Y is the free cell 1.
abbrev pub without_sum : ℕ → ℕ → Term
without_sum base k = own (suc k)
