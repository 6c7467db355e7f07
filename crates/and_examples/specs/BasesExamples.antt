-- What a branch stands for after a reduction whose frame does not begin at the number of its place:
-- p(X) :- q(X), X < 3. q(1). q(2). ?- p(Y).
use Rattle.std.proofs.Common.{inl}
use Rattle.std.specs.Prelude.{ℕ, false, cond, nat_eq, List, [], ◌∷◌, refl, pos}
use Rattle.and_model.specs.Terms.{Term, variable, number, compound, none, more}
use Rattle.and_model.specs.Arithmetic.{less}
use Rattle.and_model.specs.Programs.{Program, Clause, call, arithmetic, compare, own_name}
use Rattle.and_model.specs.Trees.{QueryTree, query_agenda, blank, reduce}
use Rattle.and_model.specs.Reductions.{Reduction}
use Rattle.and_model.specs.Stands.{Branch}
use Rattle.and_model.specs.declared.goal.Goal.{Goal}
use Rattle.and_model.specs.declared.builtins.TheConstants.{TRUE}

abbrev pub v : ℕ → Term
v k = variable [] k

abbrev pub p : Term → Term
p t = compound (own_name 0) (more t none)

abbrev pub q : Term → Term
q t = compound (own_name 1) (more t none)

abbrev pub three : Term
three = number (pos 3)

abbrev pub fact : Term → Clause
fact head = record { head = head; body = []; variables = 0; written = []; line = 1 }

abbrev pub P : Program
P = record {
  clauses = record {
    head = p (v 0);
    body = call (q (v 0)) ∷ arithmetic (compare less (v 0) three) ∷ [];
    variables = 1;
    written = [];
    line = 1;
  }
      ∷ fact (q (number (pos 1))) ∷ fact (q (number (pos 2))) ∷ [];
  query = record { head = compound TRUE none; body = call (p (v 0)) ∷ []; variables = 1; written = []; line = 1 };
  names = [];
}

-- the query's call is taken by clause 1
abbrev pub tree : QueryTree P
tree = reduce (blank (query_agenda P)) (inl tt) 1 refl

abbrev pub by_first : Reduction
by_first = record { parent = 0; item = 0; clause = 1; node = 2 }

-- The frame of clause 1 begins at cell 9, not at 2. Its variable is bound to the query's, which is cell 1.
abbrev pub read : ℕ → ℕ → Term
read base k = v 1

abbrev pub item_at_nine : ℕ → Goal
item_at_nine item = record { node = 2; item = item; clause = record { 0 = 1 }; base = 9 }

abbrev pub reduced : List Goal → Branch
reduced goals = record {
  key = [];
  reductions = by_first ∷ [];
  reading = read;
  goals = goals;
  waiting = item_at_nine 1 ∷ [];
  used = 4;
  limit = 10;
  is_failed = false;
}

-- At the place of clause 1, which is 2, there is something else; its frame is at 9.
abbrev pub read_apart : ℕ → ℕ → Term
read_apart base k = cond (nat_eq base 2) three (v 1)

abbrev pub read_at_base : Branch
read_at_base = record (reduced (item_at_nine 0 ∷ [])) { reading = read_apart }
