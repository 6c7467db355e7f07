-- Trials of the numbers of forks and failures. Expected values are worked out by hand.
use Rattle.std.specs.Prelude.{ℕ, ◌++◌, [], ◌∷◌, pos, codes}
use Rattle.and_model.specs.Terms.{Term, variable, number, compound, none, more}
use Rattle.and_model.specs.Programs.{Program, call, builtin_names, own_name}
use Rattle.and_model.specs.Trees.{QueryTree, query_agenda, blank}
use Rattle.and_model.specs.declared.builtins.TheConstants.{NIL, POINT}
use Rattle.and_examples.specs.ReachedExamples.{p, q, x, y, one, two, fact, asks}

-- ---- one-fails: p(1). p(2). q(2). q(3). ?- p(X), q(X). One fork, and its first split fails.
abbrev pub fails : Program
fails = record {
  clauses = fact (p one) ∷ fact (p two) ∷ fact (q two) ∷ fact (q (number (pos 3))) ∷ [];
  query = asks (call (p x) ∷ call (q x) ∷ []) (codes "X" ∷ []);
  names = builtin_names ++ codes "p" ∷ codes "q" ∷ [];
}

abbrev pub fails_start : QueryTree fails
fails_start = blank (query_agenda fails)

-- ---- append-splits: app([],L,L). app([H|T],L,[H|R]) :- app(T,L,R). ?- app(X,Y,[1,2]). Two forks, and nothing fails.
abbrev pub nil : Term
nil = compound NIL none

abbrev pub cell : Term → Term → Term
cell h t = compound POINT (more h (more t none))

abbrev pub app : Term → Term → Term → Term
app a b c = compound (own_name 0) (more a (more b (more c none)))

abbrev pub own : ℕ → Term
own k = variable [] k

abbrev pub splits : Program
splits = record {
  clauses = record { head = app nil (own 0) (own 0); body = []; variables = 1; written = codes "L" ∷ []; line = 1 }
      ∷ record {
        head = app (cell (own 0) (own 1)) (own 2) (cell (own 0) (own 3));
        body = call (app (own 1) (own 2) (own 3)) ∷ [];
        variables = 4;
        written =
            codes "H" ∷ codes "T" ∷ codes "L" ∷ codes "R" ∷ [];
        line = 1;
      } ∷ [];
  query = asks (call (app x y (cell one (cell two nil))) ∷ []) (codes "X" ∷ codes "Y" ∷ []);
  names = builtin_names ++ codes "app" ∷ [];
}

abbrev pub splits_0 : QueryTree splits
splits_0 = blank (query_agenda splits)
