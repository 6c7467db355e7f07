-- What clauses call, and calls of predicates without a clause.
use Rattle.std.specs.Prelude.{ℕ, List, [], ◌∷◌, ◌++◌, map, cond, get_or, Option, None, Some}
use Rattle.std.specs.List.{list_any}
use Rattle.and_model.specs.Lines.{Bytes}
use Rattle.and_model.specs.Terms.{Term}
use Rattle.and_model.specs.Programs.{Clause}
use Rattle.and_source.specs.Source.{SourceClause, calls_in_items}
use Rattle.and_syntax.specs.Clauses.{name_of, arity_of}
use Rattle.and_syntax.specs.Tables.{Unknown}
use Rattle.and_program.specs.Predicates.{predicate_in, is_key_of}
use Rattle.and_program.specs.declared.item.ItemNode.TheVariants.{Call, Equal, Is, Compare, Fail}
use Rattle.and_model.specs.declared.numbers.NodeNo.{NodeNo}
use Rattle.and_judging.specs.declared.body.BodyToken.{BodyToken}
use Rattle.and_judging.specs.declared.body.BodyToken.TheVariants.{Item, Open, Next, Close}
use Rattle.and_judging.specs.declared.data.Called.{Called}

-- what a goal calls, on that line
abbrev pub call_at : ℕ → Term → Called
call_at line g = record { predicate = record { name = record { 0 = name_of g }; arity = arity_of g }; line = line }

abbrev pub calls_of : List SourceClause → List Called
calls_of [] = []
calls_of (k ∷ ks) = map (call_at k.line) (calls_in_items k.body) ++ calls_of ks

-- what is said of a call under a table of names
abbrev pub unknown_at : List Bytes → Called → Unknown
unknown_at names call =
    record { name = get_or names call.predicate.name.0 []; arity = call.predicate.arity; line = call.line }

-- the first call that is of no clause's predicate
abbrev pub first_called : List Clause → List Called → Option Called
first_called cs [] = None
first_called cs (k ∷ ks) =
    cond (list_any (λ c. is_key_of (predicate_in c.head) k.predicate) cs) (first_called cs ks) (Some k)

-- what a token calls
abbrev pub goal_in : BodyToken → Option NodeNo
goal_in (Item (Call g)) = Some g
goal_in (Item (Equal l r)) = None
goal_in (Item (Is l r pair)) = None
goal_in (Item (Compare m l r)) = None
goal_in (Item Fail) = None
goal_in (Open d) = None
goal_in (Next c) = None
goal_in Close = None
