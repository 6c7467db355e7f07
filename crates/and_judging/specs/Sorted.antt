-- The clauses and the disjunctions into which a body falls.
use Rattle.std.specs.Prelude.{ℕ, zero, suc, ◌+◌, ◌*◌, List, [], ◌∷◌, ◌++◌, map, length, get_or, Option, Some, None}
use Rattle.and_model.specs.Terms.{Path, variables_of}
use Rattle.and_model.specs.Programs.{Item}
use Rattle.and_model.specs.Stands.{item_term}
use Rattle.and_model.specs.Lines.{first_seen}
use Rattle.and_source.specs.Source.{SourceItems, no_items, plain, either, Alternatives, no_alternatives, alternative}
use Rattle.and_source.specs.Source.{distinct_variables}
use Rattle.and_source.specs.Source.{disjunctions_in_items}
use Rattle.and_source.specs.Source.{disjunctions_in_alternatives}
use Rattle.and_syntax.specs.Tables.{count_of}
use Rattle.and_judging.specs.Marks.{Mark, item, open_mark, next, close}

-- A disjunction: its distinct variables by first occurrence, and how many alternatives it has.
pub record Local : Type 0 where
  pub variables : List (Path × ℕ)
  pub count : ℕ

-- An item of a clause that is to be made, or the call of the disjunction of that number.
pub data Piece : Type 0 where
  kept : Item → Piece
  called : ℕ → Piece

-- A clause that is to be made: the disjunction of which it is an alternative, if it is one, and its items.
pub record Outline : Type 0 where
  pub scope : Option ℕ
  pub pieces : List Piece

abbrev pub local_of : Alternatives → Local
local_of alts = record { variables = distinct_variables alts; count = count_of alts }

-- the disjunctions, an outer one before those inside it
abbrev pub locals_of : SourceItems → List Local
locals_of items = map (λ d. local_of d.1) (disjunctions_in_items items)

abbrev pub locals_in : Alternatives → List Local
locals_in alts = map (λ d. local_of d.1) (disjunctions_in_alternatives alts)

-- the items of a clause, before which n disjunctions begin
abbrev pub pieces_of : ℕ → SourceItems → List Piece
pieces_of n no_items = []
pieces_of n (plain i items) = kept i ∷ pieces_of n items
pieces_of n (either name alts items) = called n ∷ pieces_of (suc n + length (locals_in alts)) items

abbrev mutual
  -- the clauses of the alternatives, an outer one before those inside it
  pub outlines_of : ℕ → SourceItems → List Outline
  outlines_of n no_items = []
  outlines_of n (plain i items) = outlines_of n items
  outlines_of n (either name alts items) =
      outlines_in n (suc n) alts ++ outlines_of (suc n + length (locals_in alts)) items

  -- and those of the last alternatives of disjunction d
  pub outlines_in : (d n : ℕ) → Alternatives → List Outline
  outlines_in d n no_alternatives = []
  outlines_in d n (alternative c items alts) =
      record { scope = Some d; pieces = pieces_of n items }
      ∷ outlines_of n items ++ outlines_in d (n + length (locals_of items)) alts

-- the nodes of the calls and heads to which disjunctions are lifted
abbrev pub locals_size : List Local → ℕ
locals_size [] = 0
locals_size (l ∷ ls) = suc l.count * suc (length l.variables) + locals_size ls

-- the list with what f makes of the one at that place, if there is one
abbrev pub alter : {X : Type 0} → ℕ → (X → X) → List X → List X
alter n f [] = []
alter zero f (x ∷ xs) = f x ∷ xs
alter (suc n) f (x ∷ xs) = x ∷ alter n f xs

-- What was sorted so far; the outline and the disjunction to which the next item belongs; and where to go on when the
-- disjunction ends, the innermost first.
pub record Sorting : Type 0 where
  pub locals : List Local
  pub outlines : List Outline
  pub outline : ℕ
  pub scope : Option ℕ
  pub around : List (ℕ × Option ℕ)

abbrev pub begun : Sorting
begun = record {
  locals = [];
  outlines = record { scope = None; pieces = [] } ∷ [];
  outline = 0;
  scope = None;
  around = [];
}

-- a piece more
abbrev pub with_piece : Piece → Outline → Outline
with_piece p o = record o { pieces = o.pieces ++ p ∷ [] }

-- the variables that occur in a disjunction
abbrev pub with_variables : List (Path × ℕ) → Local → Local
with_variables vs l = record l { variables = first_seen l.variables vs }

-- an alternative more
abbrev pub with_alternative : Local → Local
with_alternative l = record l { count = l.count + 1 }

-- in the disjunction of that scope, if there is one
abbrev pub alter_in : Option ℕ → (Local → Local) → List Local → List Local
alter_in None f ls = ls
alter_in (Some n) f ls = alter n f ls

-- its variables
abbrev pub variables_in_scope : List Local → Option ℕ → List (Path × ℕ)
variables_in_scope ls None = []
variables_in_scope ls (Some n) = (get_or ls n (record { variables = []; count = 0 })).variables

-- the disjunction ends
abbrev pub ended : Sorting → List (ℕ × Option ℕ) → Sorting
ended s [] = s
ended s (p ∷ around) = record {
  locals = alter_in p.1 (with_variables (variables_in_scope s.locals s.scope)) s.locals;
  outlines = s.outlines;
  outline = p.0;
  scope = p.1;
  around = around;
}

-- with one mark more
abbrev pub step : Sorting → Mark → Sorting
step s (item i) = record s {
  locals = alter_in s.scope (with_variables (variables_of (item_term i))) s.locals;
  outlines = alter s.outline (with_piece (kept i)) s.outlines;
}
step s (open_mark d) = record {
  locals = s.locals ++ record { variables = []; count = 0 } ∷ [];
  outlines = alter s.outline (with_piece (called (length s.locals))) s.outlines;
  outline = s.outline;
  scope = Some (length s.locals);
  around = (s.outline, s.scope) ∷ s.around;
}
step s (next c) = record {
  locals = alter_in s.scope with_alternative s.locals;
  outlines = s.outlines ++ record { scope = s.scope; pieces = [] } ∷ [];
  outline = length s.outlines;
  scope = s.scope;
  around = s.around;
}
step s close = ended s s.around

abbrev pub steps : Sorting → List Mark → Sorting
steps s [] = s
steps s (m ∷ ms) = steps (step s m) ms
