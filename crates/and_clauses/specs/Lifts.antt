-- What clauses are lifted by.
use Rattle.std.specs.Prelude.{ℕ, ◌+◌, ◌^◌, ◌≡◌, ◌<◌, ◌≤◌, true, List, [], ◌∷◌, map, length, Option, Some}
use Rattle.std.specs.Prelude.{None}
use Rattle.std.specs.Prelude.{All}
use Rattle.and_model.specs.Lines.{Bytes}
use Rattle.and_model.specs.Terms
use Rattle.and_model.specs.Terms.{Term}
use Rattle.and_model.specs.Programs.{Clause}
use Rattle.and_model.specs.OwnVariables.{HasOwnVariables}
use Rattle.and_model.specs.declared.numbers.NameNo.{NameNo}
use Rattle.and_model.specs.declared.limits.TheConstants.{MAX_NODES, MAX_VARIABLES}
use Rattle.and_model.specs.declared.builtins.TheConstants.{TRUE}
use Rattle.and_source.specs.Source.{SourceItems, SourceClause, HasOwnSourceVariables}
use Rattle.and_syntax.specs.Written.{has}
use Rattle.and_program.specs.Skeletons.{Shape, node_term, AllFall}
use Rattle.and_program.specs.Kept.{AllWithin, AllEntries}
use Rattle.and_program.specs.Nodes.{names_of, entry_clause}
use Rattle.and_program.specs.declared.entry.ClauseEntry.{ClauseEntry}
use Rattle.and_drafts.specs.Parts
use Rattle.and_drafts.specs.Parts.{PartShape, part_shapes, PartsFall, AllNarrow}
use Rattle.and_drafts.specs.Numbered.{met_by}
use Rattle.and_judging.specs.Sorted as sorted
use Rattle.and_judging.specs.Sorts.{shapes_under, ItemThere, AreNarrow, AreOutlinesThere, locals_in, outlines_in}
use Rattle.and_judging.specs.Outlined.{Named, named_in, size_of}
use Rattle.and_clauses.specs.Copies.{named_by}
use Rattle.and_clauses.specs.declared.lifting.Lifting.{Lifting}
use Rattle.and_judging.specs.declared.sorting.Piece.{Piece}
use Rattle.and_judging.specs.declared.sorting.Piece.TheVariants as pieces
use Rattle.and_judging.specs.declared.sorting.Outline.{Outline}

-- each name of a part is one of these
abbrev pub IsNamed : List Bytes → PartShape → Type 0
IsNamed names (Parts.variable x) = Unit {0}
IsNamed names (Parts.integer z) = Unit {0}
IsNamed names (Parts.compound c ns) = has c names ≡ true

abbrev pub AllNamed : List Bytes → List PartShape → Type 0
AllNamed names [] = Unit {0}
AllNamed names (p ∷ ps) = IsNamed names p × AllNamed names ps

-- the names under which clauses are lifted, the parts as nodes, and the disjunctions with the numbers of their names
abbrev pub names_under : Lifting → List Bytes
names_under l = names_of l.names.now.keys

abbrev pub nodes_under : Lifting → List Shape
nodes_under l = shapes_under (names_under l) l.parts.now

abbrev pub named_under : Lifting → List Named
named_under l = named_by l.disjunctions.now l.numbers.now

-- What clauses are lifted by: the names of parts and disjunctions are there, and these have few variables.
pub record IsLifting (l : Lifting) : Type 0 where
  pub falls : PartsFall 0 (part_shapes l.parts.now)
  pub narrow : AllNarrow (part_shapes l.parts.now)
  pub all_named : AllNamed (names_under l) (part_shapes l.parts.now)
  pub few_names : length (names_under l) < 2 ^ 32
  pub numbered : length l.numbers.now ≡ length l.disjunctions.now
  pub within : All (λ (n : NameNo). n.0 < length (names_under l)) l.numbers.now
  pub few : AreNarrow MAX_VARIABLES (locals_in l.disjunctions.now)

-- Nodes each of which names what is there, with names of m, and behind which n more have room.
pub record HaveRoom (m : ℕ) (us : List Shape) (n : ℕ) : Type 0 where
  pub falls : AllFall 0 us
  pub within : AllWithin m us
  pub room : length us + n ≤ MAX_NODES + 1

-- the parts of a piece are some of n, or its disjunction is one of m
abbrev pub IsPieceThere : (n m : ℕ) → Piece → Type 0
IsPieceThere n m (pieces.Item i) = ItemThere n i
IsPieceThere n m (pieces.Disjunction d) = d < m

abbrev pub ArePiecesThere : (n m : ℕ) → List Piece → Type 0
ArePiecesThere n m [] = Unit {0}
ArePiecesThere n m (p ∷ ps) = IsPieceThere n m p × ArePiecesThere n m ps

-- an alternative of one of m disjunctions
abbrev pub IsScope : ℕ → Option ℕ → Type 0
IsScope m None = ⊥
IsScope m (Some d) = d < m

abbrev pub AreAlternatives : (n m : ℕ) → List Outline → Type 0
AreAlternatives n m [] = Unit {0}
AreAlternatives n m (o ∷ os) = (IsScope m o.scope × ArePiecesThere n m o.pieces.items) × AreAlternatives n m os

-- each clause names its own variables alone
abbrev pub HaveOwn : List Clause → Type 0
HaveOwn [] = Unit {0}
HaveOwn (c ∷ cs) = HasOwnVariables c × HaveOwn cs

-- the entries are these clauses
pub record AreLifted (ss : List Shape) (es : List ClauseEntry) (cs : List Clause) : Type 0 where
  pub entries : AllEntries ss es
  pub clauses : map (entry_clause ss) es ≡ cs

-- the term of a head, a part or the atom `true`, and how many nodes it adds
abbrev pub head_term : List Shape → Option ℕ → Term
head_term ss None = Terms.compound TRUE Terms.none
head_term ss (Some n) = node_term ss n

abbrev pub head_size : List Shape → Option ℕ → ℕ
head_size ss None = 0
head_size ss (Some n) = size_of (node_term ss n)

-- the clause of that head and these items, whose variables are those of the parts
abbrev pub clause_under : Lifting → Option ℕ → ℕ → SourceItems → SourceClause
clause_under l head line items = record {
  number = 0;
  head = head_term (nodes_under l) head;
  body = items;
  variables = length (met_by [] (part_shapes l.parts.now));
  written = met_by [] (part_shapes l.parts.now);
  line = line;
}

-- The outlines and the disjunctions are those of the items.
pub record AreOutlines (l : Lifting) (head : Option ℕ) (line : ℕ) (os : List Outline) (items : SourceItems)
    : Type 0 where
  pub outlines : outlines_in (nodes_under l) os
      ≡ record { scope = None; pieces = sorted.pieces_of 0 items } ∷ sorted.outlines_of 0 items
  pub disjunctions : named_under l ≡ named_in items
  pub there : AreOutlinesThere (length l.parts.now) os
  pub own : HasOwnSourceVariables (clause_under l head line items)
