-- What the sorting of a body's tokens works on.
use Rattle.std.specs.Prelude.{ℕ, ◌≡◌, ◌≤◌, ◌<◌, List, [], ◌∷◌, map, reverse, length, Option, None}
use Rattle.and_model.specs.Lines.{Bytes}
use Rattle.and_model.specs.Terms.{Path}
use Rattle.and_source.specs.Source.{SourceItems}
use Rattle.and_syntax.specs.Written.{place}
use Rattle.and_program.specs.Skeletons
use Rattle.and_program.specs.Skeletons.{Shape, item_of}
use Rattle.and_program.specs.Items.{node_item}
use Rattle.and_judging.specs.Sorted as sorted
use Rattle.and_drafts.specs.declared.draft.DraftPart.{DraftPart}
use Rattle.and_drafts.specs.declared.draft.DraftPart.TheVariants.{Variable, Integer, Compound}
use Rattle.and_program.specs.declared.item.ItemNode.{ItemNode}
use Rattle.and_program.specs.declared.item.ItemNode.TheVariants.{Call, Equal, Is, Compare, Fail}
use Rattle.and_judging.specs.declared.body.BodyToken.{BodyToken}
use Rattle.and_judging.specs.declared.body.BodyToken.TheVariants as tokens
use Rattle.and_judging.specs.declared.sorting.Disjunction.{Disjunction}
use Rattle.and_judging.specs.declared.sorting.Piece.{Piece}
use Rattle.and_judging.specs.declared.sorting.Piece.TheVariants as pieces
use Rattle.and_judging.specs.declared.sorting.Outline.{Outline}
use Rattle.and_judging.specs.declared.sorting.Place.{Place}
use Rattle.and_judging.specs.declared.sorting.Sorted.{Sorted}
use Rattle.and_judging.specs.declared.sorting.Sorting.{Sorting}

-- a part as a node under a table of names
abbrev pub shape_under : List Bytes → DraftPart → Shape
shape_under names (Variable x k) = Skeletons.variable k
shape_under names (Integer z) = Skeletons.number z
shape_under names (Compound c ns) = Skeletons.compound (place c names) ns.items

abbrev pub shapes_under : List Bytes → List DraftPart → List Shape
shapes_under names ps = map (shape_under names) ps

-- the variable of a part
abbrev pub variable_in : DraftPart → List (Path × ℕ)
variable_in (Variable x k) = ([], k) ∷ []
variable_in (Integer z) = []
variable_in (Compound c ns) = []

-- variables of a clause, by their numbers
abbrev pub own : List ℕ → List (Path × ℕ)
own ks = map (λ k. ([], k)) ks

abbrev pub local_in : Disjunction → sorted.Local
local_in d = record { variables = own d.variables.items; count = d.count }

abbrev pub locals_in : List Disjunction → List sorted.Local
locals_in ds = map local_in ds

abbrev pub piece_in : List Shape → Piece → sorted.Piece
piece_in ss (pieces.Item i) = sorted.kept (item_of ss (node_item i))
piece_in ss (pieces.Disjunction n) = sorted.called n

abbrev pub outline_in : List Shape → Outline → sorted.Outline
outline_in ss o = record { scope = o.scope; pieces = map (piece_in ss) o.pieces.items }

abbrev pub outlines_in : List Shape → List Outline → List sorted.Outline
outlines_in ss os = map (outline_in ss) os

abbrev pub place_in : Place → ℕ × Option ℕ
place_in p = (p.outline, p.scope)

-- the innermost disjunction is the last one
abbrev pub sorting_in : List Shape → Sorting → sorted.Sorting
sorting_in ss s = record {
  locals = locals_in s.sorted.disjunctions.items;
  outlines = outlines_in ss s.sorted.outlines.items;
  outline = s.here.outline;
  scope = s.here.scope;
  around = map place_in (reverse s.around.items);
}

-- the parts that an item names are some of n
abbrev pub ItemThere : ℕ → ItemNode → Type 0
ItemThere n (Call g) = g.0 < n
ItemThere n (Equal l r) = (l.0 < n) × (r.0 < n)
ItemThere n (Is l r pair) = (l.0 < n) × (r.0 < n)
ItemThere n (Compare m l r) = (l.0 < n) × (r.0 < n)
ItemThere n Fail = Unit {0}

-- the parts that items of outlines name are some of n
abbrev pub AreItemsThere : ℕ → List Piece → Type 0
AreItemsThere n [] = Unit {0}
AreItemsThere n (pieces.Item i ∷ ps) = ItemThere n i × AreItemsThere n ps
AreItemsThere n (pieces.Disjunction d ∷ ps) = AreItemsThere n ps

abbrev pub AreOutlinesThere : ℕ → List Outline → Type 0
AreOutlinesThere n [] = Unit {0}
AreOutlinesThere n (o ∷ os) = AreItemsThere n o.pieces.items × AreOutlinesThere n os

abbrev pub TokenThere : ℕ → BodyToken → Type 0
TokenThere n (tokens.Item i) = ItemThere n i
TokenThere n (tokens.Open d) = Unit {0}
TokenThere n (tokens.Next c) = Unit {0}
TokenThere n tokens.Close = Unit {0}

abbrev pub TokensThere : ℕ → List BodyToken → Type 0
TokensThere n [] = Unit {0}
TokensThere n (t ∷ ts) = TokenThere n t × TokensThere n ts

-- each disjunction has at most n alternatives
abbrev pub AreFew : ℕ → List sorted.Local → Type 0
AreFew n [] = Unit {0}
AreFew n (l ∷ ls) = (l.count ≤ n) × AreFew n ls

-- each disjunction has at most n variables
abbrev pub AreNarrow : ℕ → List sorted.Local → Type 0
AreNarrow n [] = Unit {0}
AreNarrow n (l ∷ ls) = (length l.variables ≤ n) × AreNarrow n ls

-- The disjunctions and the outlines are those of the items.
abbrev pub IsSorted : List Shape → SourceItems → Sorted → Type 0
IsSorted ss items r =
    (locals_in r.disjunctions.items ≡ sorted.locals_of items)
    × (outlines_in ss r.outlines.items ≡ record { scope = None; pieces = sorted.pieces_of 0 items }
    ∷ sorted.outlines_of 0 items)
