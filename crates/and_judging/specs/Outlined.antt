-- The clauses that outlines stand for.
use Rattle.std.specs.Prelude.{ℕ, suc, ◌+◌, List, [], ◌∷◌, map, length, get_or, Option, Some, None}
use Rattle.and_model.specs.Terms.{Path, Term, Terms, variable, number, compound, none, more}
use Rattle.and_model.specs.Programs.{Item, call, equal, arithmetic, fail, is, compare, Clause}
use Rattle.and_model.specs.Lines.{place_of}
use Rattle.and_source.specs.Source.{SourceItems, Alternatives, distinct_variables, disjunctions_in_items}
use Rattle.and_source.specs.Source.{SourceClause}
use Rattle.and_source.specs.Lifted.{Numbering, renumbered, renumbered_item, as_terms, numbered_variables}
use Rattle.and_judging.specs.Sorted.{Piece, kept, called, Outline}

-- A disjunction: the number of the name of its predicate, and its distinct variables.
pub record Named : Type 0 where
  pub name : ℕ
  pub variables : List (Path × ℕ)

abbrev pub named_of : ℕ × Alternatives → Named
named_of d = record { name = d.0; variables = distinct_variables d.1 }

abbrev pub named_in : SourceItems → List Named
named_in items = map named_of (disjunctions_in_items items)

abbrev pub named_at : List Named → ℕ → Named
named_at ds n = get_or ds n (record { name = 0; variables = [] })

-- variables are numbered as in the clauses of a disjunction
abbrev pub numbering_by : List (Path × ℕ) → Numbering
numbering_by vs q k = place_of (q, k) vs

-- the call and the head to which a disjunction is lifted
abbrev pub call_of : Named → Term
call_of d = compound d.name (as_terms d.variables)

abbrev pub head_of : Named → Term
head_of d = compound d.name (numbered_variables 0 d.variables)

abbrev pub piece_item : List Named → Numbering → Piece → Item
piece_item ds new (kept i) = renumbered_item new i
piece_item ds new (called n) = call (renumbered new (call_of (named_at ds n)))

abbrev pub pieces_items : List Named → Numbering → List Piece → List Item
pieces_items ds new ps = map (piece_item ds new) ps

-- an alternative of a disjunction as a clause
abbrev pub alternative_clause : List Named → SourceClause → Named → List Piece → Clause
alternative_clause ds k d ps = record {
  head = head_of d;
  body = pieces_items ds (numbering_by d.variables) ps;
  variables = length d.variables;
  written = map (λ (v : Path × ℕ). get_or k.written v.1 []) d.variables;
  line = k.line;
}

-- the clause itself
abbrev pub own_clause : List Named → SourceClause → List Piece → Clause
own_clause ds k ps = record {
  head = k.head;
  body = pieces_items ds (λ q n. n) ps;
  variables = k.variables;
  written = k.written;
  line = k.line;
}

abbrev pub clause_in : List Named → SourceClause → Option ℕ → List Piece → Clause
clause_in ds k None ps = own_clause ds k ps
clause_in ds k (Some n) ps = alternative_clause ds k (named_at ds n) ps

abbrev pub outline_clause : List Named → SourceClause → Outline → Clause
outline_clause ds k o = clause_in ds k o.scope o.pieces

-- how many variables, numbers and names a term has
abbrev mutual
  pub size_of : Term → ℕ
  size_of (variable q k) = 1
  size_of (number z) = 1
  size_of (compound c ts) = suc (size_in ts)

  pub size_in : Terms → ℕ
  size_in none = 0
  size_in (more t ts) = size_of t + size_in ts

-- and an item, where `fail` is one too
abbrev pub item_size : Item → ℕ
item_size (call g) = size_of g
item_size (equal l r) = size_of l + size_of r
item_size (arithmetic (is l r)) = size_of l + size_of r
item_size (arithmetic (compare m l r)) = size_of l + size_of r
item_size fail = 1

abbrev pub piece_size : List Named → Piece → ℕ
piece_size ds (kept i) = item_size i
piece_size ds (called n) = suc (length (named_at ds n).variables)

abbrev pub pieces_size : List Named → List Piece → ℕ
pieces_size ds [] = 0
pieces_size ds (p ∷ ps) = piece_size ds p + pieces_size ds ps

-- the nodes of the clause of an alternative, its head counted
abbrev pub scope_size : List Named → Option ℕ → ℕ
scope_size ds None = 0
scope_size ds (Some n) = suc (length (named_at ds n).variables)

abbrev pub outline_size : List Named → Outline → ℕ
outline_size ds o = scope_size ds o.scope + pieces_size ds o.pieces

abbrev pub outlines_size : List Named → List Outline → ℕ
outlines_size ds [] = 0
outlines_size ds (o ∷ os) = outline_size ds o + outlines_size ds os
