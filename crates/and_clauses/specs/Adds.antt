-- What was added to a table.
use Rattle.std.specs.Prelude.{ℕ, pos, List, [], ◌∷◌}
use Rattle.and_syntax.specs.Written.{Written}
use Rattle.and_syntax.specs.Tables.{Table, with_clause, with_query}
use Rattle.and_drafts.specs.Parts.{part_shapes, written_at}
use Rattle.and_drafts.specs.declared.draft.ClauseDraft.{ClauseDraft}
use Rattle.and_clauses.specs.declared.added.Added.{Added}
use Rattle.and_clauses.specs.declared.added.Added.TheVariants.{Clause, Query}

-- the first finished term of a draft
abbrev pub first_of : ClauseDraft → List ℕ → Written
first_of d [] = Written.integer (pos 0)
first_of d (n ∷ ns) = written_at (part_shapes d.parts.items) n

abbrev pub term_of : ClauseDraft → Written
term_of d = first_of d d.finished.items

-- a table with one thing more
abbrev pub with_added : Table → Added → Table
with_added T (Clause d) = with_clause T (term_of d.value) d.value.line
with_added T (Query d) = with_query T (term_of d.value) d.value.line

-- a table with all of these, in their order
abbrev pub with_all : Table → List Added → Table
with_all T [] = T
with_all T (a ∷ more) = with_all (with_added T a) more
