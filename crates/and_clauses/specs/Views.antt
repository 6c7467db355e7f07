-- What drafts and tables stand for.
use Rattle.std.specs.Prelude.{Bool, false, List, [], ◌∷◌, codes}
use Rattle.std.specs.Str.{bytes_eq}
use Rattle.and_syntax.specs.Written
use Rattle.and_syntax.specs.Written.{Written}
use Rattle.and_syntax.specs.Tables.{Table, empty}
use Rattle.and_clauses.specs.Adds.{with_all}
use Rattle.and_clauses.specs.declared.table.ClauseTable.{ClauseTable}

-- a compound `?-` of one argument
abbrev pub is_asking : Written → Bool
is_asking (Written.variable x) = false
is_asking (Written.integer z) = false
is_asking (Written.compound c Written.none) = false
is_asking (Written.compound c (Written.more t Written.none)) = bytes_eq c (codes "?-")
is_asking (Written.compound c (Written.more t (Written.more u ts))) = false

-- the one finished term is a query
abbrev pub is_query : List Written → Bool
is_query [] = false
is_query (w ∷ []) = is_asking w
is_query (w ∷ v ∷ ws) = false

-- What a table stands for: that of what was added to it.
abbrev pub table_of : ClauseTable → Table
table_of t = with_all empty t.added.items
