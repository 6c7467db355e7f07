-- When a table is a program, and why it may be none.
use Rattle.std.specs.Prelude.{◌≡◌, Some, None}
use Rattle.and_model.specs.Programs.{Program}
use Rattle.and_syntax.specs.Tables
use Rattle.and_source.specs.Source.{SourceClause}
use Rattle.and_source.specs.Lifted.{lift}
use Rattle.and_syntax.specs.Tables.{Table, unknown_of, program_of}
use Rattle.and_judging.specs.declared.data.SealFault.{SealFault}
use Rattle.and_judging.specs.declared.data.SealFault.TheVariants.{NoQuery, Unknown, Memory}

-- The table has a query, each of its calls has a clause, and the program is that to which the table's is lifted.
abbrev pub Seals : Table → Program → Type 0
Seals T P = (q : SourceClause) × (T.asked ≡ Some q) × (unknown_of T q ≡ None) × (P ≡ lift (program_of T q))

-- the fault names this call
abbrev pub IsUnknown : Tables.Unknown → SealFault → Type 0
IsUnknown u NoQuery = ⊥
IsUnknown u (Unknown name arity line) = u ≡ record { name = name; arity = arity; line = line }
IsUnknown u Memory = ⊥

-- Why the table is no program: it has no query, or there is a first call without a clause. (Memory may be wanting at
-- any table.)
abbrev pub Refuses : Table → SealFault → Type 0
Refuses T NoQuery = T.asked ≡ None
Refuses T (Unknown name arity line) = (q : SourceClause) × (T.asked ≡ Some q)
    × (unknown_of T q ≡ Some (record { name = name; arity = arity; line = line }))
Refuses T Memory = Unit {0}
