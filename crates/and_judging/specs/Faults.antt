-- What refusals say.
use Rattle.std.specs.Prelude.{Option, Some, None}
use Rattle.and_syntax.specs.Tables
use Rattle.and_syntax.specs.Tables.{Fault}
use Rattle.and_judging.specs.declared.data.What.{What}
use Rattle.and_judging.specs.declared.data.What.TheVariants.{Source, Clauses, Arguments, Variables, Nodes, Nesting}
use Rattle.and_judging.specs.declared.data.TableFault.{TableFault}
use Rattle.and_judging.specs.declared.data.TableFault.TheVariants.{SecondQuery, NotPure, Redefines, TooBig, Memory}

-- what there is too much of
abbrev pub what_of : What → Tables.What
what_of Source = Tables.source
what_of Clauses = Tables.clauses
what_of Arguments = Tables.arguments
what_of Variables = Tables.variables
what_of Nodes = Tables.nodes
what_of Nesting = Tables.nesting

-- why a draft was refused, if not for want of memory
abbrev pub fault_of : TableFault → Option Fault
fault_of SecondQuery = Some Tables.second_query
fault_of NotPure = Some Tables.not_pure
fault_of (Redefines name arity) = Some (Tables.redefines name arity)
fault_of (TooBig what) = Some (Tables.too_big (what_of what))
fault_of Memory = None
