use Rattle.std.proofs.Common.{subst}
use Rattle.std.specs.Option.{IfSome}
use Rattle.and_kept_table.specs.KeptTables.{IsKeptOn}
use Rattle.and_kept_table.proofs.kept.begun.Goals as goal

pub returns-in-Some : goal.returns-in-Some
returns-in-Some c = λ g kept stands. subst (λ o. IfSome o (IsKeptOn g)) c.in-Some.is kept

pub returns-in-None : goal.returns-in-None
returns-in-None c = λ g kept stands. c.of.ensures g stands
