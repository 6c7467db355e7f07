-- What goes to a team's thread, and what comes of it, may be sent: each struct may as its fields may.
use denote.RattleType.{RattleType}
use denote.Hole.{as_row}
use denote.Struct.Field.{u32-field, bool-field}
use denote.Param.Send.{IsSend, sendable}
use denote.Param.SendFields.{declared_send}
use Rattle.and_cells.specs.declared.naming.Naming.{Ghosts}
use Rattle.and_tasks.proofs.Sending.{coded_send, pass_send, placed_send}
use Rattle.and_teams.specs.contracts.work.Beginning as beginning
use Rattle.and_teams.specs.contracts.work.Worked as worked

number : IsSend (as_row u32-field)
number = search sendable

flag : IsSend (as_row bool-field)
flag = search sendable

module _ (N : RattleType) (g : Ghosts N.Denot) (sent : IsSend N) where
  pub beginning_send : IsSend (beginning.the_row N g)
  beginning_send = declared_send (beginning.the_type N g) (number, (pass_send _ (placed_send N g sent), tt))

  pub worked_send : IsSend (worked.the_row N g)
  worked_send = declared_send (worked.the_type N g) (coded_send, (pass_send _ (placed_send N g sent), (flag, tt)))
