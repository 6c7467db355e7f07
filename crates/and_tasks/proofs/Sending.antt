-- What goes to a team's thread and comes of it may be sent: each struct may as its fields may, from the inside out.
-- Where a struct gets a field more, its tuple here gets that field's lemma.
use denote.RattleType.{RattleType}
use denote.Hole.{as_row}
use denote.Struct.Field.{u32-field, bool-field}
use denote.Param.Send.{IsSend, sendable, view_send}
use denote.Param.SendFields.{declared_send}
use Rattle.std.proofs.Crossing.{crosses}
use Rattle.atomic_table.proofs.shared.Seat.TheSendSync.{the_send as seat_send}
use Rattle.and_model.specs.contracts.code.Code as code
use Rattle.and_model.specs.contracts.goal.Reduction as reduction
use Rattle.and_model.specs.contracts.list.ListOf as list
use Rattle.and_cells.specs.declared.naming.Naming.{Ghosts}
use Rattle.and_cells.specs.contracts.known.Known as known
use Rattle.and_cells.specs.contracts.plain.PlainCells as cells
use Rattle.and_reduction.specs.contracts.trail.Trail as trail
use Rattle.and_pending.specs.contracts.pending.PendingGoal as goal
use Rattle.and_pending.specs.contracts.pending.PendingGoals as goals
use Rattle.and_branch.specs.contracts.branch.Branch as branch
use Rattle.and_answers.specs.contracts.codes.CodeList as codes
use Rattle.and_answers.specs.contracts.coded.Coded as coded
use Rattle.and_tree.specs.contracts.pass.TreePass as pass
use Rattle.and_tasks.specs.contracts.placed.PlacedBranch as placed

-- numbers, lists and codes
number : IsSend (as_row u32-field)
number = search sendable

flag : IsSend (as_row bool-field)
flag = search sendable

code_send : IsSend code.the_row
code_send = search (sendable, crosses) depth 40

list_send : (T : RattleType) → IsSend T → IsSend (list.the_row T)
list_send T s = search (sendable, crosses) depth 40

reductions_send : IsSend (list.the_row reduction.the_row)
reductions_send = list_send reduction.the_row (search sendable depth 20)

-- what was found
codes_send : IsSend codes.the_row
codes_send = search (sendable, crosses, code_send) depth 40

pub coded_send : IsSend coded.the_row
coded_send = search (sendable, crosses, codes_send) depth 40

-- the right of one team to a tree
pub pass_send : (B : RattleType) → IsSend B → IsSend (pass.the_row B)
pass_send B s = search (sendable, crosses, seat_send) depth 40

-- branches
known_send : IsSend known.the_row
known_send = search (sendable, crosses) depth 40

goal_send : IsSend goal.the_row
goal_send = search (sendable, crosses) depth 40

goals_send : IsSend goals.the_row
goals_send = search (sendable, crosses, goal_send) depth 40

trail_send : IsSend trail.the_row
trail_send = search (sendable, crosses) depth 40

module _ (N : RattleType) (g : Ghosts N.Denot) (sent : IsSend N) where
  cells_send : IsSend (cells.the_row N g)
  cells_send = search (sendable, crosses, known_send) depth 40

  branch_send : IsSend (branch.the_row N g)
  branch_send =
      view_send _ _ _ _ _
      (declared_send (branch.TheInside.the_type N g)
      (code_send, (number, (cells_send, (reductions_send, (goals_send, (number, (flag, (trail_send, tt)))))))))

  pub placed_send : IsSend (placed.the_row N g)
  placed_send = declared_send (placed.the_type N g) (branch_send, tt)
