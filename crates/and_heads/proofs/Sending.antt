-- What settles heads may be sent to a thread.
use denote.Hole.{as_row}
use denote.Struct.Field.{u32-field, bool-field}
use denote.Param.Send.{IsSend, sendable, view_send}
use denote.Param.SendFields.{declared_send}
use Rattle.std.proofs.Crossing.{crosses, Vec-send}
use Rattle.and_model.specs.contracts.reference.Ref as reference
use Rattle.and_unify.specs.contracts.pairs.PairList as pairs
use Rattle.and_unify.specs.contracts.settling.Solver as solver
use Rattle.and_heads.specs.contracts.parts.Part as part
use Rattle.and_heads.specs.contracts.settling.HeadSolver as heads

number : IsSend (as_row u32-field)
number = search sendable

flag : IsSend (as_row bool-field)
flag = search sendable

reference_send : IsSend reference.the_row
reference_send = search sendable depth 20

part_send : IsSend part.the_row
part_send = search sendable depth 20

solver_send : IsSend solver.the_row
solver_send = search (sendable, crosses) depth 40

pairs_send : IsSend pairs.the_row
pairs_send = search (sendable, crosses) depth 40

pub heads_send : IsSend heads.the_row
heads_send =
    view_send _ _ _ _ _
    (declared_send heads.TheInside.the_type
    (Vec-send _ number, (flag, (solver_send, (Vec-send _ part_send, (Vec-send _ reference_send, (Vec-send _ reference_send, (pairs_send, tt))))))))
