use denote.Param.Send.{IsSend, sendable}
use Rattle.std.proofs.Crossing.{crosses}
use Rattle.atomic_table.proofs.shared.Seat.TheSendSync.{the_send as seat_send}
use Rattle.and_store.specs.contracts.pass.Pass as pass
use Rattle.and_handed.specs.contracts.told.HandedOn as told
use Rattle.and_handed.specs.contracts.told.Reduced as reduced
use Rattle.and_handed.specs.contracts.told.Ran as ran
use Rattle.and_handed.specs.contracts.told.Ended as ended
use Rattle.and_phase.proofs.sending.send_off.Goals as goal

pass_send : IsSend pass.the_row
pass_send = search (sendable, crosses, seat_send) depth 40

reduced_send : IsSend reduced.the_row
reduced_send = search (sendable, crosses) depth 40

ran_send : IsSend ran.the_row
ran_send = search (sendable, crosses) depth 40

told_send : IsSend told.the_row
told_send = search (sendable, crosses, reduced_send, ran_send) depth 40

ended_send : IsSend ended.the_row
ended_send = search (sendable, crosses, pass_send, told_send) depth 40

pub map_vec-requires-send-X : goal.map_vec-requires-send-X
map_vec-requires-send-X g c κs within = search (sendable, ended_send)
