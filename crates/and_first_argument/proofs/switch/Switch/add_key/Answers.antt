use Rattle.and_first_argument.specs.Tables.{Table}
use Rattle.and_first_argument.proofs.TablesLemmas.{row_added}
use Rattle.and_first_argument.proofs.switch.Switch.add_key.Goals as goal

pub returns-in-Ok-clause-ok : goal.returns-in-Ok-clause-ok
returns-in-Ok-clause-ok g c =
    let table : Table = record { keys = c.self.inside.keys.items; lists = c.self.inside.lists } in
    row_added c.args.key c.args.clause table c.args.self.now c.push.new.self.items c.add_row.new.self
    c.self.view_is c.self.invariant.0 c.requires.fresh c.in-Ok.ensures.items c.in_ok-add_row.ensures.ok
