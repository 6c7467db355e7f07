use Rattle.std.proofs.Common.{rules, sym, ap, subst, ◌∙◌, arith}
use Rattle.and_cells.specs.Parts.{named}
use Rattle.and_cells.specs.Ranges.{NamedProgram, IsNodeInRange}
use Rattle.and_cells.specs.Seen.{OnlyReads}
use Rattle.and_cells.proofs.Chains.{reads_more}
use Rattle.and_clause_index.specs.Selecting.{CanBeTried, AreLeft}
use Rattle.and_clause_index.specs.Looks.{IsLookOver}
use Rattle.and_clause_index.specs.Tables.{tried, entry_at}
use Rattle.and_shared_determinacy.proofs.Looked.{look_later}
use Rattle.and_shared_determinacy.proofs.TriedCalls.{over_as_named, of_served, are_left}
use Rattle.and_shared_determinacy.proofs.selecting.select.Goals as goal

pub call_node-node-requires : goal.call_node-node-requires
call_node-node-requires g c = (c.args.words, subst (λ (Q : NamedProgram). CanBeTried Q c.args.words c.args.goal) c.requires.program c.requires.goal)

pub look_through-look-requires-clause-node : goal.look_through-look-requires-clause-node
look_through-look-requires-clause-node g c =
    let P = g.C.Cells.program in
    let node = c.call_node-node.result.0 in
    let over = over_as_named P (named c.args.loaded.now) c.args.words c.args.goal node c.requires.program c.requires.goal
    (c.call_node-node.ensures c.args.words) in
    subst (λ n. IsNodeInRange P n node c.args.goal.base) (sym c.over-overlay.ensures.below) over.in_range

pub sift-requires-clause-room : goal.sift-requires-clause-room
sift-requires-clause-room g c =
    let room = c.over-overlay.result.room.0 in
    omega (arith, room, c.over-overlay.ensures.below, c.over-overlay.ensures.frame, c.look_through-look.ensures.room)

pub sift-requires-clause-node : goal.sift-requires-clause-node
sift-requires-clause-node g c =
    let over = over_as_named g.C.Cells.program (named c.args.loaded.now) c.args.words c.args.goal c.call_node-node.result.0 c.requires.program c.requires.goal
    (c.call_node-node.ensures c.args.words) in
    over.in_range

pub sift-requires-clause-clauses : goal.sift-requires-clause-clauses
sift-requires-clause-clauses g c =
    let P = g.C.Cells.program in
    let node = c.call_node-node.result.0 in
    let table = c.args.table.now in
    let over = over_as_named P (named c.args.loaded.now) c.args.words c.args.goal node c.requires.program c.requires.goal
    (c.call_node-node.ensures c.args.words) in
    of_served P table node c.look_through-look.result.first c.clauses-clauses.result.now
    (c.requires.table.calls c.args.goal.clause.0 c.args.goal.item node over.there)
    (c.clauses-clauses.ensures ∙ ap (tried (entry_at table node)) c.first.ensures)

pub returns-clause-reads : goal.returns-clause-reads
returns-clause-reads g c =
    let old = g.C.Cells.seen c.args.cells.now in
    let looked = g.C.Cells.seen c.look_through-look.new.overlay.cells.now in
    let new = g.C.Cells.seen c.sift.new.overlay.cells.now in
    let first : OnlyReads old looked = subst (λ x. OnlyReads (g.C.Cells.seen x) looked) c.over-overlay.ensures.cells c.look_through-look.ensures.reads in
    let all : OnlyReads old new = reads_more old looked new first c.sift.ensures.reads in
    search rules

pub returns-clause-left : goal.returns-clause-left
returns-clause-left g c = λ is.
    let P = g.C.Cells.program in
    let node = c.call_node-node.result.0 in
    let base = c.args.goal.base in
    let table = c.args.table.now in
    let look = c.look_through-look.result in
    let s = g.C.Cells.seen c.sift.new.overlay.cells.now in
    let over = over_as_named P (named c.args.loaded.now) c.args.words c.args.goal node c.requires.program c.requires.goal
    (c.call_node-node.ensures c.args.words) in
    let is_look : IsLookOver P s node base look =
    look_later P (g.C.Cells.seen c.look_through-look.new.overlay.cells.now) s node base look c.sift.ensures.reads c.look_through-look.ensures.look in
    let left : AreLeft P s c.args.goal c.sift.new.out =
    are_left P table s c.args.words c.args.goal node over look is_look c.clauses-clauses.result.now
    (c.requires.table.calls c.args.goal.clause.0 c.args.goal.item node over.there)
    (c.clauses-clauses.ensures ∙ ap (tried (entry_at table node)) c.first.ensures) c.sift.new.out (c.sift.ensures.sifted is) in
    search rules
