use Rattle.std.proofs.Common.{◌≡◌, ◌+◌, ◌++◌, List, drop, cond, codes, nat_eq, sym, subst, arith}
use Rattle.and_model.specs.Terms.{Term}
use Rattle.and_model.specs.Lines.{Bytes, shown}
use Rattle.and_cells.specs.Parts.{named}
use Rattle.and_print.proofs.Joining.{Left, left_rest, left_none, waiting_each, along_itself, not_first}
use Rattle.and_print.proofs.Reckoning.{goal_at, goals_end}
use Rattle.and_print.proofs.printer.Printer.write_waiting.Goals as goal

pub write_goal-requires-clause-means : goal.write_goal-requires-clause-means
write_goal-requires-clause-means g c =
    let (ts, m) = c.requires.means in
    let at = goal_at (named c.args.self.now.loaded.now) c.args.self.now.cells.now c.args.waiting.now ts c.loop-place.place c.at.result.now c.at.ensures m in
    (at.term, at.means)

pub loop-place-preserved : goal.loop-place-preserved
loop-place-preserved g c = λ ts m.
    let P = named c.args.self.now.loaded.now in
    let at = goal_at P c.args.self.now.cells.now c.args.waiting.now ts c.loop-place.place c.at.result.now c.at.ensures m in
    let sep : Bytes = cond (nat_eq c.loop-place.place 0) (codes " with ") (codes ", ") in
    let l = subst (λ (us : List Term). Left (λ t. t) (λ t vs. shown P.program.names vs t) (codes " with ") ts us sep c.args.names.now c.loop-place.names
    c.args.out.now c.loop-place.out) at.left (c.loop-place.invariant ts m) in
    let e : c.append.new.self ≡ c.loop-place.out ++ sep = rw c.separator.ensures at c.in_ok-append.ensures in
    let next = sym (not_first c.loop-place.place (codes " with ") (codes ", ")) in
    subst (λ (bs : Bytes). Left (λ t. t) (λ t vs. shown P.program.names vs t) (codes " with ") ts (drop (c.loop-place.place + 1) ts) bs c.args.names.now
    c.write_goal.new.names c.args.out.now c.write_goal.new.out) next
    (left_rest (λ t. t) (λ t vs. shown P.program.names vs t) (codes " with ") ts at.term (drop (c.loop-place.place + 1) ts) sep _ _ _ _ _ _ _ l e
    (c.in_ok-write_goal.ensures at.term at.means))

pub returns : goal.returns
returns g c = λ ts m.
    let P = named c.args.self.now.loaded.now in
    let none = goals_end P c.args.self.now.cells.now c.args.waiting.now ts c.loop-place.place (let e = c.len-place-end.ensures in
    let f = c.loop-place-test.false in omega arith) m in
    let sep : Bytes = cond (nat_eq c.loop-place.place 0) (codes " with ") (codes ", ") in
    let l = subst (λ (us : List Term). Left (λ t. t) (λ t vs. shown P.program.names vs t) (codes " with ") ts us sep c.args.names.now c.loop-place.names
    c.args.out.now c.loop-place.out) none (c.loop-place.invariant ts m) in
    along_itself (λ t vs. shown P.program.names vs t) (codes " with ") ts _ _ _ _ _ (λ vs. waiting_each P.program.names vs ts)
    (left_none (λ t. t) (λ t vs. shown P.program.names vs t) (codes " with ") ts sep _ _ _ _ l)
