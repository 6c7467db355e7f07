use Rattle.std.proofs.Common.{ℕ, ◌+◌, ◌<◌, drop, length, get_or, subst, arith}
use Rattle.std.specs.Prelude.{All}
use Rattle.std.proofs.lemmas.List.{get_or-drop, length-drop}
use Rattle.and_workers.specs.Waiting.{LookedFree, LookedSet}
use Rattle.and_cells.proofs.Chains.{reads_more}
use Rattle.and_workers.proofs.Suspending.{both_free, rest_is, set_earlier}
use Rattle.and_workers.proofs.suspended.next_set.Goals as goal

pub returns-in-Some-last_set-clause-reads : goal.returns-in-Some-last_set-clause-reads
returns-in-Some-last_set-clause-reads g c =
    reads_more (g.C.Cells.seen c.args.cells.now) (g.C.Cells.seen c.last_set-2.new.cells) (g.C.Cells.seen c.last_set-3.new.cells)
    c.last_set-2.ensures.reads c.last_set-3.ensures.reads

pub returns-in-Some-last_set-clause-set : goal.returns-in-Some-last_set-clause-set
returns-in-Some-last_set-clause-set g c =
    let old = g.C.Cells.seen c.args.cells.now in
    let mid = g.C.Cells.seen c.last_set-2.new.cells in
    let new = g.C.Cells.seen c.last_set-3.new.cells in
    let from = c.args.from in
    let place = c.in-Some-last_set.place in
    let waited = c.args.waited.now in
    let said = c.in-Some-last_set.ensures.set in
    let set = subst (λ ws. (place < length ws) × LookedSet g.C.Cells.program (get_or ws place 0) mid new) (rest_is waited from) said in
    let long = length-drop from waited in
    let below = set.0 in (
      omega arith,
      set_earlier g.C.Cells.program (get_or waited (from + place) 0) old mid new c.last_set-2.ensures.reads
          (subst (λ x. LookedSet g.C.Cells.program x mid new) (get_or-drop from waited place 0) set.1),
    )

pub returns-in-None-clause-none : goal.returns-in-None-clause-none
returns-in-None-clause-none g c =
    let old = g.C.Cells.seen c.args.cells.now in
    let mid = g.C.Cells.seen c.last_set-2.new.cells in
    let new = g.C.Cells.seen c.last_set-3.new.cells in
    let F : ℕ → Type 0 = λ x. LookedFree (g.C.Cells.shared (g.C.Cells.over c.last_set-2.new.cells)) x mid new in
    let rest : All F (drop c.args.from c.args.waited.now) = subst (All F) (rest_is c.args.waited.now c.args.from) c.in-None.ensures.none in
    let back = subst (λ o. All (λ x. LookedFree (g.C.Cells.shared o) x mid new) (drop c.args.from c.args.waited.now)) c.last_set-2.ensures.over rest in
    both_free (g.C.Cells.shared (g.C.Cells.over c.args.cells.now)) old mid new c.args.waited.now c.args.from c.last_set-2.ensures.reads
    c.last_set-3.ensures.reads
    c.in_default.ensures.none back
