use Rattle.std.proofs.Common.{rules, ℕ, ◌∙◌, ◌≡◌, ◌<◌, subst, sym, get_or, length}
use Rattle.std.specs.Prelude.{All}
use Rattle.std.specs.List.{swap_remove}
use Rattle.std.proofs.lemmas.List.{get_or_default}
use Rattle.and_workers.specs.Waiting.{Waiting, waiting, LookedFree, LookedSet, Wakes}
use Rattle.and_workers.proofs.Suspending.{all_cells, all_waiting, wakes_at}
use Rattle.and_workers.proofs.suspended.Suspended.woken.Goals as goal

pub next_set-requires : goal.next_set-requires
next_set-requires g c =
    let P : ℕ → Type 0 = λ cell. cell < (g.C.Cells.seen c.args.cells.now).words in
    let all : All (λ (w : Waiting). P w.cell) (waiting c.self.inside.goals.items c.self.inside.cells.items) =
    subst (All (λ (w : Waiting). P w.cell)) (sym c.self.view_is) c.requires in
    subst (All P) (sym (search rules)) (all_cells P c.self.inside.goals.items c.self.inside.cells.items c.self.invariant all)

pub returns-in_default-clause-free : goal.returns-in_default-clause-free
returns-in_default-clause-free g c =
    let F : ℕ → Type 0 = λ cell. LookedFree (g.C.Cells.shared (g.C.Cells.over c.args.cells.now)) cell (g.C.Cells.seen c.args.cells.now)
    (g.C.Cells.seen c.next_set.new.cells) in
    let free : All F c.self.inside.cells.items = subst (All F) c.as_slice.ensures.value (search rules) in
    subst (All (λ (w : Waiting). F w.cell)) c.self.view_is (all_waiting F c.self.inside.goals.items c.self.inside.cells.items free)

pub returns-clause-woken : goal.returns-clause-woken
returns-clause-woken g c =
    let P = g.C.Cells.program in
    let old = g.C.Cells.seen c.args.cells.now in
    let new = g.C.Cells.seen c.next_set.new.cells in
    let gs = c.self.inside.goals.items in
    let cs = c.self.inside.cells.items in
    let place = c.in-Some.place in
    let cell = c.swap_remove.result in
    let result = c.swap_remove-2.result in
    let set : (place < length cs) × LookedSet P (get_or cs place 0) old new =
    subst (λ ws. (place < length ws) × LookedSet P (get_or ws place 0) old new) c.as_slice.ensures.value c.in-Some.ensures.set in
    let cell_is : cell ≡ get_or cs place cell = c.swap_remove.ensures.value in
    let found = subst (λ x. LookedSet P x old new) (get_or_default cs place 0 cell set.0 ∙ sym cell_is) set.1 in
    let wakes = wakes_at P old new gs cs place cell result c.self.invariant set.0 c.swap_remove-2.ensures.value cell_is found in
    subst (λ ws. Wakes P result ws (waiting c.swap_remove-2.new.self.items c.swap_remove.new.self.items) old new) c.self.view_is
    (subst (λ ks. Wakes P result (waiting gs cs) (waiting c.swap_remove-2.new.self.items ks) old new) (sym c.swap_remove.ensures.items)
    (subst (λ hs. Wakes P result (waiting gs cs) (waiting hs (swap_remove cs place cell)) old new) (sym c.swap_remove-2.ensures.items) wakes))
