use Rattle.std.proofs.Common.{◌∙◌, ap, sym, subst, refl, arith, ℕ, List, [], ◌∷◌, ◌≡◌, ◌≤◌, ◌<◌, ◌+◌, ◌*◌, All, length, map, get_or}
use Rattle.std.specs.Prelude.{nat_eq, not}
use Rattle.std.specs.Slots.{slots_items, slots_len}
use Rattle.and_model.specs.Store.{JournalEntry}
use Rattle.and_model.specs.declared.reference.Ref.{Ref}
use Rattle.and_cells.specs.Rows.{row_of}
use Rattle.and_store_laws.specs.AtWork.{journal_of}
use Rattle.and_store.specs.Ended.{Closes, IsGathered, LastEnds, journal_in, passes_of}
use Rattle.and_store.specs.Left.{LeavesGoals, left_waiters, goal_at}
use Rattle.and_store.specs.Passes.{size_of}
use Rattle.and_store.specs.Sight.{About, Sight}
use Rattle.and_store.proofs.Gathered.{closes_so, taken_words, at_value}
use Rattle.and_store.proofs.Raised.{fail_index}
use Rattle.and_store.proofs.Waiting.{leaves_so, places_in}
use Rattle.and_store.proofs.store.Store.close.Goals as goal

same_view : (v w : Sight) (vs : List Sight) → vs ≡ v ∷ [] → vs ≡ w ∷ [] → w ≡ v
same_view v w vs a b = let e = sym b ∙ a in cc

pub returns-clause-ok : goal.returns-clause-ok
returns-clause-ok g c =
    let P = g.N.Naming.program in
    let ps = c.args.passes in
    let a : About = c.self.inside.table.shared.key in
    let about : a ≡ c.args.self.about = ap (λ z. z.about) c.self.view_is in
    let words = slots_items c.close_with-table.result.words in
    let v = c.into_seat.result.me.0 in
    let same : v ≡ c.gather.result.me.0 = same_view c.gather.result.me.0 v c.into_badge-badge.result.views c.into_badge-badge.ensures.2 c.into_seat.ensures.2 in
    let gathered : IsGathered a v ps =
    subst (λ (b : About). IsGathered b v ps) (sym about) (subst (λ (v : Sight). IsGathered c.args.self.about v ps) (sym same) c.gather.ensures.gathered) in
    let all : length ps ≡ a.seats = c.requires.all ∙ ap (λ (b : About). b.seats) (sym about) in
    let least : LastEnds a (passes_of ps) c.last_end-least.result =
    subst (λ (b : About). LastEnds b (passes_of ps) c.last_end-least.result) (sym about) c.last_end-least.ensures.ends in
    let count : a.words ≡ c.self.inside.words = c.self.invariant.words_are in
    let in_words : c.row_end-end.result ≤ a.words = subst (λ (n : ℕ). c.row_end-end.result ≤ n) (sym count) c.row_end-end.ensures.within.1 in
    let here : fail_index a ≡ c.mark_place-fail.result + 1 =
    ap fail_index about ∙ (let n : ℕ = c.args.self.about.seats * c.args.self.about.waiters in let e = c.mark_place-fail.ensures.value in omega (arith, e)) in
    let found = sym (at_value words (c.mark_place-fail.result + 1) c.word-failed.result c.word-failed.ensures) ∙ ap (λ (i : ℕ). get_or words i 0) (sym here) in
    let journal : journal_of v.seat.members ≡ journal_in c.of-last.result.value.views =
    ap journal_in (sym c.into_seat.ensures.2 ∙ ap (λ b. b.views) (sym c.of-last.ensures)) in
    subst (λ (r : List Ref). Closes P c.args.self.about (passes_of ps) r (not (nat_eq c.word-failed.result 0)) (journal_in c.of-last.result.value.views))
    (sym c.of_words-cells.ensures)
    (subst (λ (j : List JournalEntry). Closes P c.args.self.about (passes_of ps) (row_of c.copy_words-words.result.items)
    (not (nat_eq c.word-failed.result 0)) j) journal
    (subst (λ (b : About). Closes P b (passes_of ps) (row_of c.copy_words-words.result.items) (not (nat_eq c.word-failed.result 0))
    (journal_of v.seat.members)) about
    (closes_so P a ps _ v words (slots_items c.close_with-table.result.slots) gathered all c.close_with-table.ensures.values.2 c.last_end-least.result
    c.row_end-end.result least
    c.row_end-end.ensures.within.0 in_words (λ place h k. c.row_end-end.ensures.free place h (subst (λ (n : ℕ). place < n) count k))
    c.row_end-end.ensures.no_longer
    c.copy_words-words.result.items c.word-failed.result (not (nat_eq c.word-failed.result 0)) c.copy_words-words.ensures found refl)))

pub of_words-cells-requires : goal.of_words-cells-requires
of_words-cells-requires g c =
    let P = g.N.Naming.program in
    let ps = c.args.passes in
    let a : About = c.self.inside.table.shared.key in
    let about : a ≡ c.args.self.about = ap (λ z. z.about) c.self.view_is in
    let words = slots_items c.close_with-table.result.words in
    let v = c.into_seat.result.me.0 in
    let same : v ≡ c.gather.result.me.0 = same_view c.gather.result.me.0 v c.into_badge-badge.result.views c.into_badge-badge.ensures.2 c.into_seat.ensures.2 in
    let gathered : IsGathered a v ps =
    subst (λ (b : About). IsGathered b v ps) (sym about) (subst (λ (v : Sight). IsGathered c.args.self.about v ps) (sym same) c.gather.ensures.gathered) in
    let all : length ps ≡ a.seats = c.requires.all ∙ ap (λ (b : About). b.seats) (sym about) in
    let least : LastEnds a (passes_of ps) c.last_end-least.result =
    subst (λ (b : About). LastEnds b (passes_of ps) c.last_end-least.result) (sym about) c.last_end-least.ensures.ends in
    let count : a.words ≡ c.self.inside.words = c.self.invariant.words_are in
    let in_words : c.row_end-end.result ≤ a.words = subst (λ (n : ℕ). c.row_end-end.result ≤ n) (sym count) c.row_end-end.ensures.within.1 in
    taken_words P a ps _ v words (slots_items c.close_with-table.result.slots) gathered all c.close_with-table.ensures.values.2 c.last_end-least.result
    c.row_end-end.result least
    c.row_end-end.ensures.within.0 in_words (λ place h k. c.row_end-end.ensures.free place h (subst (λ (n : ℕ). place < n) count k))
    c.row_end-end.ensures.no_longer
    c.copy_words-words.result.items c.copy_words-words.ensures

pub goals_of-waiting-requires-clause-within : goal.goals_of-waiting-requires-clause-within
goals_of-waiting-requires-clause-within g c =
    let a : About = c.self.inside.table.shared.key in
    let about : a ≡ c.args.self.about = ap (λ z. z.about) c.self.view_is in
    let words : ℕ = c.args.self.about.words in
    let count : ℕ = c.args.self.about.seats * c.args.self.about.waiters in
    let size : slots_len c.close_with-table.result.words ≡ words + (words + (2 * count + 2)) =
    c.close_with-table.ensures.counts.0 ∙ c.self.invariant.size ∙ ap size_of about in
    subst (All (λ (w : ℕ). c.goals_place-place.result + (2 * w + 1) < slots_len c.close_with-table.result.words)) (sym c.as_slice.ensures.value)
    (places_in words count c.goals_place-place.result (slots_len c.close_with-table.result.words) c.in-Ok.left.items c.goals_place-place.ensures.value size
    c.in-Ok.ensures.below)

pub returns-clause-waiting : goal.returns-clause-waiting
returns-clause-waiting g c =
    let P = g.N.Naming.program in
    let ps = c.args.passes in
    let a : About = c.self.inside.table.shared.key in
    let about : a ≡ c.args.self.about = ap (λ z. z.about) c.self.view_is in
    let words = slots_items c.close_with-table.result.words in
    let v = c.into_seat.result.me.0 in
    let same : v ≡ c.gather.result.me.0 = same_view c.gather.result.me.0 v c.into_badge-badge.result.views c.into_badge-badge.ensures.2 c.into_seat.ensures.2 in
    let gathered : IsGathered a v ps =
    subst (λ (b : About). IsGathered b v ps) (sym about) (subst (λ (v : Sight). IsGathered c.args.self.about v ps) (sym same) c.gather.ensures.gathered) in
    let all : length ps ≡ a.seats = c.requires.all ∙ ap (λ (b : About). b.seats) (sym about) in
    let left : List ℕ = c.in-Ok.left.items in
    let place : c.goals_place-place.result ≡ a.words + a.words = c.goals_place-place.ensures.value ∙ ap (λ (b : About). b.words + b.words) (sym about) in
    let are : c.goals_of-waiting.result.items ≡ map (λ (w : ℕ). goal_at words (a.words + a.words) w) left =
    c.goals_of-waiting.ensures ∙ ap (map (λ (w : ℕ). goal_at words c.goals_place-place.result w)) c.as_slice.ensures.value
    ∙ ap (λ (n : ℕ). map (λ (w : ℕ). goal_at words n w) left) place in
    let is_left = c.in-Ok.ensures.left ∙ ap (λ (b : About). left_waiters b.seats ps) (sym about) in
    subst (λ (b : About). LeavesGoals P b ps c.goals_of-waiting.result.items) about
    (leaves_so P a ps _ v words (slots_items c.close_with-table.result.slots) gathered all c.close_with-table.ensures.values.2 left
    c.goals_of-waiting.result.items is_left are)
