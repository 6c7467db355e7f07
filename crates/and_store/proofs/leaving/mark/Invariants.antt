use Rattle.std.proofs.Common.{ℕ, ◌≡◌, ◌<◌, false, length, take}
use Rattle.std.specs.Prelude.{slice_index_or}
use Rattle.and_store.specs.Left.{is_among, either_one}
use Rattle.and_store.proofs.leaving.mark.Given as goal

abbrev pub invariant-loop-i : goal.invariant-loop-i
invariant-loop-i l =
    (length l.marks ≡ length l.fn.marks)
    × ((w : ℕ) → w < length l.fn.marks → slice_index_or l.marks w false ≡ either_one (is_among w (take l.i l.waiters)) (slice_index_or l.fn.marks w false))
