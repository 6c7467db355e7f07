use Rattle.std.proofs.Common.{ℕ, ◌≡◌, ◌<◌, false, length, take}
use Rattle.std.specs.Prelude.{slice_index_or}
use Rattle.and_store.specs.Left.{is_among, handed_out}
use Rattle.and_store.proofs.store.Store.mark_handed_out.Given as goal

abbrev pub invariant-loop-i : goal.invariant-loop-i
invariant-loop-i g l =
    (length l.marks ≡ length l.fn.marks)
    × ((w : ℕ) → w < length l.fn.marks → slice_index_or l.marks w false ≡ is_among w (handed_out (take l.i l.passes-2)))
