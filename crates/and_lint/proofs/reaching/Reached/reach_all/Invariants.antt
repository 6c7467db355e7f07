use Rattle.std.proofs.Common.{◌≡◌, ◌||◌, ℕ, drop}
use Rattle.and_lint.specs.Marked.{Grows, is_among, marked}
use Rattle.and_lint.proofs.reaching.Reached.reach_all.Given as goal

abbrev pub invariant-loop-no : goal.invariant-loop-no
invariant-loop-no l =
    Grows l.initial.self.marks.items l.self.marks.items l.initial.self.work.items l.self.work.items
    × ((c : ℕ) → marked l.self.marks.items c || is_among (drop l.no-index l.clauses) c ≡ marked l.initial.self.marks.items c || is_among l.clauses c)
