-- Lists of reductions as trees are written down by them.
use Rattle.std.specs.Prelude.{List, map}
use Rattle.and_model.specs.Reductions.{Reduction}
use Rattle.and_model.specs.declared.goal

-- the reduction of a list's item
abbrev pub written : goal.Reduction.Reduction → Reduction
written r = record { parent = r.parent; item = r.item; clause = r.clause.0; node = r.node }

-- those of a list
abbrev pub all_written : List goal.Reduction.Reduction → List Reduction
all_written rs = map written rs
