-- Branches that are taken apart.
use Rattle.std.specs.Prelude.{[]}
use Rattle.and_code.specs.Written.{all_written}
use Rattle.and_branch_parts.specs.Branches.{Held}
use Rattle.and_branch_parts.specs.Making.{nothing_noted}
use Rattle.and_branch.specs.declared.parts.Parts.{Parts}

-- the branch of these parts, at work behind its goals, of which none is watched, and of whose row nothing is noted
abbrev pub held_of : {N : Type 0} → Parts N → Held
held_of parts = record {
  key = parts.key;
  reductions = all_written parts.reductions;
  row = parts.cells;
  left = parts.goals.items;
  right = [];
  used = parts.used;
  limit = parts.limit;
  is_failed = parts.is_failed;
  watches = [];
  trail = nothing_noted;
}

-- a branch, of whose row nothing is noted any longer
abbrev pub unnoted : Held → Held
unnoted b = record b { trail = nothing_noted }
