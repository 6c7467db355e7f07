-- What the answers of calls are in the plain tree.
use Rattle.std.specs.Prelude.{Bool, true, false}
use Rattle.and_histories.specs.PlainTree.{Seen, seen_free, seen_open, seen_taking}
use Rattle.and_tree.specs.declared.replies.CellSeen.{CellSeen}
use Rattle.and_tree.specs.declared.replies.CellSeen.TheVariants.{Free, Open, Taking}
use Rattle.and_tree.specs.declared.replies.Last.{Last}
use Rattle.and_tree.specs.declared.replies.Last.TheVariants.{Yes, No}

abbrev pub seen_of : CellSeen → Seen
seen_of Free = seen_free
seen_of (Open serial) = seen_open serial
seen_of (Taking team serial) = seen_taking team serial

-- whether no key is left
abbrev pub is_last : Last → Bool
is_last Yes = true
is_last No = false
