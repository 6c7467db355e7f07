use Rattle.std.proofs.Common.{◌≡◌, take}
use Rattle.and_model.specs.Codes.{numbers_of}
use Rattle.and_histories.specs.PlainTree.{children}
use Rattle.and_tree.proofs.hand.children_of.Given as goal

abbrev pub invariant-loop-place : goal.invariant-loop-place
invariant-loop-place l = l.keys.items ≡ children l.longer (numbers_of (take l.place l.clauses))
