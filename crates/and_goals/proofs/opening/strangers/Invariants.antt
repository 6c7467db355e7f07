use Rattle.std.proofs.Common.{◌≡◌, length, []}
use Rattle.std.specs.Prelude.{All}
use Rattle.and_shares.specs.Balance.{share}
use Rattle.and_goals.specs.Hands.{HandSeen}
use Rattle.and_goals.proofs.opening.strangers.Given as goal

abbrev pub invariant-loop : goal.invariant-loop
invariant-loop l = record {
  len : length l.hands.items ≡ l.counter;
  strangers : All (λ (h : HandSeen). (h.own ≡ share 8 [] []) × (h.others ≡ [])) l.hands.items;
}
