-- Lists of the clauses of another but for some of which something holds, in order.
use Rattle.std.specs.Prelude.{List, [], ◌∷◌, ◌++◌}
use Rattle.and_model.specs.declared.numbers.ClauseNo.{ClauseNo}

-- AreSifted Out ks cs: the list cs has those of ks, in order, but for some of which Out holds.
pub data AreSifted (Out : ClauseNo → Type 0) : List ClauseNo → List ClauseNo → Type 0 where
  nothing : AreSifted Out [] []
  kept : (ks cs : List ClauseNo) (k : ClauseNo) → AreSifted Out ks cs → AreSifted Out (ks ++ k ∷ []) (cs ++ k ∷ [])
  dropped : (ks cs : List ClauseNo) (k : ClauseNo) → Out k → AreSifted Out ks cs → AreSifted Out (ks ++ k ∷ []) cs
