use Rattle.std.proofs.Common.{refl, arith}
use Rattle.and_determinacy.proofs.judging.two_left.Goals as goal

pub returns-in-None : goal.returns-in-None
returns-in-None c =
    let first = c.in_ok-first.first in
    let second = c.in_ok-second.second in
    record {
      order = let after = c.in_ok-second.ensures.after second refl in omega arith;
      there = c.in_ok-second.ensures.there second refl;
      before = c.in_ok-first.ensures.first first refl;
      between = c.in_ok-second.ensures.first second refl;
      behind = c.in-None.ensures.none refl;
    }
