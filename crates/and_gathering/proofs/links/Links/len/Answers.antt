use Rattle.std.proofs.Common.{arith}
use Rattle.and_gathering.proofs.Present.{present_short}
use Rattle.and_gathering.proofs.links.Links.len.Goals as goal

pub returns : goal.returns
returns c = let h = present_short c.args.self.now.taken.items in omega (arith, h, c.len.ensures)
