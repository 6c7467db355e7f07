use Rattle.std.proofs.Common.{refl, inl, inr}
use Rattle.and_heads.proofs.owing.owe.Goals as goal

pub returns-then-ends_at : goal.returns-then-ends_at
returns-then-ends_at c = inl (refl, c.ends_at.ensures c.if-ends_at.true)

pub returns : goal.returns
returns c = inr c.with.ensures
