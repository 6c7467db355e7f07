use Rattle.std.proofs.Common.{sym, subst}
use Rattle.and_answers.specs.Kept.{AreCodesOf}
use Rattle.and_answers.proofs.BesideLemmas.{of_both}
use Rattle.and_answers.proofs.coded.Coded.merge.Goals as goal

pub invariant_of-result : goal.invariant_of-result
invariant_of-result c =
    subst (λ codes. AreCodesOf c.in-Ok.found codes) (sym c.in_ok-codes.ensures)
    (of_both c.self.inside.found c.other.inside.found c.in-Ok.found c.self.inside.codes c.other.inside.codes c.in-Ok.ensures.ok.entries
    c.self.invariant c.other.invariant)
