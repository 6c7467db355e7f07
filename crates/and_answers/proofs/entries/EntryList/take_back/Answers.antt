use Rattle.std.proofs.Common.{map, ap, ◌∙◌, arith}
use Rattle.and_answers.specs.Kept.{entry_of}
use Rattle.and_answers.proofs.KeptLemmas.{taken_back, kept_part}
use Rattle.and_answers.proofs.entries.EntryList.take_back.Goals as goal

pub invariant_of-self : goal.invariant_of-self
invariant_of-self c = kept_part c.self.inside.lines c.self.inside.entries.items _ _ c.pop.ensures.rest c.self.invariant

pub returns : goal.returns
returns c = λ es e whole.
    let held = c.self.inside.entries.ok.0 in
    taken_back c.self.inside.entries.items _ _ es e (omega (arith, held)) c.pop.ensures.rest (ap (map entry_of) c.self.view_is ∙ whole)
