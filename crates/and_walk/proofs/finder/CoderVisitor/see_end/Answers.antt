use Rattle.std.proofs.Common.{◌≡◌, refl, sym, ◌∙◌}
use Rattle.std.proofs.lemmas.Result.{on_ok_weaker}
use Rattle.and_answers.specs.Kept.{outcome_with}
use Rattle.and_walk.proofs.Finding.{found_last, some_same}
use Rattle.and_walk.proofs.finder.CoderVisitor.see_end.Goals as goal

pub returns-in-Some-clause-told : goal.returns-in-Some-clause-told
returns-in-Some-clause-told c = λ seen has.
    let s = c.args.self.now in
    let same : c.in-Some.code ≡ c.args._named.value =
    some_same c.in-Some.code c.args._named.value (sym c.in-Some.is ∙ c.requires.code refl) in
    on_ok_weaker c.add.result (found_last s.most s.latest c.add.new.self seen c.args._depth c.in-Some.code c.args._named.value
    (outcome_with c.args.floundered c.args.line) has c.requires.going same c.add.ensures.end) c.add.ensures.ok
