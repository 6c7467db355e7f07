use Rattle.std.proofs.Common.{rules, ◌≡◌, ◌++◌, ◌∷◌, [], ◌∙◌, ap, Some}
use Rattle.and_gathering.specs.Gathering.{present}
use Rattle.and_gathering.proofs.Present.{present_more}
use Rattle.and_gathering.proofs.links.Links.add.Goals as goal

pub returns : goal.returns
returns c = λ _.
    let pushed : c.push.new.self.items ≡ c.args.self.now.taken.items ++ Some c.args.taken ∷ [] = search rules in
    ap present pushed ∙ present_more c.args.self.now.taken.items c.args.taken
