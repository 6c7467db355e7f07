use Rattle.std.proofs.Common.{ap, sym, ◌∙◌}
use Rattle.std.proofs.lemmas.List.{take-map}
use Rattle.and_model.specs.Codes.{numbers_of}
use Rattle.and_model.proofs.code.Code.truncate.Goals as goal

pub returns : goal.returns
returns c = rw (← c.self.view_is) (ap numbers_of c.truncate.ensures.items ∙ sym (take-map _ c.args.length c.self.inside.clauses.items))
