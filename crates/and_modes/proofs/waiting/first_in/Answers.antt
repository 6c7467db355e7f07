use Rattle.std.proofs.Common.{◌∙◌, ap, map}
use Rattle.and_program.specs.Loaded.{skeleton_of}
use Rattle.and_program.specs.Skeletons.{node_term}
use Rattle.and_modes.specs.Known.{environment}
use Rattle.and_modes.specs.Walked.{unframed}
use Rattle.and_modes.specs.Waiting.{first_unknown}
use Rattle.and_modes.proofs.Firsts.{numbers_found}
use Rattle.and_modes.proofs.waiting.first_in.Goals as goal

pub returns : goal.returns
returns c =
    c.first_of.ensures
    ∙ ap (first_unknown (environment c.args.known.now.levels))
    (numbers_found c.deref.result.now (node_term (skeleton_of c.args.loaded.now).nodes c.args.node.0)
    (ap (map unframed) c.deref.ensures.value ∙ c.in_ok-found.ensures))
