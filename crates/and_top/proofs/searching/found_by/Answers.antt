use Rattle.and_program.specs.Loaded.{program_of}
use Rattle.and_replies.proofs.TopLemmas.{found_wanted}
use Rattle.and_top.proofs.searching.found_by.Goals as goal

pub returns : goal.returns
returns g c =
    found_wanted (program_of c.args.loaded.now) c.args.limit c.args.wanted c.explored_by.result c.explored_by.ensures
