use Rattle.std.proofs.Common.{◌∙◌}
use Rattle.and_program.specs.Loaded.{program_of}
use Rattle.and_walk.proofs.Finding.{all_found}
use Rattle.and_walk.proofs.walk_watched.Goals as goal

pub returns-clause-found : goal.returns-clause-found
returns-clause-found g c =
    let f = c.in_ok-finder.finder in
    (all_found (program_of c.args.loaded.now) c.args.limit f.found f.most (c.in_ok-finder.ensures.asks ∙ c.new.ensures.most)
    c.in_ok-finder.ensures.searched).0

pub returns-clause-walked : goal.returns-clause-walked
returns-clause-walked g c =
    let f = c.in_ok-finder.finder in
    (all_found (program_of c.args.loaded.now) c.args.limit f.found f.most (c.in_ok-finder.ensures.asks ∙ c.new.ensures.most)
    c.in_ok-finder.ensures.searched).1
