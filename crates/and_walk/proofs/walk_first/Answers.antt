use Rattle.std.proofs.Common.{◌∙◌}
use Rattle.and_program.specs.Loaded.{program_of}
use Rattle.and_walk.proofs.Finding.{first_found}
use Rattle.and_walk.proofs.walk_first.Goals as goal

pub returns-clause-first : goal.returns-clause-first
returns-clause-first g c =
    let f = c.in_ok-finder.finder in
    (first_found (program_of c.args.loaded.now) c.args.limit f.found f.most c.args.count
    (c.in_ok-finder.ensures.asks ∙ c.new.ensures.most) c.in_ok-finder.ensures.searched).0

pub returns-clause-few : goal.returns-clause-few
returns-clause-few g c =
    let f = c.in_ok-finder.finder in
    (first_found (program_of c.args.loaded.now) c.args.limit f.found f.most c.args.count
    (c.in_ok-finder.ensures.asks ∙ c.new.ensures.most) c.in_ok-finder.ensures.searched).1
