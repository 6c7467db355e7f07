use Rattle.std.proofs.Common.{ap}
use Rattle.and_drafts.specs.Drafts.{Draft, draft_of}
use Rattle.and_reader.proofs.TermLemmas.{on_ok, finished_one}
use Rattle.and_reader.proofs.emitting.finish.Goals as goal

pub returns-clause-ok : goal.returns-clause-ok
returns-clause-ok c ws rest is many =
    on_ok c.compound.result
    (λ d. finished_one (draft_of c.args.draft.now).finished (draft_of c.compound.new.self).finished c.args.name.now c.args.count ws rest is many
    (ap (λ (x : Draft). x.finished) d))
    c.compound.ensures.ok
