use Rattle.and_drafts.proofs.Drafting.{root_there}
use Rattle.and_drafts.proofs.draft.ClauseDraft.root.Goals as goal

pub returns-clause-there : goal.returns-clause-there
returns-clause-there c =
    root_there c.args.self.now.parts.items c.args.self.now.finished.items c.index.result.now c.args.self.now.formed c.requires c.index.ensures
