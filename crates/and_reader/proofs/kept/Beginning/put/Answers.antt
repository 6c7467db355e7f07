use Rattle.std.proofs.Common.{refl, subst}
use Rattle.and_clauses.specs.Asking.{IsAsking, IsOnGround, clauses_table, ground_of}
use Rattle.and_drafts.specs.Drafts.{draft_of}
use Rattle.and_reader.proofs.kept.Beginning.put.Goals as goal

pub returns-in-Put-clause-put : goal.returns-in-Put-clause-put
returns-in-Put-clause-put c =
    let asked = subst (IsAsking (clauses_table c.args.self.clauses) (draft_of c.args.query.now)) c.in-Put.is c.in_ok-asked.ensures.asked in
    (refl, refl, asked.0, asked.1)

pub returns-in-Put-clause-ground : goal.returns-in-Put-clause-ground
returns-in-Put-clause-ground c = subst (IsOnGround (ground_of c.args.self.clauses)) c.in-Put.is c.in_ok-asked.ensures.ground

pub returns-in-Left-clause-put : goal.returns-in-Left-clause-put
returns-in-Left-clause-put c =
    (refl, refl, subst (IsAsking (clauses_table c.args.self.clauses) (draft_of c.args.query.now)) c.in-Left.is c.in_ok-asked.ensures.asked)

pub returns-in-Left-clause-ground : goal.returns-in-Left-clause-ground
returns-in-Left-clause-ground c = subst (IsOnGround (ground_of c.args.self.clauses)) c.in-Left.is c.in_ok-asked.ensures.ground
