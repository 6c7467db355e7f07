use Rattle.std.proofs.Common.{[], Some, ℕ, length, refl, ap, sym, ◌++◌, ◌∙◌}
use Rattle.std.proofs.lemmas.List.{length-map}
use Rattle.and_pending.specs.Pending.{Pending, goals_of}
use Rattle.and_code.specs.Written.{written}
use Rattle.and_branch_parts.specs.Branches.{Held}
use Rattle.and_branch_parts.specs.Watching.{all_watched}
use Rattle.and_branch_parts.proofs.KeptOrigins.{goes_nowhere}
use Rattle.and_branch.proofs.OutlinedBranches.{outline_is}
use Rattle.and_branch.proofs.branch.Branch.give_outline.Goals as goal

pub returns-clause-outline : goal.returns-clause-outline
returns-clause-outline g c =
    let goals = sym c.give-goals.ensures.given in
    outline_is _ c.args.self.now _ c.self.view_is (record {
      left = ap (λ (p : Pending). goals_of p.left) goals;
      right = ap (λ (p : Pending). goals_of p.right) goals;
      watches = ap (λ (p : Pending). all_watched (p.left ++ p.right)) goals;
      used = refl;
      limit = refl;
      is_failed = refl;
      trail = sym c.give-trail.ensures.given;
      words = sym c.len-words.ensures.value;
      count = length-map c.self.inside.reductions written ∙ sym c.len-count.ensures;
    })

pub returns-clause-back : goal.returns-clause-back
returns-clause-back g c =
    goes_nowhere c.args.self.now _ (ap (λ (h : Held). h.row) c.self.view_is) (ap (λ (h : Held). h.reductions) c.self.view_is)
    (c.give-trail.ensures.begun ∙ ap (λ (n : ℕ). record { mark = Some n; cells = [] })
    (c.len-words.ensures.value ∙ ap (λ (h : Held). length h.row) c.self.view_is))

pub returns-clause-key : goal.returns-clause-key
returns-clause-key g c = ap (λ (h : Held). h.key) c.self.view_is
