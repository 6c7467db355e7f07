use Rattle.std.proofs.Common.{ℕ, List, [], ◌∷◌, ◌++◌, take, ap, ◌∙◌}
use Rattle.and_branch_parts.specs.Branches.{Held}
use Rattle.and_branch.proofs.branch.Branch.end_key.Goals as goal

pub returns : goal.returns
returns g c =
    let old = c.args.self.now in
    let again = c.truncate.ensures ∙ ap (λ (h : Held). take c.args.length h.key) c.self.view_is in
    ap (λ (h : Held). record h { key = c.push.new.self }) c.self.view_is
    ∙ ap (λ (k : List ℕ). record old { key = k }) (c.in_ok-push.ensures.ok ∙ ap (λ (l : List ℕ). l ++ c.args.clause.0 ∷ []) again)
