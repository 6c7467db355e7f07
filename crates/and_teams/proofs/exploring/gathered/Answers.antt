use Rattle.std.proofs.Common.{◌≡◌, ◌++◌, ◌∷◌, [], append-nil, append_assoc, sym, ap, subst, ◌∙◌, arith}
use Rattle.std.proofs.lemmas.List.{nil_from_length}
use Rattle.and_teams.specs.Ended.{AllFound}
use Rattle.and_teams.proofs.exploring.gathered.Goals as goal

pub loop-done-init : goal.loop-done-init
loop-done-init g c =
    let e = c.new-found.ensures in
    ([], sym (append-nil c.args.worked.items), (e.entries, e.end.0, e.end.1, e.end.2, c.new-passes.ensures))

pub loop-done-preserved : goal.loop-done-preserved
loop-done-preserved g c =
    let i = c.loop-done.invariant in
    let w = c.in-Some.done in
    let more = c.in_ok-more.ensures in (
      w ∷ i.0,
      i.1 ∙ ap (λ l. l ++ i.0) c.in-Some.ensures.items ∙ append_assoc c.pop.new.self.items (w ∷ []) i.0,
      (more.0, c.loop-done.found, c.loop-done.passes, i.2, more.1, more.2),
    )

pub returns : goal.returns
returns g c =
    let i = c.loop-done.invariant in
    let none = c.in_default.ensures.cases.0 in
    let empty : c.loop-done.worked.items ≡ [] = nil_from_length c.loop-done.worked.items (omega (arith, c.loop-done.worked.ok.0, none)) in
    subst (λ ws. AllFound ws c.loop-done.found c.loop-done.passes) (sym (i.1 ∙ ap (λ l. l ++ i.0) empty)) i.2
