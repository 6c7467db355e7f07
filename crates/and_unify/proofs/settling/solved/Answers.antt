use Rattle.std.proofs.Common.{[], ◌∷◌, ◌++◌, length, sym, subst, ◌∙◌}
use Rattle.std.specs.Prelude.{All, List, Some}
use Rattle.std.proofs.lemmas.List.Elements.{All-contains, All-pop, Contains-push}
use Rattle.and_model.specs.declared.reference.Ref.{Ref}
use Rattle.and_cells.specs.Ranges.{IsInRange}
use Rattle.and_unify.proofs.settling.solved.Goals as goal

pub note_ground-requires-clause-in_range : goal.note_ground-requires-clause-in_range
note_ground-requires-clause-in_range g c =
    let P = g.N.Naming.program in
    let words = length c.args.cells.now in
    let left = c.pop.new.self.items in
    let all = subst (All (IsInRange P words)) c.in-Some.ensures.items c.loop-at.invariant.met in
    subst (λ (row : List Ref). IsInRange P (length row) c.in-Some.at) (sym c.loop-at.invariant.same)
    (All-contains (IsInRange P words) (left ++ c.in-Some.at ∷ []) c.in-Some.at all (Contains-push left c.in-Some.at))

pub loop-at-preserved : goal.loop-at-preserved
loop-at-preserved g c =
    let P = g.N.Naming.program in
    let words = length c.args.cells.now in record {
      met = (All-pop (IsInRange P words) c.loop-at.met.items c.pop.new.self.items (Some c.in-Some.at) c.in-Some.ensures.items c.loop-at.invariant.met).0;
      same = c.note_ground.ensures ∙ c.loop-at.invariant.same;
    }
