use Rattle.std.proofs.Common.{◌≡◌, ◌++◌, [], ◌∷◌, refl, sym, ap, ◌∙◌, subst}
use Rattle.std.specs.Prelude.{List, reverse}
use Rattle.and_program.specs.Skeletons.{AllFall}
use Rattle.and_model.specs.declared.reference.Ref.{Ref}
use Rattle.and_cells.specs.Ranges.{NamedProgram}
use Rattle.and_cells.specs.Ends.{Ends}
use Rattle.and_circles.specs.Explored.{done_from}
use Rattle.and_circles.specs.Walks.{Walks}
use Rattle.and_circles.specs.declared.walk.Visit.{Visit}
use Rattle.and_circles.specs.declared.walk.Visit.TheVariants.{Enter}
use Rattle.and_circles.proofs.Keeping.{first_part, second_part}
use Rattle.and_circles.proofs.Walking.{begins}
use Rattle.and_circles.proofs.Opening.{emptied}
use Rattle.and_circles.proofs.Turning.{at_end}
use Rattle.and_circles.proofs.walk.Walk.descend.Goals as goal

pub loop-visit-init : goal.loop-visit-init
loop-visit-init g c =
    let P = g.N.Naming.program in
    let w = c.args.self.now in
    let falls = subst (λ (Q : NamedProgram). AllFall 0 Q.skeleton.nodes) (sym c.requires.program) c.skeleton_is_of_the_program.ensures.skeleton.0 in
    let rested = c.requires.rested in
    let pushed : c.push.new.self.items ≡ Enter c.args.root ∷ [] =
    ◌∙◌ {b = w.visits.items ++ Enter c.args.root ∷ []} c.in_ok-push.ensures.items (ap (λ (vs : List Visit). vs ++ Enter c.args.root ∷ []) rested.rest.1) in
    let E : Ref → Type 0 = Ends P c.args.cells.now w.floor w.halves in
    let marked : List Ref = done_from 0 w.marks in
    let done_end = first_part E marked w.structures rested.finished in
    record {
      walking = subst (λ (vs : List Visit). Walks P c.args.cells.now w.floor w.halves c.args.root w.marks (reverse vs)) (sym pushed)
          (begins P c.args.cells.now w.floor w.halves c.args.root w.marks w.marks falls rested.sound done_end rested.rest.0 (λ c. refl) rested.room
          c.requires.in_range);
      stays = (refl, refl);
      ended = second_part E marked w.structures rested.finished;
    }

pub returns-clause-ends : goal.returns-clause-ends
returns-clause-ends g c = λ e.
    let i = c.loop-visit.invariant in
    let all = at_end g.N.Naming.program c.args.cells.now c.args.root c.args.self.now c.loop-visit.self i.walking i.ended i.stays
    (emptied c.loop-visit.self.visits c.in_default.ensures.cases.0) in
    (all.0, (all.1, emptied c.pop.new.self c.in_default.ensures.cases.1), all.2)
