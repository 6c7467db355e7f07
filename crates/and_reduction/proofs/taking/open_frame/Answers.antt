use Rattle.std.proofs.Common.{ℕ, ◌≡◌, ◌++◌, replicate, sym, ap, ◌∙◌, subst}
use Rattle.and_model.specs.Programs.{clause_at, clause_weight}
use Rattle.and_model.specs.declared.reference.Ref.TheVariants.{Free}
use Rattle.and_branch_laws.specs.Settling.{widened}
use Rattle.and_step_laws.specs.Frames.{IsFrame}
use Rattle.and_step_laws.proofs.NewFrames.{frame_opened}
use Rattle.and_reduction.proofs.taking.open_frame.Goals as goal

pub returns-clause-frame : goal.returns-clause-frame
returns-clause-frame g c =
    let P = g.N.Naming.program in
    let row = c.args.cells.now in
    let clause = c.args._clause.0 in
    let wide = c.extend.new.self in
    let is : wide ≡ widened row (clause_weight (clause_at P.program clause)) =
    c.in_ok-extend.ensures.ok ∙ ap (λ (n : ℕ). row ++ replicate n Free) c.requires.weight in
    subst (λ (n : ℕ). IsFrame P wide clause n) (sym c.len-floor.ensures.value)
    (frame_opened P row wide clause c.len-floor.ensures.sound c.len-words.ensures.sound c.requires.settled is c.requires.fits)
