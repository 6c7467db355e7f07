use Rattle.std.proofs.Common.{ℕ, ◌≡◌, ◌<◌, ◌∷◌, [], Ok, true, length, take, get_or, sym, ap, subst, arith, rules}
use Rattle.std.proofs.lemmas.List.{take_more, take_all}
use Rattle.and_program.specs.Loaded.{arguments_at, skeleton_of}
use Rattle.and_cells.specs.Ranges.{NamedProgram}
use Rattle.and_determinacy.specs.Seeing.{AreLacking}
use Rattle.and_determinacy.proofs.SureSteps.{nothing_lacks, both_lack}
use Rattle.and_determinacy.proofs.seeing.parts_lack.Goals as goal

pub loop-place-init : goal.loop-place-init
loop-place-init g c = nothing_lacks g.N.Naming.program c.args.cells.now c.args.held.now.items c.args.given.now.items

pub loop-place-preserved : goal.loop-place-preserved
loop-place-preserved g c =
    let P = g.N.Naming.program in
    let row = c.args.cells.now in
    let args = arguments_at (skeleton_of c.args.loaded.now) c.args.asked.0 in
    let i = c.loop-place.place in
    let h : ℕ = get_or args i 0 in
    let low : i < length args = omega arith in
    let lacking : c.in_ok-lacks.lacks ≡ true = search rules in
    let step = subst (λ (k : ℕ). AreLacking P row c.loop-place.held.items c.part_lacks.new.held.items c.loop-place.given.items
    c.part_lacks.new.given.items (k ∷ [])) c.argument.ensures.node (c.in_ok-lacks.ensures (ap (λ b. Ok b) lacking)) in
    subst (AreLacking P row c.args.held.now.items c.part_lacks.new.held.items c.args.given.now.items c.part_lacks.new.given.items)
    (sym (take_more args i 0 low))
    (both_lack P row c.args.held.now.items c.loop-place.held.items c.part_lacks.new.held.items c.args.given.now.items c.loop-place.given.items
    c.part_lacks.new.given.items (take i args) h c.loop-place.invariant step)

pub returns : goal.returns
returns g c = λ e.
    let P = g.N.Naming.program in
    let args = arguments_at (skeleton_of c.args.loaded.now) c.args.asked.0 in
    let all : take c.loop-place.place args ≡ args = take_all c.loop-place.place args (omega arith) in
    subst (λ (Q : NamedProgram). AreLacking P c.args.cells.now c.args.held.now.items c.loop-place.held.items c.args.given.now.items
    c.loop-place.given.items (arguments_at Q.skeleton c.args.asked.0)) (sym c.requires.program)
    (subst (AreLacking P c.args.cells.now c.args.held.now.items c.loop-place.held.items c.args.given.now.items c.loop-place.given.items)
    all c.loop-place.invariant)
