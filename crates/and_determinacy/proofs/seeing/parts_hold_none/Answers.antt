use Rattle.std.proofs.Common.{ℕ, ◌+◌, ◌≡◌, ◌<◌, ◌++◌, ◌∷◌, [], Ok, true, length, map, take, get_or, sym, ap, ◌∙◌, subst, arith, rules}
use Rattle.std.proofs.lemmas.List.{map-append, take_more}
use Rattle.and_model.specs.declared.reference.Ref.{Ref}
use Rattle.and_program.specs.Loaded.{arguments_at, skeleton_of}
use Rattle.and_cells.specs.Ranges.{NamedProgram}
use Rattle.and_cells.specs.Parts.{named, part_at}
use Rattle.and_determinacy.specs.Seeing.{HoldNone, IsPart}
use Rattle.and_determinacy.proofs.SureParts.{argument_part}
use Rattle.and_determinacy.proofs.SureRefs.{nothing_holds, both_hold}
use Rattle.and_determinacy.proofs.seeing.parts_hold_none.Goals as goal

pub loop-place-init : goal.loop-place-init
loop-place-init g c = nothing_holds g.N.Naming.program c.args.cells.now c.args.held.now.items

pub part_holds_none-requires-clause-part : goal.part_holds_none-requires-clause-part
part_holds_none-requires-clause-part g c =
    let P = g.N.Naming.program in
    let Q = named c.args.loaded.now in
    let words = length c.args.cells.now in
    let base = c.args.base in
    let args = arguments_at (skeleton_of c.args.loaded.now) c.args.node.0 in
    let i = c.loop-place.place in
    let low : i < length args = omega (arith, c.requires.count) in
    subst (IsPart P words) (sym (c.resolve-part.ensures ∙ ap (part_at Q base) c.argument.ensures.node))
    (argument_part P Q c.requires.program c.requires.falls words c.args.node base i c.requires.in_range low)

pub loop-place-preserved : goal.loop-place-preserved
loop-place-preserved g c =
    let P = g.N.Naming.program in
    let Q = named c.args.loaded.now in
    let row = c.args.cells.now in
    let base = c.args.base in
    let args = arguments_at (skeleton_of c.args.loaded.now) c.args.node.0 in
    let i = c.loop-place.place in
    let m : ℕ = get_or args i 0 in
    let low : i < length args = omega (arith, c.requires.count) in
    let part_is : c.resolve-part.result ≡ part_at Q base m = c.resolve-part.ensures ∙ ap (part_at Q base) c.argument.ensures.node in
    let holding : c.in_ok-none.none ≡ true = search rules in
    let new = c.part_holds_none.new.held.items in
    let more : map (part_at Q base) (take (i + 1) args) ≡ map (part_at Q base) (take i args) ++ c.resolve-part.result ∷ [] =
    ap (map (part_at Q base)) (take_more args i 0 low) ∙ map-append (part_at Q base) (take i args) (m ∷ [])
    ∙ ap (λ (r : Ref). map (part_at Q base) (take i args) ++ r ∷ []) (sym part_is) in
    subst (HoldNone P row c.args.held.now.items new) (sym more)
    (both_hold P row c.args.held.now.items c.loop-place.held.items new (map (part_at Q base) (take i args)) c.resolve-part.result
    c.loop-place.invariant (c.in_ok-none.ensures (ap (λ b. Ok b) holding)))

pub returns : goal.returns
returns g c = λ e.
    let P = g.N.Naming.program in
    let Q = named c.args.loaded.now in
    let row = c.args.cells.now in
    let base = c.args.base in
    let held = c.args.held.now.items in
    let has = c.loop-place.held.items in
    let args = arguments_at (skeleton_of c.args.loaded.now) c.args.node.0 in
    let all : c.loop-place.place ≡ c.args.count = omega arith in
    let here = subst (λ (n : ℕ). HoldNone P row held has (map (part_at Q base) (take n args))) all c.loop-place.invariant in
    subst (λ (R : NamedProgram). HoldNone P row held has (map (part_at R base) (take c.args.count (arguments_at R.skeleton c.args.node.0))))
    (sym c.requires.program) here
