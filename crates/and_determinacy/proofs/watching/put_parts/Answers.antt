use Rattle.std.proofs.Common.{ℕ, ◌+◌, ◌≡◌, ◌<◌, ◌++◌, ◌∷◌, [], List, length, map, take, get_or, sym, ap, ◌∙◌, subst, arith}
use Rattle.std.specs.Prelude.{Contains}
use Rattle.std.proofs.lemmas.List.{length-append, map-append, take_more, take_all, get_or_default}
use Rattle.and_model.specs.declared.reference.Ref.{Ref}
use Rattle.and_model.specs.declared.reference.Ref.TheVariants.{Node}
use Rattle.and_program.specs.Loaded.{arguments_at, skeleton_of}
use Rattle.and_cells.specs.Ranges.{NamedProgram}
use Rattle.and_cells.specs.Parts.{named, part_at, parts_of}
use Rattle.and_cell_laws.proofs.Images.{contains_image}
use Rattle.and_unify.proofs.TurnParts.{part_in_range}
use Rattle.and_determinacy.specs.Watching.{AreFollowed}
use Rattle.and_determinacy.proofs.Watched.{none_followed, one_followed, structure_followed}
use Rattle.and_determinacy.proofs.watching.put_parts.Goals as goal

pub loop-place-init : goal.loop-place-init
loop-place-init g c = record {
  low = c.requires.begun;
  are = none_followed g.N.Naming.program c.args.cells.now c.args.floor c.args.begun c.args.visits.now.items c.args.out.now.items;
}

pub follow_part-requires-clause-in_range : goal.follow_part-requires-clause-in_range
follow_part-requires-clause-in_range g c =
    let Q = named c.args.loaded.now in
    let base = c.args.base in
    let args = arguments_at (skeleton_of c.args.loaded.now) c.args.node.0 in
    let i = c.loop-place.place in
    let m : ℕ = get_or args i 0 in
    let low : i < length args = omega arith in
    let part_is : c.resolve-part.result ≡ part_at Q base m = c.resolve-part.ensures ∙ ap (part_at Q base) c.argument.ensures.node in
    let here = contains_image (part_at Q base) args m (i, low, sym (get_or_default args i 0 m low)) in
    part_in_range g.N.Naming.program (length c.args.cells.now) (Node c.args.node base) c.resolve-part.result c.requires.falls c.requires.in_range
    (subst (λ (R : NamedProgram). Contains (parts_of R (Node c.args.node base)) c.resolve-part.result) (sym c.requires.program)
    (subst (λ (r : Ref). Contains (parts_of Q (Node c.args.node base)) r) (sym part_is) here))

pub loop-place-preserved : goal.loop-place-preserved
loop-place-preserved g c =
    let P = g.N.Naming.program in
    let row = c.args.cells.now in
    let Q = named c.args.loaded.now in
    let base = c.args.base in
    let args = arguments_at (skeleton_of c.args.loaded.now) c.args.node.0 in
    let i = c.loop-place.place in
    let m : ℕ = get_or args i 0 in
    let low : i < length args = omega arith in
    let part_is : c.resolve-part.result ≡ part_at Q base m = c.resolve-part.ensures ∙ ap (part_at Q base) c.argument.ensures.node in
    let more : map (part_at Q base) (take (i + 1) args) ≡ map (part_at Q base) (take i args) ++ c.resolve-part.result ∷ [] =
    ap (map (part_at Q base)) (take_more args i 0 low) ∙ map-append (part_at Q base) (take i args) (m ∷ [])
    ∙ ap (λ (r : Ref). map (part_at Q base) (take i args) ++ r ∷ []) (sym part_is) in
    let inv = c.loop-place.invariant in
    let had = c.loop-place.out.items in
    let has = c.follow_part.new.out.items in
    let step = c.in_ok-follow_part.ensures in
    let long : length has ≡ length had + length step.gained = ap length step.listed ∙ length-append had step.gained in
    record {
      low = omega (arith, inv.low);
      are = subst (λ (ps : List Ref). AreFollowed P row c.args.floor c.args.begun ps c.args.visits.now.items c.follow_part.new.visits.items
          c.args.out.now.items has) (sym more)
          (one_followed P row c.args.floor c.args.begun (map (part_at Q base) (take i args)) c.resolve-part.result c.args.visits.now.items
          c.loop-place.visits.items c.follow_part.new.visits.items c.args.out.now.items had has inv.low inv.are step);
    }

pub returns : goal.returns
returns g c =
    let P = g.N.Naming.program in
    let row = c.args.cells.now in
    let Q = named c.args.loaded.now in
    let base = c.args.base in
    let args = arguments_at (skeleton_of c.args.loaded.now) c.args.node.0 in
    let all : take c.loop-place.place args ≡ args = take_all c.loop-place.place args (omega arith) in
    let visits = c.args.visits.now.items in
    let first = c.args.out.now.items in
    let are = subst (λ (ns : List ℕ). AreFollowed P row c.args.floor c.args.begun (map (part_at Q base) ns) visits c.loop-place.visits.items first
    c.loop-place.out.items) all c.loop-place.invariant.are in
    structure_followed P row c.args.floor c.args.begun c.requires.falls c.args.node base c.requires.in_range visits c.loop-place.visits.items first
    c.loop-place.out.items
    (subst (λ (R : NamedProgram). AreFollowed P row c.args.floor c.args.begun (parts_of R (Node c.args.node base)) visits c.loop-place.visits.items first
    c.loop-place.out.items) (sym c.requires.program) are)
