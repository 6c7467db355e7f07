use Rattle.std.proofs.Common.{ℕ, ◌+◌, ◌≡◌, ◌<◌, ◌++◌, ◌∷◌, [], true, List, length, take, get_or, sym, ap, ◌∙◌, subst, arith, rules}
use Rattle.std.specs.Prelude.{◌≢◌, All, Contains}
use Rattle.std.proofs.lemmas.List.{take_more, take_all, get_or_default}
use Rattle.and_model.specs.declared.reference.Ref.{Ref}
use Rattle.and_model.specs.declared.reference.Ref.TheVariants.{Node}
use Rattle.and_program.specs.Loaded.{arguments_at, skeleton_of}
use Rattle.and_cells.specs.Ranges.{NamedProgram, IsInRange}
use Rattle.and_cells.specs.Parts.{named, part_at, parts_of}
use Rattle.and_cell_laws.proofs.Images.{contains_image}
use Rattle.and_unify.proofs.TurnParts.{part_in_range}
use Rattle.and_determinacy.specs.Watching.{AreFreeArguments}
use Rattle.and_determinacy.proofs.FreeCalls.{none_yet, one_more}
use Rattle.and_determinacy.proofs.rests.list_free.Goals as goal

pub loop-place-init : goal.loop-place-init
loop-place-init g c =
    subst (AreFreeArguments (named c.args.loaded.now) c.args.cells.now c.args.base []) (sym c.requires.empty)
    (none_yet (named c.args.loaded.now) c.args.cells.now c.args.base)

pub is_another-is_new-requires : goal.is_another-is_new-requires
is_another-is_new-requires g c =
    let Q = named c.args.loaded.now in
    let base = c.args.base in
    let args = arguments_at (skeleton_of c.args.loaded.now) c.args.node.0 in
    let i = c.loop-place.place in
    let m : ℕ = get_or args i 0 in
    let low : i < length args = omega arith in
    let part_is : c.resolve-part.result ≡ part_at Q base m = c.resolve-part.ensures ∙ ap (part_at Q base) c.argument.ensures.node in
    let here = contains_image (part_at Q base) args m (i, low, sym (get_or_default args i 0 m low)) in
    let fits = part_in_range g.N.Naming.program (length c.args.cells.now) (Node c.args.node base) c.resolve-part.result c.requires.falls
    c.requires.in_range
    (subst (λ (R : NamedProgram). Contains (parts_of R (Node c.args.node base)) c.resolve-part.result) (sym c.requires.program)
    (subst (λ (r : Ref). Contains (parts_of Q (Node c.args.node base)) r) (sym part_is) here)) in
    subst (IsInRange g.N.Naming.program (length c.args.cells.now)) c.in-Cell.is fits

pub loop-place-preserved : goal.loop-place-preserved
loop-place-preserved g c =
    let Q = named c.args.loaded.now in
    let base = c.args.base in
    let args = arguments_at (skeleton_of c.args.loaded.now) c.args.node.0 in
    let i = c.loop-place.place in
    let m : ℕ = get_or args i 0 in
    let low : i < length args = omega arith in
    let part_is : c.resolve-part.result ≡ part_at Q base m = c.resolve-part.ensures ∙ ap (part_at Q base) c.argument.ensures.node in
    let here = contains_image (part_at Q base) args m (i, low, sym (get_or_default args i 0 m low)) in
    let fits = part_in_range g.N.Naming.program (length c.args.cells.now) (Node c.args.node base) c.resolve-part.result c.requires.falls
    c.requires.in_range
    (subst (λ (R : NamedProgram). Contains (parts_of R (Node c.args.node base)) c.resolve-part.result) (sym c.requires.program)
    (subst (λ (r : Ref). Contains (parts_of Q (Node c.args.node base)) r) (sym part_is) here)) in
    let under = subst (IsInRange g.N.Naming.program (length c.args.cells.now)) c.in-Cell.is fits in
    let new : c.is_another-is_new.result ≡ true = search rules in
    let cell = c.in-Cell.cell in
    subst (AreFreeArguments Q c.args.cells.now base (take (i + 1) args)) (sym c.in_ok-push-in-Cell.ensures.items)
    (subst (λ (ns : List ℕ). AreFreeArguments Q c.args.cells.now base ns (c.loop-place.out.items ++ cell ∷ [])) (sym (take_more args i 0 low))
    (one_more Q c.args.cells.now base (take i args) m c.loop-place.out.items cell c.loop-place.invariant (sym part_is ∙ c.in-Cell.is) under
    (c.is_another-is_new.ensures.free new)
    (subst (All (λ (other : ℕ). other ≢ cell)) c.deref.ensures.value (c.is_another-is_new.ensures.another new))))

pub returns : goal.returns
returns g c = λ is.
    let args = arguments_at (skeleton_of c.args.loaded.now) c.args.node.0 in
    let row = c.args.cells.now in
    let base = c.args.base in
    let out = c.loop-place.out.items in
    let all : take c.loop-place.place args ≡ args = take_all c.loop-place.place args (omega arith) in
    subst (λ (R : NamedProgram). AreFreeArguments R row base (arguments_at R.skeleton c.args.node.0) out) (sym c.requires.program)
    (subst (λ (ns : List ℕ). AreFreeArguments (named c.args.loaded.now) row base ns out) all c.loop-place.invariant)
