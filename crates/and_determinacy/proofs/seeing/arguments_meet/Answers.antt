use Rattle.std.proofs.Common.{ℕ, ◌+◌, ◌≡◌, ◌<◌, ◌++◌, ◌∷◌, [], Ok, List, length, take, get_or, sym, ap, ◌∙◌, subst, arith, rules}
use Rattle.std.proofs.lemmas.List.{take_more, take_all, length-take}
use Rattle.and_model.specs.Terms.{framed}
use Rattle.and_model.specs.Solutions.{Equation}
use Rattle.and_model.specs.declared.reference.Ref.{Ref}
use Rattle.and_program.specs.Loaded.{arguments_at, skeleton_of}
use Rattle.and_program.specs.Skeletons.{node_term}
use Rattle.and_cells.specs.Ranges.{NamedProgram}
use Rattle.and_cells.specs.Parts.{named, part_at}
use Rattle.and_branch_laws.specs.Judging.{outside}
use Rattle.and_determinacy.specs.Seeing.{Meets, IsPart, argument_pairs, ref_term}
use Rattle.and_determinacy.proofs.SureParts.{argument_part, pairs_more}
use Rattle.and_determinacy.specs.Parting.{ArePartedBy}
use Rattle.and_determinacy.specs.declared.seeing.Sight.TheVariants.{Fits}
use Rattle.and_determinacy.proofs.Parted.{pairs_parted}
use Rattle.and_determinacy.proofs.SureSteps.{nothing_meets, both_meet}
use Rattle.and_determinacy.proofs.seeing.arguments_meet.Goals as goal

pub loop-place-init : goal.loop-place-init
loop-place-init g c = nothing_meets g.N.Naming.program c.args.cells.now c.args.held.now.items c.args.given.now.items

pub argument_meets-requires-clause-usable : goal.argument_meets-requires-clause-usable
argument_meets-requires-clause-usable g c = c.loop-place.invariant.usable c.requires.usable

pub argument_meets-requires-clause-in_range : goal.argument_meets-requires-clause-in_range
argument_meets-requires-clause-in_range g c =
    let P = g.N.Naming.program in
    let Q = named c.args.loaded.now in
    let words = length c.args.cells.now in
    let base = c.args.base in
    let args = arguments_at (skeleton_of c.args.loaded.now) c.args.node.0 in
    let i = c.loop-place.place in
    let low : i < length args = omega (arith, c.requires.as_many) in
    subst (IsPart P words) (sym (c.resolve-part.ensures ∙ ap (part_at Q base) c.argument.ensures.node))
    (argument_part P Q c.requires.program c.requires.falls words c.args.node base i c.requires.in_range low)

pub loop-place-preserved : goal.loop-place-preserved
loop-place-preserved g c =
    let P = g.N.Naming.program in
    let Q = named c.args.loaded.now in
    let row = c.args.cells.now in
    let base = c.args.base in
    let args = arguments_at (skeleton_of c.args.loaded.now) c.args.node.0 in
    let heads = arguments_at (skeleton_of c.args.loaded.now) c.args.head.0 in
    let i = c.loop-place.place in
    let m : ℕ = get_or args i 0 in
    let h : ℕ = get_or heads i 0 in
    let low : i < length args = omega (arith, c.requires.as_many) in
    let lower : i < length heads = omega arith in
    let part_is : c.resolve-part.result ≡ part_at Q base m = c.resolve-part.ensures ∙ ap (part_at Q base) c.argument.ensures.node in
    let met : c.in_ok-met.met ≡ Fits = search rules in
    let first = take i args in
    let others = take i heads in
    let even : length first ≡ length others = omega (arith, length-take i args, length-take i heads) in
    let pair : Equation = (ref_term P (part_at P base m), framed outside (node_term P.skeleton.nodes h)) in
    let old = c.loop-place.held.items in
    let new = c.argument_meets.new.held.items in
    let given = c.loop-place.given.items in
    let gives = c.argument_meets.new.given.items in
    let step : Meets P row old new given gives (pair ∷ []) =
    subst (λ (r : Ref). Meets P row old new given gives ((ref_term P r, framed outside (node_term P.skeleton.nodes h)) ∷ []))
    (part_is ∙ ap (λ (R : NamedProgram). part_at R base m) (sym c.requires.program))
    (subst (λ (k : ℕ). Meets P row old new given gives ((ref_term P c.resolve-part.result, framed outside (node_term P.skeleton.nodes k)) ∷ []))
    c.argument-asked.ensures.node (c.in_ok-met.ensures.meets (ap (λ b. Ok b) met))) in
    let all = both_meet P row c.args.held.now.items old new c.args.given.now.items given gives (argument_pairs P base first others) (pair ∷ [])
    c.loop-place.invariant step in
    let pairs : argument_pairs P base (take (i + 1) args) (take (i + 1) heads) ≡ argument_pairs P base first others ++ pair ∷ [] =
    ap (λ (ns : List ℕ). argument_pairs P base ns (take (i + 1) heads)) (take_more args i 0 low)
    ∙ ap (argument_pairs P base (first ++ m ∷ [])) (take_more heads i 0 lower) ∙ pairs_more P c.requires.falls base first others m h even in
    subst (Meets P row c.args.held.now.items new c.args.given.now.items gives) (sym pairs) all

pub returns-then-not-is_fit-clause-apart : goal.returns-then-not-is_fit-clause-apart
returns-then-not-is_fit-clause-apart g c = λ e.
    let P = g.N.Naming.program in
    let Q = named c.args.loaded.now in
    let row = c.args.cells.now in
    let base = c.args.base in
    let args = arguments_at (skeleton_of c.args.loaded.now) c.args.node.0 in
    let heads = arguments_at (skeleton_of c.args.loaded.now) c.args.head.0 in
    let i = c.loop-place.place in
    let m : ℕ = get_or args i 0 in
    let h : ℕ = get_or heads i 0 in
    let low : i < length args = omega (arith, c.requires.as_many) in
    let lower : i < length heads = omega arith in
    let part_is : c.resolve-part.result ≡ part_at Q base m = c.resolve-part.ensures ∙ ap (part_at Q base) c.argument.ensures.node in
    let first = take i args in
    let others = take i heads in
    let even : length first ≡ length others = omega (arith, length-take i args, length-take i heads) in
    let pair : Equation = (ref_term P (part_at P base m), framed outside (node_term P.skeleton.nodes h)) in
    let old = c.loop-place.held.items in
    let new = c.argument_meets.new.held.items in
    let given = c.loop-place.given.items in
    let gives = c.argument_meets.new.given.items in
    let step : ArePartedBy P row given (pair ∷ []) =
    subst (λ (r : Ref). ArePartedBy P row given ((ref_term P r, framed outside (node_term P.skeleton.nodes h)) ∷ []))
    (part_is ∙ ap (λ (R : NamedProgram). part_at R base m) (sym c.requires.program))
    (subst (λ (k : ℕ). ArePartedBy P row given ((ref_term P c.resolve-part.result, framed outside (node_term P.skeleton.nodes k)) ∷ []))
    c.argument-asked.ensures.node (c.in_ok-met.ensures.apart e)) in
    let pairs : argument_pairs P base (take (i + 1) args) (take (i + 1) heads) ≡ argument_pairs P base first others ++ pair ∷ [] =
    ap (λ (ns : List ℕ). argument_pairs P base ns (take (i + 1) heads)) (take_more args i 0 low)
    ∙ ap (argument_pairs P base (first ++ m ∷ [])) (take_more heads i 0 lower) ∙ pairs_more P c.requires.falls base first others m h even in
    subst (λ (R : NamedProgram). ArePartedBy P row c.args.given.now.items
    (argument_pairs P base (arguments_at R.skeleton c.args.node.0) (arguments_at R.skeleton c.args.head.0))) (sym c.requires.program)
    (pairs_parted P row c.requires.falls base i args heads pair c.args.held.now.items old c.args.given.now.items given pairs c.loop-place.invariant step)

pub returns-clause-meets : goal.returns-clause-meets
returns-clause-meets g c = λ e.
    let P = g.N.Naming.program in
    let row = c.args.cells.now in
    let args = arguments_at (skeleton_of c.args.loaded.now) c.args.node.0 in
    let heads = arguments_at (skeleton_of c.args.loaded.now) c.args.head.0 in
    let i = c.loop-place.place in
    let held = c.args.held.now.items in
    let has = c.loop-place.held.items in
    let given = c.args.given.now.items in
    let gives = c.loop-place.given.items in
    let all : take i args ≡ args = take_all i args (omega (arith, c.requires.as_many)) in
    let whole : take i heads ≡ heads = take_all i heads (omega arith) in
    subst (λ (R : NamedProgram). Meets P row held has given gives
    (argument_pairs P c.args.base (arguments_at R.skeleton c.args.node.0) (arguments_at R.skeleton c.args.head.0))) (sym c.requires.program)
    (subst (λ (hs : List ℕ). Meets P row held has given gives (argument_pairs P c.args.base args hs)) whole
    (subst (λ (ns : List ℕ). Meets P row held has given gives (argument_pairs P c.args.base ns (take i heads))) all c.loop-place.invariant))
