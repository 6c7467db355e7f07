use Rattle.std.proofs.Common.{◌≡◌, List, [], ◌∷◌, ◌++◌, ◌∙◌, length, ap, sym, subst}
use Rattle.and_model.specs.declared.reference.Ref.{Ref}
use Rattle.and_model.specs.declared.reference.Ref.TheVariants.{Number}
use Rattle.and_cells.specs.Parts.{part_at}
use Rattle.and_branch_laws.proofs.Loading.{resolved_is}
use Rattle.and_cells.specs.Rows.{plain}
use Rattle.and_cells.specs.Seen.{word_at}
use Rattle.and_unify.specs.declared.pairs.Pair.{Pair}
use Rattle.and_unify.specs.Pairs.{AreInRange, AreWritten, NameNoHalf}
use Rattle.and_unify.specs.Settling.{AreNewFrom, Settles, SetsPlaces}
use Rattle.and_unify.proofs.SettlingDone.{places_stay}
use Rattle.and_reduction.specs.Asked.{the_pair}
use Rattle.and_reduction.proofs.NotedSteps.{nothing_settled}
use Rattle.and_reduction.proofs.settling.settle_pair.Goals as goal

pub settle_noted-requires-clause-in_range : goal.settle_noted-requires-clause-in_range
settle_noted-requires-clause-in_range g c =
    let P = g.N.Naming.program in
    let left = c.resolve-left.result in
    let pair : Pair = record { left = left; right = Number c.args.pair } in
    let found = resolved_is P c.args.loaded.now c.args.node c.args.base left c.requires.program c.resolve-left.ensures in
    let is : c.push.new.self ≡ the_pair (part_at P c.args.base c.args.node.0) (Number c.args.pair) =
    c.in-Ok.ensures.ok ∙ ap (λ (pairs : List Pair). pairs ++ pair ∷ []) c.clear.ensures ∙ ap (λ (r : Ref). the_pair r (Number c.args.pair)) found in
    subst (AreInRange g.N.Naming.program (length c.args.cells.now)) (sym is) c.requires.in_range

pub settle_noted-requires-clause-written : goal.settle_noted-requires-clause-written
settle_noted-requires-clause-written g c =
    let P = g.N.Naming.program in
    let left = c.resolve-left.result in
    let pair : Pair = record { left = left; right = Number c.args.pair } in
    let found = resolved_is P c.args.loaded.now c.args.node c.args.base left c.requires.program c.resolve-left.ensures in
    let is : c.push.new.self ≡ the_pair (part_at P c.args.base c.args.node.0) (Number c.args.pair) =
    c.in-Ok.ensures.ok ∙ ap (λ (pairs : List Pair). pairs ++ pair ∷ []) c.clear.ensures ∙ ap (λ (r : Ref). the_pair r (Number c.args.pair)) found in
    subst (AreWritten (plain c.args.cells.now)) (sym is) c.requires.written

pub settle_noted-requires-clause-no_half : goal.settle_noted-requires-clause-no_half
settle_noted-requires-clause-no_half g c =
    let P = g.N.Naming.program in
    let left = c.resolve-left.result in
    let pair : Pair = record { left = left; right = Number c.args.pair } in
    let found = resolved_is P c.args.loaded.now c.args.node c.args.base left c.requires.program c.resolve-left.ensures in
    let is : c.push.new.self ≡ the_pair (part_at P c.args.base c.args.node.0) (Number c.args.pair) =
    c.in-Ok.ensures.ok ∙ ap (λ (pairs : List Pair). pairs ++ pair ∷ []) c.clear.ensures ∙ ap (λ (r : Ref). the_pair r (Number c.args.pair)) found in
    subst (NameNoHalf g.N.Naming.program (word_at c.args.cells.now)) (sym is) c.requires.no_half

pub settle_noted-requires-clause-new : goal.settle_noted-requires-clause-new
settle_noted-requires-clause-new g c =
    let P = g.N.Naming.program in
    let left = c.resolve-left.result in
    let pair : Pair = record { left = left; right = Number c.args.pair } in
    let found = resolved_is P c.args.loaded.now c.args.node c.args.base left c.requires.program c.resolve-left.ensures in
    let is : c.push.new.self ≡ the_pair (part_at P c.args.base c.args.node.0) (Number c.args.pair) =
    c.in-Ok.ensures.ok ∙ ap (λ (pairs : List Pair). pairs ++ pair ∷ []) c.clear.ensures ∙ ap (λ (r : Ref). the_pair r (Number c.args.pair)) found in
    subst (λ (ps : List Pair). AreNewFrom g.N.Naming.program c.args.cells.now ps c.args.floor) (sym is) c.requires.new

pub returns-in-Ok-clause-settles : goal.returns-in-Ok-clause-settles
returns-in-Ok-clause-settles g c =
    let P = g.N.Naming.program in
    let left = c.resolve-left.result in
    let pair : Pair = record { left = left; right = Number c.args.pair } in
    let found = resolved_is P c.args.loaded.now c.args.node c.args.base left c.requires.program c.resolve-left.ensures in
    let is : c.push.new.self ≡ the_pair (part_at P c.args.base c.args.node.0) (Number c.args.pair) =
    c.in-Ok.ensures.ok ∙ ap (λ (pairs : List Pair). pairs ++ pair ∷ []) c.clear.ensures ∙ ap (λ (r : Ref). the_pair r (Number c.args.pair)) found in
    subst (λ (ps : List Pair). Settles g.N.Naming.program c.args.cells.now c.settle_noted.new.cells ps c.settle_noted.result) is
    c.settle_noted.ensures.settles

pub returns-in-Err-clause-settles : goal.returns-in-Err-clause-settles
returns-in-Err-clause-settles g c =
    nothing_settled g.N.Naming.program c.args.cells.now
    (the_pair (part_at g.N.Naming.program c.args.base c.args.node.0) (Number c.args.pair))

pub returns-in-Ok-clause-places : goal.returns-in-Ok-clause-places
returns-in-Ok-clause-places g c =
    let P = g.N.Naming.program in
    let left = c.resolve-left.result in
    let pair : Pair = record { left = left; right = Number c.args.pair } in
    let found = resolved_is P c.args.loaded.now c.args.node c.args.base left c.requires.program c.resolve-left.ensures in
    let is : c.push.new.self ≡ the_pair (part_at P c.args.base c.args.node.0) (Number c.args.pair) =
    c.in-Ok.ensures.ok ∙ ap (λ (pairs : List Pair). pairs ++ pair ∷ []) c.clear.ensures ∙ ap (λ (r : Ref). the_pair r (Number c.args.pair)) found in
    subst (λ (ps : List Pair). SetsPlaces g.N.Naming.program c.args.cells.now c.settle_noted.new.cells ps) is c.settle_noted.ensures.places

pub returns-in-Err-clause-places : goal.returns-in-Err-clause-places
returns-in-Err-clause-places g c =
    places_stay g.N.Naming.program c.args.cells.now (the_pair (part_at g.N.Naming.program c.args.base c.args.node.0) (Number c.args.pair))
