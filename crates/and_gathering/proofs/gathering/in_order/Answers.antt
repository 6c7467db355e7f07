use Rattle.std.proofs.Common.{arith, ◌≡◌, ◌+◌, ◌<◌, ◌++◌, ◌∷◌, [], ℕ, List, Ok, Some, ap, sym, subst, ◌∙◌, length, set}
use Rattle.std.specs.Prelude.{IsPermutation, slice_get}
use Rattle.std.proofs.lemmas.Option.{slice_get_within, get_or_from_slice_get}
use Rattle.std.proofs.lemmas.List.Sorted.{length_permutation}
use Rattle.and_model.specs.declared.goal.Reduction.{Reduction}
use Rattle.and_program.specs.Loaded.{program_of}
use Rattle.and_gathering.specs.Gathering.{AreOf, AreTiled, all_made}
use Rattle.and_gathering.specs.declared.links.Taken.{Taken}
use Rattle.and_gathering.specs.declared.links.Taken.TheVariants.{Reduced}
use Rattle.and_gathering.proofs.Stepping.{begun_tiled, begun_of, begun_made, tiled_on, of_on, made_next, made_from, moved_over, place_within}
use Rattle.and_gathering.proofs.gathering.in_order.Goals as goal

pub loop-next-init : goal.loop-next-init
loop-next-init c = record {
  tiled = begun_tiled (program_of c.args.loaded.now) c.args.used c.new-2.result c.new-2.ensures;
  fits = c.requires.0;
  steps = begun_of c.new.result.items c.new-2.result c.new.ensures.items c.new-2.ensures;
  made = begun_made c.args.tolds.now c.new.result.items c.in_ok-places.places.items c.new.ensures.items
      (c.in_ok-places.ensures.items_if_clones_equal (λ y is. is));
}

pub index_mut-requires : goal.index_mut-requires
index_mut-requires c =
    let n = c.in-Some.ensures in
    let items = c.loop-next.places.items in
    let from : slice_get items c.in-Some.next.worker ≡ Some n.place =
    subst (λ (l : List ℕ). slice_get l c.in-Some.next.worker ≡ Some n.place) c.as_slice.ensures.value n.from in
    let within = slice_get_within items c.in-Some.next.worker n.place from in
    let long = c.loop-next.places.ok.0 in omega (arith, within, long)

pub overflow_add-index_mut : goal.overflow_add-index_mut
overflow_add-index_mut c =
    let n = c.in-Some.ensures in
    let items = c.loop-next.places.items in
    let from : slice_get items c.in-Some.next.worker ≡ Some n.place =
    subst (λ (l : List ℕ). slice_get l c.in-Some.next.worker ≡ Some n.place) c.as_slice.ensures.value n.from in
    let at_place : c.index_mut.result.now ≡ n.place =
    c.index_mut.ensures.value ∙ get_or_from_slice_get items c.in-Some.next.worker n.place c.index_mut.result.now from in
    let within = place_within n.told n.place (Reduced c.in-Some.next.goal c.in-Some.next.reduction) n.step in
    let long = n.told.made.ok in
    let small = n.told.made.small in omega (arith, at_place, within, long.0, long.1, small)

pub loop-next-smaller : goal.loop-next-smaller
loop-next-smaller c =
    let n = c.in-Some.ensures in
    let items = c.loop-next.places.items in
    let worker = c.in-Some.next.worker in
    let from : slice_get items worker ≡ Some n.place =
    subst (λ (l : List ℕ). slice_get l worker ≡ Some n.place) c.as_slice.ensures.value n.from in
    let at_place : c.index_mut.result.now ≡ n.place =
    c.index_mut.ensures.value ∙ get_or_from_slice_get items worker n.place c.index_mut.result.now from in
    let x = Reduced c.in-Some.next.goal c.in-Some.next.reduction in
    let out : IsPermutation (made_from items c.args.tolds.now) (x ∷ made_from (set items worker (c.index_mut.result.now + 1)) c.args.tolds.now) =
    subst (λ (k : ℕ). IsPermutation (made_from items c.args.tolds.now) (x ∷ made_from (set items worker (k + 1)) c.args.tolds.now)) (sym at_place)
    (made_next items c.args.tolds.now worker n.told n.place x n.who from n.step) in
    let long = length_permutation (made_from items c.args.tolds.now)
    (x ∷ made_from (set items worker (c.index_mut.result.now + 1)) c.args.tolds.now) out in
    let fewer : length (made_from (set items worker (c.index_mut.result.now + 1)) c.args.tolds.now) < length (made_from items c.args.tolds.now) =
    omega (arith, long) in fewer

pub loop-next-preserved : goal.loop-next-preserved
loop-next-preserved c =
    let n = c.in-Some.ensures in
    let P = program_of c.args.loaded.now in
    let row = c.loop-next.row in
    let new = c.add.new.self in
    let g = c.in-Some.next.goal in
    let r = c.in-Some.next.reduction in
    let items = c.loop-next.places.items in
    let worker = c.in-Some.next.worker in
    let added = c.in_ok-add.ensures in
    let yes = ap (λ b. Ok b) c.if-not-branch.false in
    let from : slice_get items worker ≡ Some n.place =
    subst (λ (l : List ℕ). slice_get l worker ≡ Some n.place) c.as_slice.ensures.value n.from in
    let at_place : c.index_mut.result.now ≡ n.place =
    c.index_mut.ensures.value ∙ get_or_from_slice_get items worker n.place c.index_mut.result.now from in
    let x = Reduced g r in
    let out : IsPermutation (made_from items c.args.tolds.now) (x ∷ made_from (set items worker (c.index_mut.result.now + 1)) c.args.tolds.now) =
    subst (λ (k : ℕ). IsPermutation (made_from items c.args.tolds.now) (x ∷ made_from (set items worker (k + 1)) c.args.tolds.now)) (sym at_place)
    (made_next items c.args.tolds.now worker n.told n.place x n.who from n.step) in
    record {
      tiled = subst (λ (l : List Reduction). AreTiled P c.args.used l new.end) (sym (added.made yes))
          (subst (λ (k : ℕ). AreTiled P c.args.used (row.made ++ r ∷ []) k) (sym (added.end yes))
          (tiled_on P c.args.used row.made row.end r c.loop-next.invariant.tiled n.here));
      fits = added.fits yes;
      steps = subst (λ (l : List Reduction). AreOf new.steps.items l) (sym (added.made yes))
          (subst (λ (l : List Taken). AreOf l (row.made ++ r ∷ [])) (sym (added.steps yes))
          (of_on row.steps.items row.made g r c.loop-next.invariant.steps));
      made = subst (λ (l : List Taken). IsPermutation (all_made c.args.tolds.now)
          (l ++ made_from (set items worker (c.index_mut.result.now + 1)) c.args.tolds.now)) (sym (added.steps yes))
          (moved_over (all_made c.args.tolds.now) row.steps.items (made_from items c.args.tolds.now)
          (made_from (set items worker (c.index_mut.result.now + 1)) c.args.tolds.now) x c.loop-next.invariant.made out);
    }
