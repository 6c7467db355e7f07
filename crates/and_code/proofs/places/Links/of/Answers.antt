use Rattle.std.proofs.Common.{ℕ, ◌+◌, ◌≡◌, ◌<◌, ◌++◌, ◌∷◌, [], length, get_or, refl, sym, subst, ap, ◌∙◌, arith}
use Rattle.std.specs.Prelude.{All}
use Rattle.std.proofs.lemmas.List.{length-set}
use Rattle.and_model.specs.declared.goal.Reduction.{Reduction}
use Rattle.and_code.specs.Places.{AreLinked}
use Rattle.and_code.proofs.Images.{default_apart}
use Rattle.and_code.proofs.Linking.{linked_more, none_linked, room_made, room_for}
use Rattle.and_code.proofs.places.Links.of.Goals as goal

pub loop-place-init : goal.loop-place-init
loop-place-init c =
    let rs = c.args.reductions.now in
    let items = c.in_ok-resize.ensures.items in
    record {
      room = room_made rs c.node_count.result _ _ _ c.new-last.ensures.items c.new-last.ensures.len items c.node_count.ensures;
      many = c.in_ok-before.ensures.len;
      reserved = let n = c.in_ok-before.ensures.capacity in omega arith;
      linked = none_linked rs c.node_count.result _ _ _ _ c.new-last.ensures.items c.new-last.ensures.len items c.in_ok-before.ensures.items;
    }

pub loop-place-preserved : goal.loop-place-preserved
loop-place-preserved c =
    let rs = c.args.reductions.now in
    let r = c.at.result.now in
    let place = c.loop-place.place in
    let last = c.loop-place.last.items in
    let room = room_for rs (length last) place r c.at.ensures c.loop-place.invariant.room in
    let read : c.index.result.now ≡ get_or last r.parent 0 = c.index.ensures ∙ default_apart last r.parent c.index.result.now 0 room in
    record {
      room = subst (λ m. All (λ (x : Reduction). x.parent < m) rs) (sym (length-set last r.parent (place + 1))) c.loop-place.invariant.room;
      many = let n = c.loop-place.invariant.many in let m = c.push_reserved.ensures.len in omega arith;
      reserved = let n = c.loop-place.invariant.reserved in let m = c.push_reserved.ensures.capacity in omega arith;
      linked = linked_more rs r place c.at.ensures last c.loop-place.before.items _ _ c.loop-place.invariant.linked room refl
          (c.push_reserved.ensures.items ∙ ap (λ (n : ℕ). c.loop-place.before.items ++ n ∷ []) read);
    }

pub returns : goal.returns
returns c = subst (AreLinked c.args.reductions.now c.loop-place.last.items c.loop-place.before.items) (omega arith)
    c.loop-place.invariant.linked
