use Rattle.std.proofs.Common.{◌≡◌, [], ◌∷◌, ◌++◌, set, get_or, ap, sym, ◌∙◌, arith, rules}
use Rattle.std.proofs.lemmas.List.Edits.{map_over_more}
use Rattle.and_first_argument.proofs.ListsLemmas.{pushes_undone}
use Rattle.and_first_argument.proofs.lists.push_each.Goals as goal

pub loop-place-preserved : goal.loop-place-preserved
loop-place-preserved c =
    let x = c.index-rows-place.result in
    let pushed : c.push.new.self ≡ get_or c.loop-place.rows c.loop-place.place x ++ c.args.clause ∷ [] = search rules in
    ap (set c.loop-place.rows c.loop-place.place) (pushed ∙ ap (λ list. list ++ c.args.clause ∷ []) (sym c.index-rows-place.is))
    ∙ map_over_more (λ list. list ++ c.args.clause ∷ []) c.args.rows.now c.loop-place.rows c.loop-place.place x
    (omega arith) c.loop-place.invariant c.index-rows-place.is

pub returns-then-is_err-clause-unchanged : goal.returns-then-is_err-clause-unchanged
returns-then-is_err-clause-unchanged c =
    let x = c.index-rows-place.result in
    let same : c.push.new.self ≡ get_or c.loop-place.rows c.loop-place.place x = search rules in
    pushes_undone c.args.clause c.args.rows.now c.loop-place.rows c.pop_each.new.rows c.loop-place.place x c.push.new.self
    (omega arith) c.loop-place.invariant c.index-rows-place.is (same ∙ sym c.index-rows-place.is) c.pop_each.ensures
