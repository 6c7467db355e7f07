use Rattle.std.proofs.Common.{arith, ◌≡◌, ◌∙◌, ◌++◌, [], List, ap, subst}
use Rattle.std.proofs.lemmas.List.{with_items_is}
use Rattle.and_model.specs.declared.goal.Goal.{Goal}
use Rattle.and_shares.specs.Bags.{SameBag}
use Rattle.and_goals.specs.Hands.{HandSeen, all_put, all_taken}
use Rattle.and_goals.proofs.Takings.{left_as_before}
use Rattle.and_goals.proofs.leaving.rest.Goals as goal

pub returns-clause-left : goal.returns-clause-left
returns-clause-left c =
    let hs = c.args.hands in
    let gathered = c.gather.new.hands in
    let left = c.empty_all.ensures in
    let first : c.as_mut_slice.result.now ≡ hs = c.as_mut_slice.ensures.value ∙ c.hands.view_is in
    let second : c.as_mut_slice-2.result.now ≡ gathered = c.as_mut_slice-2.ensures.value
    ∙ with_items_is c.hands.inside.hands gathered (omega arith) in
    let none : c.reserve.new.self.items ≡ [] = c.reserve.ensures.items ∙ c.new-goals.ensures.items in
    let goals : c.of_items.result ≡ left.0 = c.of_items.ensures ∙ left.1 ∙ ap (λ (gs : List Goal). gs ++ left.0) none in
    let taken : SameBag (all_taken gathered) (all_taken hs) =
    subst (λ (ks : List HandSeen). SameBag (all_taken gathered) (all_taken ks)) first c.gather.ensures.taken in
    let same : SameBag (all_put gathered) (all_taken gathered ++ left.0) =
    subst (λ (ks : List HandSeen). SameBag (all_put ks) (all_taken ks ++ left.0)) second left.2 in
    left_as_before hs gathered left.0 c.of_items.result (c.gather.ensures.put ∙ ap all_put first) taken same goals
