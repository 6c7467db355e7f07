-- The deques of others, tried one after another.
use Rattle.std.proofs.Common.{◌≡◌, ◌∙◌, ℕ, zero, suc, ◌+◌, ◌<◌, List, [], ◌∷◌, ◌++◌, append-nil, length, take, drop, set, get_or, refl, sym, ap, subst, arith}
use Rattle.std.proofs.Common.{Option, Some, None}
use Rattle.std.specs.Prelude.{IfSome, IfNone, option_to_list}
use Rattle.and_model.specs.declared.goal.Goal.{Goal}
use Rattle.and_shares.specs.declared.share.Share.{Share}
use Rattle.and_shares.specs.Bags.{weigh, SameBag}
use Rattle.and_goals.specs.Hands.{OtherSeen, GivesOne, GivesNone, Steals, here, later, AllGiveNone, taken_from, deques_of}
use Rattle.and_goals.proofs.Behind.{rest_of}
use Rattle.and_shares.proofs.Totals.{weigh-append}

pub steals_at : (goal : Goal) (os ps : List OtherSeen) (i : ℕ) (d new : OtherSeen) → length ps ≡ length os → AllGiveNone (take i os) (take i ps)
    → drop i ps ≡ drop i os → i < length os
    → GivesOne goal (get_or os i d) new → Steals goal os (set ps i new)
steals_at goal [] ps i d new len none same below gives = absurd (omega arith)
steals_at goal (o ∷ os) [] i d new len none same below gives = absurd (omega arith)
steals_at goal (o ∷ os) (p ∷ ps) zero d new len none same below gives =
    subst (λ xs. Steals goal (o ∷ os) (new ∷ xs)) (sym (ap rest_of same)) (here o new os gives)
steals_at goal (o ∷ os) (p ∷ ps) (suc i) d new len none same below gives =
    later o p os (set ps i new) none.0 (steals_at goal os ps i d new (omega arith) none.1 same (omega arith) gives)

none_more : (os ps : List OtherSeen) (i : ℕ) (d new : OtherSeen) → length ps ≡ length os → AllGiveNone (take i os) (take i ps) → i < length os
    → GivesNone (get_or os i d) new → AllGiveNone (take (suc i) os) (take (suc i) (set ps i new))
none_more [] ps i d new len none below gives = absurd (omega arith)
none_more (o ∷ os) [] i d new len none below gives = absurd (omega arith)
none_more (o ∷ os) (p ∷ ps) zero d new len none below gives = (gives, tt)
none_more (o ∷ os) (p ∷ ps) (suc i) d new len none below gives = (none.0, none_more os ps i d new (omega arith) none.1 (omega arith) gives)

pub none_next : (os ps : List OtherSeen) (i : ℕ) (d new : OtherSeen) → length ps ≡ length os → AllGiveNone (take i os) (take i ps) → i < length os
    → GivesNone (get_or os i d) new → AllGiveNone (take (i + 1) os) (take (i + 1) (set ps i new))
none_next os ps i d new len none below gives =
    let next : suc i ≡ i + 1 = omega arith in
    subst (λ (n : ℕ). AllGiveNone (take n os) (take n (set ps i new))) next (none_more os ps i d new len none below gives)

steals_deques : (goal : Goal) (os ps : List OtherSeen) → Steals goal os ps → deques_of ps ≡ deques_of os
steals_deques goal _ _ (here o p os gives) = ap (λ d. d ∷ deques_of os) gives.deque
steals_deques goal _ _ (later o p os ps none steals) = ap (λ d. d ∷ deques_of ps) none.deque
    ∙ ap (λ ds. o.deque ∷ ds) (steals_deques goal os ps steals)

none_deques : (os ps : List OtherSeen) → AllGiveNone os ps → deques_of ps ≡ deques_of os
none_deques [] [] none = refl
none_deques [] (p ∷ ps) none = absurd none
none_deques (o ∷ os) [] none = absurd none
none_deques (o ∷ os) (p ∷ ps) none = ap (λ d. d ∷ deques_of ps) none.0.deque ∙ ap (λ ds. o.deque ∷ ds) (none_deques os ps none.1)

steals_weigh : (w : Goal → ℕ) (goal : Goal) (os ps : List OtherSeen) → Steals goal os ps → weigh w (taken_from ps) ≡ weigh w (taken_from os) + w goal
steals_weigh w goal _ _ (here o p os gives) =
    let now = ap (λ (v : Share Goal). weigh w v.taken) gives.known in
    let a = weigh-append w o.known.taken (goal ∷ []) in
    let b = weigh-append w o.known.taken (taken_from os) in
    let c = weigh-append w p.known.taken (taken_from os) in
    omega arith
steals_weigh w goal _ _ (later o p os ps none steals) =
    let r = steals_weigh w goal os ps steals in
    let now = ap (λ (v : Share Goal). weigh w v.taken) none.known in
    let b = weigh-append w o.known.taken (taken_from os) in
    let c = weigh-append w p.known.taken (taken_from ps) in
    omega arith

none_taken : (os ps : List OtherSeen) → AllGiveNone os ps → taken_from ps ≡ taken_from os
none_taken [] [] none = refl
none_taken [] (p ∷ ps) none = absurd none
none_taken (o ∷ os) [] none = absurd none
none_taken (o ∷ os) (p ∷ ps) none = ap (λ (v : Share Goal). v.taken ++ taken_from ps) none.0.known
    ∙ ap (λ gs. o.known.taken ++ gs) (none_taken os ps none.1)

-- the ways that were tried lead to the same deques
pub tried_deques : (found : Option Goal) (os ps : List OtherSeen) → IfSome found (λ goal. Steals goal os ps) → IfNone found (AllGiveNone os ps)
    → deques_of ps ≡ deques_of os
tried_deques None os ps some none = none_deques os ps none
tried_deques (Some goal) os ps some none = steals_deques goal os ps some

-- what was found is all that was taken there
pub tried_taken : (found : Option Goal) (os ps : List OtherSeen) → IfSome found (λ goal. Steals goal os ps) → IfNone found (AllGiveNone os ps)
    → SameBag (taken_from ps) (taken_from os ++ option_to_list found)
tried_taken None os ps some none w = ap (weigh w) (none_taken os ps none ∙ sym (append-nil (taken_from os)))
tried_taken (Some goal) os ps some none w =
    let s = steals_weigh w goal os ps some in
    let a = weigh-append w (taken_from os) (goal ∷ []) in
    omega arith
