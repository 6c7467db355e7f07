-- What all hands have put and taken stays in each turn of a round.
use Rattle.std.proofs.Common.{◌≡◌, ℕ, zero, suc, ◌+◌, ◌<◌, List, [], ◌∷◌, ◌++◌, length, set, get_or, length-set, ap, sym, subst, append_assoc, ◌∙◌, arith}
use Rattle.std.proofs.lemmas.List.{append-nil}
use Rattle.std.proofs.lemmas.List.Elements.{All-set, All-get_or}
use Rattle.and_model.specs.declared.goal.Goal.{Goal}
use Rattle.and_shares.specs.Bags.{weigh, SameBag}
use Rattle.and_goals.specs.Hands.{HandSeen, OtherSeen, put_by, taken_by, taken_from, all_put, all_taken, AreFresh}
use Rattle.and_shares.proofs.Totals.{weigh-append}
use Rattle.and_goals.proofs.Turns.{replaced, gives, gets, takes_in}

put_set : (hs : List HandSeen) (i : ℕ) (g d : HandSeen) → i < length hs → g.own.put ≡ (get_or hs i d).own.put → all_put (set hs i g) ≡ all_put hs
put_set [] i g d below same = absurd (omega arith)
put_set (h ∷ hs) zero g d below same = ap (λ gs. gs ++ all_put hs) same
put_set (h ∷ hs) (suc i) g d below same = ap (λ gs. put_by h ++ gs) (put_set hs i g d (omega arith) same)

taken_set : (w : Goal → ℕ) (hs : List HandSeen) (i : ℕ) (g d : HandSeen) → i < length hs
    → weigh w (all_taken (set hs i g)) + weigh w (taken_by (get_or hs i d)) ≡ weigh w (all_taken hs) + weigh w (taken_by g)
taken_set w [] i g d below = absurd (omega arith)
taken_set w (h ∷ hs) zero g d below = let a = weigh-append w (taken_by h) (all_taken hs) in let b = weigh-append w (taken_by g) (all_taken hs) in
    omega arith
taken_set w (h ∷ hs) (suc i) g d below =
    let a = weigh-append w (taken_by h) (all_taken hs) in
    let b = weigh-append w (taken_by h) (all_taken (set hs i g)) in
    let r = taken_set w hs i g d (omega arith) in
    omega arith

taken_from-more : (os : List OtherSeen) (o : OtherSeen) → taken_from (os ++ o ∷ []) ≡ taken_from os ++ o.known.taken
taken_from-more [] o = append-nil o.known.taken
taken_from-more (p ∷ os) o = ap (λ gs. p.known.taken ++ gs) (taken_from-more os o) ∙ sym (append_assoc p.known.taken (taken_from os) o.known.taken)

-- a hand gives a way to its deque away, and another one gets it
pub fresh_turn : (hs : List HandSeen) (of place : ℕ) (x y g m : HandSeen) (o : OtherSeen) → of < length hs → place < length hs
    → g ≡ gives (get_or hs of x) → o.known.taken ≡ [] → m ≡ gets o (get_or (set hs of g) place y) → AreFresh hs → AreFresh (replaced hs of g place m)
fresh_turn hs of place x y g m o of_below place_below g_is none m_is fresh =
    let P : HandSeen → Type 0 = λ h. (put_by h ≡ []) × (taken_by h ≡ []) in
    let first : AreFresh (set hs of g) = All-set P hs of g (subst P (sym g_is) (All-get_or P hs of x of_below fresh)) fresh in
    let here : P (get_or (set hs of g) place y) = All-get_or P (set hs of g) place y (let l = length-set hs of g in omega arith) first in
    All-set P (set hs of g) place m (subst P (sym m_is) (gets_none (get_or (set hs of g) place y) here)) first
  where
    gets_none : (h : HandSeen) → (put_by h ≡ []) × (taken_by h ≡ []) → (put_by (gets o h) ≡ []) × (taken_by (gets o h) ≡ [])
    gets_none h is = (
      is.0,
      ap (λ gs. h.own.taken ++ gs) (taken_from-more h.others o ∙ ap (λ gs. taken_from h.others ++ gs) none ∙ append-nil (taken_from h.others)) ∙ is.1,
    )

-- a hand gives up its way to another deque, and the deque's own hand takes in what it knew
pub gathered_put : (hs : List HandSeen) (place of : ℕ) (x y u v : HandSeen) (o : OtherSeen) → place < length hs → of < length hs
    → get_or hs place x ≡ gets o u → v ≡ takes_in o (get_or (set hs place u) of y) → all_put (replaced hs place u of v) ≡ all_put hs
gathered_put hs place of x y u v o place_below of_below u_is v_is =
    put_set (set hs place u) of v y (let l = length-set hs place u in omega arith) (ap (λ h. h.own.put) v_is)
    ∙ put_set hs place u x place_below (sym (ap (λ (h : HandSeen). h.own.put) u_is))

pub gathered_taken : (hs : List HandSeen) (place of : ℕ) (x y u v : HandSeen) (o : OtherSeen) → place < length hs → of < length hs
    → get_or hs place x ≡ gets o u → v ≡ takes_in o (get_or (set hs place u) of y) → SameBag (all_taken (replaced hs place u of v)) (all_taken hs)
gathered_taken hs place of x y u v o place_below of_below u_is v_is w =
    let k = get_or (set hs place u) of y in
    let first = taken_set w hs place u x place_below in
    let second = taken_set w (set hs place u) of v y (let l = length-set hs place u in omega arith) in
    let was = ap (λ (h : HandSeen). weigh w (taken_by h)) u_is in
    let more = ap (weigh w) (taken_from-more u.others o) in
    let a = weigh-append w (taken_from u.others) o.known.taken in
    let b = weigh-append w u.own.taken (taken_from (u.others ++ o ∷ [])) in
    let c = weigh-append w u.own.taken (taken_from u.others) in
    let now = ap (λ (h : HandSeen). weigh w (taken_by h)) v_is in
    let d = weigh-append w (k.own.taken ++ o.known.taken) (taken_from k.others) in
    let e = weigh-append w k.own.taken o.known.taken in
    let f = weigh-append w k.own.taken (taken_from k.others) in
    omega arith

-- what is left when all ways were given up is what was left before
pub left_as_before : (hs gathered : List HandSeen) (left goals : List Goal) → all_put gathered ≡ all_put hs
    → SameBag (all_taken gathered) (all_taken hs)
    → SameBag (all_put gathered) (all_taken gathered ++ left) → goals ≡ left → SameBag (all_put hs) (all_taken hs ++ goals)
left_as_before hs gathered left goals put taken same is w =
    let p = ap (weigh w) put in
    let g = ap (weigh w) is in
    let t = taken w in
    let s = same w in
    let a = weigh-append w (all_taken gathered) left in
    let b = weigh-append w (all_taken hs) goals in
    omega arith
