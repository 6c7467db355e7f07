-- What all hands have put and taken.
use Rattle.std.proofs.Common.{◌≡◌, ℕ, zero, suc, ◌+◌, ◌<◌, ◌≤◌, List, [], ◌∷◌, ◌++◌, length, take, take_all, get_or, sym, refl, ap, ◌∙◌, subst, arith}
use Rattle.std.proofs.Common.{append_assoc, append-nil, length-append}
use Rattle.std.proofs.lemmas.List.{nil_from_length}
use Rattle.std.specs.Prelude.{All}
use Rattle.and_model.specs.declared.goal.Goal.{Goal}
use Rattle.and_shares.specs.Bags.{weigh, SameBag}
use Rattle.and_shares.specs.Balance.{share}
use Rattle.and_goals.specs.Balance.{MovesRest}
use Rattle.and_goals.specs.Hands.{HandSeen, IsDealt, put_by, taken_by, taken_from, all_put, all_taken}
use Rattle.and_shares.proofs.Totals.{weigh-append, same_length}

put_more : (hs : List HandSeen) (i : ℕ) (d : HandSeen) → i < length hs
    → length (all_put (take (suc i) hs)) ≡ length (all_put (take i hs)) + length (put_by (get_or hs i d))
put_more [] i d below = absurd (omega arith)
put_more (h ∷ hs) zero d below = let a = length-append (put_by h) [] in omega arith
put_more (h ∷ hs) (suc i) d below =
    let r = put_more hs i d (omega arith) in
    let a = length-append (put_by h) (all_put (take (suc i) hs)) in
    let b = length-append (put_by h) (all_put (take i hs)) in
    omega arith

pub all_put_more : (hs : List HandSeen) (i : ℕ) (d : HandSeen) → i < length hs
    → length (all_put (take (i + 1) hs)) ≡ length (all_put (take i hs)) + length (put_by (get_or hs i d))
all_put_more hs i d below =
    let next : suc i ≡ i + 1 = omega arith in
    subst (λ n. length (all_put (take n hs)) ≡ length (all_put (take i hs)) + length (put_by (get_or hs i d))) next (put_more hs i d below)

abbrev pub IsStranger : HandSeen → Type 0
IsStranger h = (h.own ≡ share 8 [] []) × (h.others ≡ [])

pub strangers_dealt : (hs : List HandSeen) → All IsStranger hs → IsDealt 0 hs
strangers_dealt hs all = record {
  parts = λ place h below. (let p = ap (λ a. a.parts) (all place h below).0 in omega arith);
  count = λ place h below. ap (λ os. length os) (all place h below).1;
  others = λ place h below further to o before is. absurd (omega arith);
}

put_weigh : (w : Goal → ℕ) (hs : List HandSeen) (i : ℕ) (d : HandSeen) → i < length hs
    → weigh w (all_put (take (suc i) hs)) ≡ weigh w (all_put (take i hs)) + weigh w (put_by (get_or hs i d))
put_weigh w [] i d below = absurd (omega arith)
put_weigh w (h ∷ hs) zero d below = let a = weigh-append w (put_by h) [] in omega arith
put_weigh w (h ∷ hs) (suc i) d below =
    let r = put_weigh w hs i d (omega arith) in
    let a = weigh-append w (put_by h) (all_put (take (suc i) hs)) in
    let b = weigh-append w (put_by h) (all_put (take i hs)) in
    omega arith

taken_weigh : (w : Goal → ℕ) (hs : List HandSeen) (i : ℕ) (d : HandSeen) → i < length hs
    → weigh w (all_taken (take (suc i) hs)) ≡ weigh w (all_taken (take i hs)) + weigh w (taken_by (get_or hs i d))
taken_weigh w [] i d below = absurd (omega arith)
taken_weigh w (h ∷ hs) zero d below = let a = weigh-append w (taken_by h) [] in omega arith
taken_weigh w (h ∷ hs) (suc i) d below =
    let r = taken_weigh w hs i d (omega arith) in
    let a = weigh-append w (taken_by h) (all_taken (take (suc i) hs)) in
    let b = weigh-append w (taken_by h) (all_taken (take i hs)) in
    omega arith

put_most : (hs : List HandSeen) (n : ℕ) → length (all_put (take n hs)) ≤ length (all_put hs)
put_most [] zero = omega arith
put_most [] (suc n) = omega arith
put_most (h ∷ hs) zero = omega arith
put_most (h ∷ hs) (suc n) =
    let r = put_most hs n in
    let a = length-append (put_by h) (all_put (take n hs)) in
    let b = length-append (put_by h) (all_put hs) in
    omega arith

-- what was left in the first deques has joined the end of a list
abbrev pub Emptied : List HandSeen → (count : ℕ) → (given goals : List Goal) → Type 0
Emptied hs count given goals = (left : List Goal) × (goals ≡ given ++ left) × SameBag (all_put (take count hs)) (all_taken (take count hs) ++ left)

pub emptied_none : (hs : List HandSeen) (given : List Goal) → Emptied hs 0 given given
emptied_none [] given = ([], sym (append-nil given), λ w. refl)
emptied_none (h ∷ hs) given = ([], sym (append-nil given), λ w. refl)

pub emptied_more : (hs : List HandSeen) (i : ℕ) (d : HandSeen) (given goals more : List Goal) → i < length hs → Emptied hs i given goals
    → length (get_or hs i d).others ≡ 0 → MovesRest (get_or hs i d).own goals more → Emptied hs (i + 1) given more
emptied_more hs i d given goals more below e alone m =
    let h = get_or hs i d in
    let next : suc i ≡ i + 1 = omega arith in
    let none : h.others ≡ [] = nil_from_length h.others alone in
    let bag : SameBag (all_put (take (suc i) hs)) (all_taken (take (suc i) hs) ++ (e.0 ++ m.0)) = λ w.
    let p = put_weigh w hs i d below in
    let t = taken_weigh w hs i d below in
    let a = weigh-append w (all_taken (take i hs)) e.0 in
    let b = weigh-append w (all_taken (take (suc i) hs)) (e.0 ++ m.0) in
    let f = weigh-append w e.0 m.0 in
    let g = weigh-append w h.own.taken m.0 in
    let k = weigh-append w h.own.taken (taken_from h.others) in
    let n = ap (λ os. weigh w (taken_from os)) none in
    let x = e.2 w in
    let y = m.2 w in
    omega arith
    in (
      e.0 ++ m.0,
      m.1 ∙ ap (λ gs. gs ++ m.0) e.1 ∙ append_assoc given e.0 m.0,
      subst (λ c. SameBag (all_put (take c hs)) (all_taken (take c hs) ++ (e.0 ++ m.0))) next bag,
    )

pub emptied_room : (hs : List HandSeen) (i : ℕ) (d : HandSeen) (given goals : List Goal) (room : ℕ) → i < length hs → Emptied hs i given goals
    → length given + length (all_put hs) ≤ room → length goals + length (get_or hs i d).own.put ≤ room
emptied_room hs i d given goals room below e most =
    let is = ap (λ gs. length gs) e.1 in
    let l = length-append given e.0 in
    let bag = same_length (all_put (take i hs)) (all_taken (take i hs) ++ e.0) e.2 in
    let k = length-append (all_taken (take i hs)) e.0 in
    let p = put_more hs i d below in
    let m = put_most hs (suc i) in
    omega arith

pub emptied_all : (hs : List HandSeen) (i : ℕ) (given goals : List Goal) → length hs ≤ i → Emptied hs i given goals
    → (left : List Goal) × (goals ≡ given ++ left) × SameBag (all_put hs) (all_taken hs ++ left)
emptied_all hs i given goals done e = (e.0, e.1, subst (λ xs. SameBag (all_put xs) (all_taken xs ++ e.0)) (take_all i hs done) e.2)
