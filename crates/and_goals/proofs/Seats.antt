-- What puts and takes leave of a hand as it was.
use Rattle.std.proofs.Common.{◌≡◌, ℕ, ◌-◌, ◌<◌, List, [], ◌∷◌, ◌++◌, length, map, get_or, sym, ap, ◌∙◌, subst, arith}
use Rattle.std.proofs.Math.ListN.{get_or-map}
use Rattle.std.proofs.lemmas.List.{length-map, map-append}
use Rattle.std.specs.Prelude.{Option, Some, option_to_list}
use Rattle.and_model.specs.declared.goal.Goal.{Goal}
use Rattle.and_shares.specs.declared.share.Share.{Share}
use Rattle.and_shares.specs.Bags.{weigh, SameBag}
use Rattle.and_shares.specs.Balance.{share}
use Rattle.and_goals.specs.Hands.{IsFurther, OtherSeen, HandSeen, Seat, seat_of, deques_of, taken_from, taken_by, IsDealt, AreAllHands, HasTaken}
use Rattle.and_shares.proofs.Totals.{weigh-append}

seat_at : (hs ks : List HandSeen) → map seat_of ks ≡ map seat_of hs → (p : ℕ) (d : HandSeen) → seat_of (get_or ks p d) ≡ seat_of (get_or hs p d)
seat_at hs ks same p d = sym (get_or-map seat_of ks p d) ∙ ap (λ (ss : List Seat). get_or ss p (seat_of d)) same ∙ get_or-map seat_of hs p d

same_count : (hs ks : List HandSeen) → map seat_of ks ≡ map seat_of hs → length ks ≡ length hs
same_count hs ks same = sym (length-map ks seat_of) ∙ ap (λ (ss : List Seat). length ss) same ∙ length-map hs seat_of

same_dealt : (rounds : ℕ) (hs ks : List HandSeen) → map seat_of ks ≡ map seat_of hs → IsDealt rounds hs → IsDealt rounds ks
same_dealt rounds hs ks same dealt = record {
  parts = λ p d below.
      let seat = ap (λ (s : Seat). s.parts) (seat_at hs ks same p d) in
      let was = dealt.parts p d (subst (λ (n : ℕ). p < n) count below) in
      omega arith;
  count = λ p d below. known p d ∙ dealt.count p d (subst (λ (n : ℕ). p < n) count below);
  others = λ p d below q to o q_below is.
      sym (deque_at (get_or ks p d).others q o) ∙ ap (λ (s : Seat). get_or s.others q o.deque) (seat_at hs ks same p d)
      ∙ deque_at (get_or hs p d).others q o
      ∙ dealt.others p d (subst (λ (n : ℕ). p < n) count below) q to o q_below (subst (λ (n : ℕ). IsFurther n p q to) count is)
      ∙ sym (ap (λ (s : Seat). s.deque) (seat_at hs ks same to d));
}
  where
    count : length ks ≡ length hs
    count = same_count hs ks same

    deque_at : (os : List OtherSeen) (q : ℕ) (o : OtherSeen) → get_or (map (λ (x : OtherSeen). x.deque) os) q o.deque ≡ (get_or os q o).deque
    deque_at os q o = get_or-map (λ (x : OtherSeen). x.deque) os q o

    known : (p : ℕ) (d : HandSeen) → length (get_or ks p d).others ≡ length (get_or hs p d).others
    known p d =
        sym (length-map (get_or ks p d).others (λ (x : OtherSeen). x.deque)) ∙ ap (λ (s : Seat). length s.others) (seat_at hs ks same p d)
        ∙ length-map (get_or hs p d).others (λ (x : OtherSeen). x.deque)

-- Hands that put and took since are still all the hands of their opening.
pub still_all_hands : (hs ks : List HandSeen) → map seat_of ks ≡ map seat_of hs → AreAllHands hs → AreAllHands ks
still_all_hands hs ks same all =
    let count = same_count hs ks same in record {
      some = (let was = all.some in omega arith);
      few = (let was = all.few in omega arith);
      dealt = subst (λ (n : ℕ). IsDealt (n - 1) ks) (sym count) (same_dealt (length hs - 1) hs ks same all.dealt);
    }

pub same_seat : (old new : HandSeen) → new.deque ≡ old.deque → new.own.parts ≡ old.own.parts → deques_of new.others ≡ deques_of old.others
    → seat_of new ≡ seat_of old
same_seat old new deque parts others = cc

-- a goal was taken of the hand's own deque
pub has_taken_own : (goal : Goal) (old new : HandSeen) → new.own ≡ share old.own.parts old.own.put (old.own.taken ++ goal ∷ [])
    → new.others ≡ old.others → HasTaken (Some goal) old new
has_taken_own goal old new own others = (
  ap (λ (v : Share Goal). v.put) own,
  λ w.
      let now = ap (λ (v : Share Goal). weigh w v.taken) own in
      let same = ap (λ (os : List OtherSeen). weigh w (taken_from os)) others in
      let a = weigh-append w old.own.taken (goal ∷ []) in
      let b = weigh-append w old.own.taken (taken_from old.others) in
      let c = weigh-append w new.own.taken (taken_from new.others) in
      let d = weigh-append w (taken_by old) (goal ∷ []) in
      omega arith,
)

-- what was found was taken of another deque
pub has_taken_besides : (found : Option Goal) (old new : HandSeen) → new.own ≡ old.own
    → SameBag (taken_from new.others) (taken_from old.others ++ option_to_list found) → HasTaken found old new
has_taken_besides found old new own taken = (
  ap (λ (v : Share Goal). v.put) own,
  λ w.
      let now = ap (λ (v : Share Goal). weigh w v.taken) own in
      let more = taken w in
      let a = weigh-append w (taken_from old.others) (option_to_list found) in
      let b = weigh-append w old.own.taken (taken_from old.others) in
      let c = weigh-append w new.own.taken (taken_from new.others) in
      let d = weigh-append w (taken_by old) (option_to_list found) in
      omega arith,
)

-- one hand more at the end of both lists
pub one_seat_more : (hs ks : List HandSeen) (h k : HandSeen) → map seat_of ks ≡ map seat_of hs → seat_of k ≡ seat_of h
    → map seat_of (ks ++ k ∷ []) ≡ map seat_of (hs ++ h ∷ [])
one_seat_more hs ks h k same seat =
    map-append seat_of ks (k ∷ []) ∙ ap (λ (ss : List Seat). ss ++ seat_of k ∷ []) same ∙ ap (λ (s : Seat). map seat_of hs ++ s ∷ []) seat
    ∙ sym (map-append seat_of hs (h ∷ []))
