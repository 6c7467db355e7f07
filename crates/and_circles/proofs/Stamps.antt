-- Stamps: the marks that they stand for in their round, and in the next one.
use Rattle.std.proofs.Common.{ℕ, zero, suc, ◌≡◌, ◌<◌, ◌≤◌, ◌+◌, Bool, true, false, cond, nat_eq, List, [], ◌∷◌, ◌++◌, length, map, replicate, set, take, Some}
use Rattle.std.proofs.Common.{None, refl, ap, ◌∙◌, arith}
use Rattle.std.specs.Prelude.{Option, All}
use Rattle.std.proofs.lemmas.List.{map-set, take_all}
use Rattle.std.proofs.lemmas.List.Elements.{All-head, All-tail}
use Rattle.and_circles.specs.Marked.{mark_at, mark_in, AreUnmarked}
use Rattle.and_circles.specs.declared.marks.Mark.{Mark}
use Rattle.and_circles.specs.declared.marks.Stamp.{Stamp}

-- a number is itself
pub nat_eq_same : (n : ℕ) → nat_eq n n ≡ true
nat_eq_same n = grind arith

-- and no other
pub nat_eq_apart : (n m : ℕ) → n < m → nat_eq n m ≡ false
nat_eq_apart n m below = grind arith

-- a stamp of this round stands for its mark
pub this_round : (s : Stamp) (round : ℕ) → s.round ≡ round → mark_in round s ≡ Some s.mark
this_round s round is = ap (λ b. cond b (Some s.mark) None) (ap (λ n. nat_eq n round) is ∙ nat_eq_same round)

-- one of an earlier round for none
pub earlier_round : (s : Stamp) (round : ℕ) → s.round < round → mark_in round s ≡ None
earlier_round s round before = ap (λ b. cond b (Some s.mark) None) (nat_eq_apart s.round round before)

-- so one is set
pub stamped : (ss : List Stamp) (round c : ℕ) (m : Mark)
    → map (mark_in round) (set ss c (record { round = round; mark = m })) ≡ set (map (mark_in round) ss) c (Some m)
stamped ss round c m =
    map-set (mark_in round) ss c (record { round = round; mark = m })
    ∙ ap (λ (o : Option Mark). set (map (mark_in round) ss) c o) (this_round (record { round = round; mark = m }) round refl)

-- and in the next round none has a mark
pub next_round : (ss : List Stamp) (round : ℕ) → All (λ (s : Stamp). s.round ≤ round) ss → AreUnmarked (map (mark_in (round + 1)) ss)
next_round [] round all c = refl
next_round (s ∷ ss) round all zero = let past : s.round ≤ round =
    All-head (λ (s : Stamp). s.round ≤ round) s ss all in earlier_round s (round + 1) (omega arith)
next_round (s ∷ ss) round all (suc c) = next_round ss round (All-tail (λ (s : Stamp). s.round ≤ round) s ss all) c

-- blank stamps behind the others
pub blanks : (n round : ℕ) (b : Stamp) → b.round < round → AreUnmarked (map (mark_in round) (replicate n b))
blanks zero round b before c = refl
blanks (suc n) round b before zero = earlier_round b round before
blanks (suc n) round b before (suc c) = blanks n round b before c

-- change no mark
pub with_blanks : (ss : List Stamp) (n round : ℕ) (b : Stamp) → b.round < round → (c : ℕ)
    → mark_at (map (mark_in round) (ss ++ replicate n b)) c ≡ mark_at (map (mark_in round) ss) c
with_blanks [] n round b before c = blanks n round b before c
with_blanks (s ∷ ss) n round b before zero = refl
with_blanks (s ∷ ss) n round b before (suc c) = with_blanks ss n round b before c

-- nor does a list that is made longer by them, if there was memory
pub resized : (ss new : List Stamp) (ok : Bool) (n more round : ℕ) (b : Stamp) → b.round < round → length ss ≤ n
    → new ≡ cond ok (take n ss ++ replicate more b) ss
    → (c : ℕ) → mark_at (map (mark_in round) new) c ≡ mark_at (map (mark_in round) ss) c
resized ss new true n more round b before longer is c =
    ap (λ (l : List Stamp). mark_at (map (mark_in round) l) c) (is ∙ ap (λ (l : List Stamp). l ++ replicate more b) (take_all n ss longer))
    ∙ with_blanks ss more round b before c
resized ss new false n more round b before longer is c = ap (λ (l : List Stamp). mark_at (map (mark_in round) l) c) is
