-- What contracts see in a hand (this project's own).
use Rattle.std.specs.Prelude.{◌≡◌, ℕ, suc, ◌+◌, ◌-◌, ◌<◌, ◌≤◌, ◌⊎◌, List, [], ◌∷◌, ◌++◌, length, map, slice_index_or}
use Rattle.std.specs.Prelude.{All, Option, Some, None, option_to_list, ⊤}
use Rattle.std.specs.declared.alloc.Global.{Global}
use Rattle.atomic_blocks.specs.Lent.{RowsId}
use Rattle.and_model.specs.declared.goal.Goal.{Goal}
use Rattle.crossbeam_deque.specs.Handles.{Pass, view}
use Rattle.and_shares.specs.declared.share.Share.{Share}
use Rattle.and_shares.specs.Bags.{SameBag}
use Rattle.and_shares.specs.Balance.{share}
use Rattle.and_goals.specs.Balance.{WasEmpty}

abbrev pub DequeId : Type 0
DequeId = RowsId × Global

abbrev pub known_by : Pass Goal (Share Goal) Global → Share Goal
known_by p = view p

-- what a hand knows of the deque of another
pub record OtherSeen : Type 0 where
  pub deque : DequeId
  pub known : Share Goal
  -- how many goals are known to have left it
  pub gone : ℕ

pub record HandSeen : Type 0 where
  pub deque : DequeId
  pub own : Share Goal
  pub others : List OtherSeen

-- what no put and no take changes: the hand's deque, its parts in the right to know it, and the deques of which it
-- takes besides
pub record Seat : Type 0 where
  pub deque : DequeId
  pub parts : ℕ
  pub others : List DequeId

abbrev pub deques_of : List OtherSeen → List DequeId
deques_of os = map (λ (o : OtherSeen). o.deque) os

abbrev pub seat_of : HandSeen → Seat
seat_of h = record { deque = h.deque; parts = h.own.parts; others = deques_of h.others }

abbrev pub taken_from : List OtherSeen → List Goal
taken_from [] = []
taken_from (o ∷ os) = o.known.taken ++ taken_from os

-- the goals that a hand has put
abbrev pub put_by : HandSeen → List Goal
put_by h = h.own.put

-- the goals that a hand has taken, of its own deque and then of the others
abbrev pub taken_by : HandSeen → List Goal
taken_by h = h.own.taken ++ taken_from h.others

abbrev pub all_put : List HandSeen → List Goal
all_put [] = []
all_put (h ∷ hs) = put_by h ++ all_put hs

abbrev pub all_taken : List HandSeen → List Goal
all_taken [] = []
all_taken (h ∷ hs) = taken_by h ++ all_taken hs

-- A place is so many further than the next one, where the last is followed by the first.
abbrev pub IsFurther : (hands place : ℕ) → (further to : ℕ) → Type 0
IsFurther hands place further to = (to < hands) × ((to ≡ place + suc further) ⊎ (to + hands ≡ place + suc further))

-- Each deque has given away so many passes, and each hand knows so many other deques: the next hand's, and on in order.
pub record IsDealt (rounds : ℕ) (hands : List HandSeen) : Type 0 where
  pub parts : (place : ℕ) (h : HandSeen) → place < length hands → (slice_index_or hands place h).own.parts + rounds ≡ 8
  pub count : (place : ℕ) (h : HandSeen) → place < length hands → length (slice_index_or hands place h).others ≡ rounds
  pub others : (place : ℕ) (h : HandSeen) → place < length hands → (further to : ℕ) (o : OtherSeen) → further < rounds
      → IsFurther (length hands) place further to
      → (slice_index_or (slice_index_or hands place h).others further o).deque ≡ (slice_index_or hands to h).deque

-- these are all the hands of one opening, in order
pub record AreAllHands (hands : List HandSeen) : Type 0 where
  pub some : 0 < length hands
  pub few : length hands ≤ 8
  pub dealt : IsDealt (length hands - 1) hands

-- no goal was put or taken
abbrev pub AreFresh : List HandSeen → Type 0
AreFresh hands = All (λ (h : HandSeen). (put_by h ≡ []) × (taken_by h ≡ [])) hands

-- a goal joins those that this hand has put
abbrev pub putting : Goal → HandSeen → HandSeen
putting goal h = record h { own = share h.own.parts (h.own.put ++ goal ∷ []) h.own.taken }

-- a goal joins those that were taken of this deque
pub record GivesOne (goal : Goal) (old new : OtherSeen) : Type 0 where
  pub deque : new.deque ≡ old.deque
  pub known : new.known ≡ share old.known.parts old.known.put (old.known.taken ++ goal ∷ [])

-- A steal gave no goal: at one moment the deque was empty, or some goal is known now to have left it.
pub record GivesNone (old new : OtherSeen) : Type 0 where
  pub deque : new.deque ≡ old.deque
  pub known : new.known ≡ old.known
  pub why : (old.gone < new.gone) ⊎ WasEmpty old.known

-- the first deques of the list gave no goal, and the next one gave this
pub data Steals (goal : Goal) : List OtherSeen → List OtherSeen → Type 0 where
  here : (o p : OtherSeen) (os : List OtherSeen) → GivesOne goal o p → Steals goal (o ∷ os) (p ∷ os)
  later : (o p : OtherSeen) (os ps : List OtherSeen) → GivesNone o p → Steals goal os ps → Steals goal (o ∷ os) (p ∷ ps)

-- a goal was taken of the hand's own deque, or this was empty at one moment, and the goal was taken of the first
-- other deque that gave one
abbrev pub TakesOne : Goal → HandSeen → HandSeen → Type 0
TakesOne goal old new =
    (new ≡ record old { own = share old.own.parts old.own.put (old.own.taken ++ goal ∷ []) })
    ⊎ ((new.deque ≡ old.deque) × (new.own ≡ old.own) × WasEmpty old.own × Steals goal old.others new.others)

abbrev pub AllGiveNone : List OtherSeen → List OtherSeen → Type 0
AllGiveNone [] [] = ⊤
AllGiveNone [] (p ∷ ps) = ⊥
AllGiveNone (o ∷ os) [] = ⊥
AllGiveNone (o ∷ os) (p ∷ ps) = GivesNone o p × AllGiveNone os ps

-- no deque gave a goal: the hand's own was empty at one moment
pub record TakesNone (old new : HandSeen) : Type 0 where
  pub deque : new.deque ≡ old.deque
  pub own : new.own ≡ old.own
  pub why : WasEmpty old.own
  pub others : AllGiveNone old.others new.others

-- this was taken, and nothing else was taken or put
abbrev pub HasTaken : Option Goal → (old new : HandSeen) → Type 0
HasTaken found old new = (put_by new ≡ put_by old) × SameBag (taken_by new) (taken_by old ++ option_to_list found)

-- a number that is kept says how many there are
abbrev pub IsCountOf : Option ℕ → ℕ → Type 0
IsCountOf None n = ⊤
IsCountOf (Some k) n = k ≡ n
