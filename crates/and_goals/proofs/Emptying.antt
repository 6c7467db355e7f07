-- A deque is emptied by who has all parts of the right to know it.
use Rattle.std.proofs.Common.{◌≡◌, ℕ, ◌+◌, ◌-◌, ◌<◌, ◌≤◌, List, [], ◌∷◌, ◌++◌, length, sym, refl, ap, ◌∙◌, subst, arith, append_assoc, append-nil}
use Rattle.std.proofs.Common.{length-append, inl, inr}
use Rattle.std.proofs.lemmas.List.{nil_from_length}
use Rattle.and_model.specs.declared.goal.Goal.{Goal}
use Rattle.and_shares.specs.declared.share.Share.{Share}
use Rattle.and_shares.specs.Bags.{weigh, SameBag}
use Rattle.and_shares.specs.Balance.{share, HasLeft}
use Rattle.and_goals.specs.Balance.{WasEmpty, MovesOne, MovesRest}
use Rattle.and_shares.proofs.Totals.{weigh-one}
use Rattle.and_goals.proofs.Moves.{learns}

-- who has all parts and found the deque empty knows that all that was put was taken
pub empty_settles : (v : Share Goal) → v.parts ≡ 8 → WasEmpty v → SameBag v.put v.taken
empty_settles v all was h = let r = learns was.1 v [] was.0 was.2 was.3 all h in omega arith

-- after so many of the turns: what was moved since the beginning, and how many goals may be left
abbrev pub Moving : (start : Share Goal) → (given : List Goal) → (left turn : ℕ) → Share Goal → List Goal → Type 0
Moving start given left turn v goals = (rest : List Goal)
    × (goals ≡ given ++ rest)
    × (v ≡ share 8 start.put (start.taken ++ rest))
    × (length rest ≤ turn)
    × (length start.put ≤ length start.taken + length rest + (left - turn))

pub moving_start : (v w : Share Goal) (goals : List Goal) (left : ℕ) → v.parts ≡ 8 → w ≡ v → length v.put ≡ length v.taken + left
    → Moving v goals left 0 w goals
moving_start v w goals left all same count = (
  [],
  sym (append-nil goals),
  same ∙ ap (λ (n : ℕ). share n v.put v.taken) all ∙ ap (share 8 v.put) (sym (append-nil v.taken)),
  omega arith,
  omega arith,
)

pub moving_on : (v0 : Share Goal) (g0 : List Goal) (left turn : ℕ) (v w : Share Goal) (goals more : List Goal) (x : Goal) → Moving v0 g0 left turn v goals
    → turn < left
    → w ≡ share v.parts v.put (v.taken ++ x ∷ []) → more ≡ goals ++ x ∷ [] → Moving v0 g0 left (turn + 1) w more
moving_on v0 g0 left turn v w goals more x m below is so = (
  m.0 ++ x ∷ [],
  so ∙ ap (λ gs. gs ++ x ∷ []) m.1 ∙ append_assoc g0 m.0 (x ∷ []),
  is ∙ ap (λ (u : Share Goal). share u.parts u.put (u.taken ++ x ∷ [])) m.2 ∙ ap (share 8 v0.put) (append_assoc v0.taken m.0 (x ∷ [])),
  (let l = length-append m.0 (x ∷ []) in let s = m.3 in omega arith),
  (let l = length-append m.0 (x ∷ []) in let s = m.4 in omega arith),
)

pub moving_none : (v0 : Share Goal) (g0 : List Goal) (left turn : ℕ) (v w : Share Goal) (goals : List Goal) → Moving v0 g0 left turn v goals → turn < left
    → w ≡ v → WasEmpty v → Moving v0 g0 left (turn + 1) w goals
moving_none v0 g0 left turn v w goals m below same was =
    let bag : SameBag v0.put (v0.taken ++ m.0) = empty_settles (share 8 v0.put (v0.taken ++ m.0)) refl (subst WasEmpty m.2 was) in
    let b = bag (λ g. 1) in
    let p = weigh-one v0.put in
    let q = weigh-one (v0.taken ++ m.0) in
    let l = length-append v0.taken m.0 in (
      m.0,
      m.1,
      same ∙ m.2,
      (let s = m.3 in omega arith),
      omega arith,
    )

pub moving_end : (v0 : Share Goal) (g0 : List Goal) (left turn : ℕ) (v : Share Goal) (goals items : List Goal) → Moving v0 g0 left turn v goals
    → left ≤ turn
    → HasLeft 8 v items → MovesRest v0 g0 goals
moving_end v0 g0 left turn v goals items m done has =
    let u = share 8 v0.put (v0.taken ++ m.0) in
    let told : HasLeft 8 u items = subst (λ (a : Share Goal). HasLeft 8 a items) m.2 has in
    let b = told refl (λ g. 1) in
    let p = weigh-one v0.put in
    let q = weigh-one (v0.taken ++ m.0) in
    let r = weigh-one items in
    let l = length-append v0.taken m.0 in
    let s = m.4 in
    let none : items ≡ [] = nil_from_length items (omega arith) in (
      m.0,
      m.1,
      λ h. (let t = told refl h in let n = ap (weigh h) none in omega arith),
    )

pub room_left : (v0 : Share Goal) (g0 : List Goal) (left turn : ℕ) (v : Share Goal) (goals : List Goal) (room : ℕ) → Moving v0 g0 left turn v goals
    → turn < left
    → length v0.put ≡ length v0.taken + left → length g0 + length v0.put ≤ room → length goals < room
room_left v0 g0 left turn v goals room m below count most =
    let is = ap (λ gs. length gs) m.1 in
    let l = length-append g0 m.0 in
    let s = m.3 in
    omega arith

-- how many goals who has all parts finds
pub counted : (v : Share Goal) (items : List Goal) (n : ℕ) → v.parts ≡ 8 → length items ≡ n → HasLeft 8 v items → length v.put ≡ length v.taken + n
counted v items n all len has =
    let b = has all (λ g. 1) in
    let p = weigh-one v.put in
    let q = weigh-one v.taken in
    let r = weigh-one items in
    omega arith

pub parts_kept : (v0 : Share Goal) (g0 : List Goal) (left turn : ℕ) (v : Share Goal) (goals : List Goal) → Moving v0 g0 left turn v goals → 0 < v.parts
parts_kept v0 g0 left turn v goals m = let p = ap (λ (a : Share Goal). a.parts) m.2 in omega arith

pub moving_next : (v0 : Share Goal) (g0 : List Goal) (left turn : ℕ) (v w : Share Goal) (goals more : List Goal) → Moving v0 g0 left turn v goals
    → turn < left
    → MovesOne v w goals more → Moving v0 g0 left (turn + 1) w more
moving_next v0 g0 left turn v w goals more m below moves = elim moves [
  | inl one ↦ moving_on v0 g0 left turn v w goals more one.0 m below one.1 one.2
  | inr none ↦ subst (λ gs. Moving v0 g0 left (turn + 1) w gs) (sym none.1) (moving_none v0 g0 left turn v w goals m below none.0 none.2)
]
