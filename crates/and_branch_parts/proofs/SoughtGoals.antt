-- Goals that are sought among those that were passed.
use Rattle.std.proofs.Common.{◌≡◌, ◌⊎◌, ◌<◌, ◌+◌, Bool, true, false, List, [], ◌∷◌, ◌++◌, length, refl, ap, sym, ◌∙◌, subst, inl, inr, arith, append-nil}
use Rattle.std.proofs.Common.{length-append}
use Rattle.std.specs.Prelude.{Option, None, Some, IsNone, IfSome}
use Rattle.std.specs.Option.{is_some}
use Rattle.std.proofs.lemmas.Bool.{true≢false}
use Rattle.std.proofs.lemmas.List.{reverse-append, reverse-reverse}
use Rattle.std.proofs.Common.{reverse}
use Rattle.and_model.specs.declared.goal.Goal.{Goal}
use Rattle.and_pending.specs.Pending as pending
use Rattle.and_pending.specs.Pending.{Pending, goals_of}
use Rattle.and_branch_parts.specs.Branches.{Held}
use Rattle.and_branch_parts.specs.Next.{IsMoved, IsSameItem, HasItem}
use Rattle.and_branch_parts.proofs.WatchedLists.{goals_append}

-- ---- The last goal of a list

last_of : {X : Type 0} (x : X) (xs : List X) → (front : List X) × (y : X) × (x ∷ xs ≡ front ++ y ∷ [])
last_of x [] = ([], x, refl)
last_of {X} x (y ∷ ys) = let r = last_of y ys in (x ∷ r.0, r.1, ap (λ (l : List X). x ∷ l) r.2)

-- There is but one.
pub one_last : {X : Type 0} (xs ys : List X) (x y : X) → xs ++ x ∷ [] ≡ ys ++ y ∷ [] → (xs ≡ ys) × (x ≡ y)
one_last {X} xs ys x y e =
    let both : x ∷ reverse xs ≡ y ∷ reverse ys =
    sym (reverse-append xs (x ∷ [])) ∙ ap (λ (l : List X). reverse l) e ∙ reverse-append ys (y ∷ []) in
    let last : x ≡ y = cc in
    let front : reverse xs ≡ reverse ys = cc in
    (sym (reverse-reverse xs) ∙ ap (λ (l : List X). reverse l) front ∙ reverse-reverse ys, last)

-- ---- What is sought

-- The goal is among those that were passed, or it is the next.
abbrev pub IsBefore : Held → Goal → Type 0
IsBefore b h = HasItem b.left h ⊎ ((g : Goal) × (rest : List Goal) × (b.right ≡ g ∷ rest) × IsSameItem g h)

-- Where all are passed, it is.
pub there_last : (old new : Held) (h : Goal) → HasItem (old.left ++ old.right) h → IsMoved old new → new.right ≡ [] → IsBefore new h
there_last old new h x moved last =
    let e : old.left ++ old.right ≡ new.left =
    sym moved.goals ∙ ap (λ (l : List Goal). new.left ++ l) last ∙ append-nil new.left in
    inl (subst (λ (l : List Goal). HasItem l h) e x)

-- Where it is not the next, it is among those that were passed,
pub still_before : (b : Held) (h : Goal) → IsBefore b h → ((g : Goal) (rest : List Goal) → b.right ≡ g ∷ rest → IsSameItem g h → ⊥) → HasItem b.left h
still_before b h (inl x) other = x
still_before b h (inr (g, rest, is, same)) other = absurd (other g rest is same)

-- so that there is a last one of these,
pub some_last : (gs : List Goal) (h : Goal) → HasItem gs h → (front : List Goal) × (g : Goal) × (gs ≡ front ++ g ∷ [])
some_last gs h x = first x.front x.is
  where
    first : (front : List Goal) → gs ≡ front ++ x.goal ∷ x.back → (ys : List Goal) × (g : Goal) × (gs ≡ ys ++ g ∷ [])
    first [] e = let r = last_of x.goal x.back in (r.0, r.1, e ∙ r.2)
    first (y ∷ front) e = let r = last_of y (front ++ x.goal ∷ x.back) in (r.0, r.1, e ∙ r.2)

-- and it is that one, or before it.
before_last : (front : List Goal) (g h : Goal) (ys : List Goal) (x : Goal) (zs : List Goal) → front ++ g ∷ [] ≡ ys ++ x ∷ zs → IsSameItem x h
    → HasItem front h ⊎ IsSameItem g h
before_last [] g h [] x zs e same = let one : x ≡ g = cc in inr (subst (λ (z : Goal). IsSameItem z h) one same)
before_last [] g h (y ∷ ys) x zs e same =
    let none_is : 1 ≡ length (y ∷ (ys ++ x ∷ zs)) = ap (λ (l : List Goal). length l) e in
    let some : length (ys ++ x ∷ zs) ≡ length ys + length (x ∷ zs) = length-append ys (x ∷ zs) in
    absurd (omega arith)
before_last (f ∷ front) g h [] x zs e same =
    let one : x ≡ f = cc in
    inl (record { front = []; goal = f; back = front; is = refl; same = subst (λ (z : Goal). IsSameItem z h) one same })
before_last (f ∷ front) g h (y ∷ ys) x zs e same =
    let rest : front ++ g ∷ [] ≡ ys ++ x ∷ zs = cc in
    elim (before_last front g h ys x zs rest same) [
      | inl r ↦ inl (record { front = f ∷ r.front; goal = r.goal; back = r.back; is = ap (λ (l : List Goal). f ∷ l) r.is; same = r.same })
      | inr s ↦ inr s
    ]

pub there_back : (new : Held) (gs front : List Goal) (g h : Goal) (rest : List Goal) → HasItem gs h → gs ≡ front ++ g ∷ [] → new.left ≡ front
    → new.right ≡ g ∷ rest → IsBefore new h
there_back new gs front g h rest x e left right = elim (before_last front g h x.front x.goal x.back (sym e ∙ x.is) x.same) [
  | inl r ↦ inl (subst (λ (l : List Goal). HasItem l h) (sym left) r)
  | inr s ↦ inr (g, rest, right, s)
]

-- Where it is the next, it was come to.
pub come_to : (old new : List Goal) (front : List Goal) (g : Goal) → old ≡ front ++ g ∷ [] → new ≡ front → length new < length old
come_to old new front g e f =
    let long : length old ≡ length (front ++ g ∷ []) = ap (λ (l : List Goal). length l) e in
    let same : length new ≡ length front = ap (λ (l : List Goal). length l) f in
    let one = length-append front (g ∷ []) in
    omega arith

-- Back before the last goal.
pub last_back : (p q : Pending) (front : List pending.Watched) (w : pending.Watched) → p.left ≡ front ++ w ∷ []
    → q ≡ record { left = front; right = w ∷ p.right } → (fs : List Goal) (g : Goal) → goals_of p.left ≡ fs ++ g ∷ []
    → (goals_of q.left ≡ fs) × (goals_of q.right ≡ g ∷ goals_of p.right)
last_back p q front w e new fs g is =
    let one = one_last (goals_of front) fs w.goal g (sym (goals_append front (w ∷ [])) ∙ ap goals_of (sym e) ∙ is) in (
      ap (λ (r : Pending). goals_of r.left) new ∙ one.0,
      ap (λ (r : Pending). goals_of r.right) new ∙ ap (λ (z : Goal). z ∷ goals_of p.right) one.1,
    )

pub goes_back : (p q : Pending) (is_there : Bool) → (is_there ≡ false → (p.left ≡ []) × (q ≡ p))
    → (is_there ≡ true → (front : List pending.Watched) × (w : pending.Watched) × (p.left ≡ front ++ w ∷ [])
    × (q ≡ record { left = front; right = w ∷ p.right }))
    → (fs : List Goal) (g : Goal) → goals_of p.left ≡ fs ++ g ∷ [] → (goals_of q.left ≡ fs) × (goals_of q.right ≡ g ∷ goals_of p.right)
goes_back p q true none back fs g is = let (front, w, e, new) = back refl in last_back p q front w e new fs g is
goes_back p q false none back fs g is =
    let empty : 0 ≡ length (fs ++ g ∷ []) = ap (λ (ws : List pending.Watched). length (goals_of ws)) (sym (none refl).0)
    ∙ ap (λ (l : List Goal). length l) is in
    let some = length-append fs (g ∷ []) in
    absurd (omega arith)

-- ---- The next goal

pub next_there : (p : Pending) (o : Option Goal) → IfSome o (λ g. (w : pending.Watched) × (rest : List pending.Watched) × (p.right ≡ w ∷ rest) × (w.goal ≡ g))
    → is_some o ≡ true → (g : Goal) × (rest : List Goal) × (goals_of p.right ≡ g ∷ rest)
next_there p None some e = absurd (true≢false (sym e))
next_there p (Some g) (w, rest, is, same) e = (w.goal, goals_of rest, ap goals_of is)

pub none_next : (p : Pending) (o : Option Goal) → (IsNone o → p.right ≡ []) → is_some o ≡ false → goals_of p.right ≡ []
none_next p o none e = ap goals_of (none e)

pub shorter : (old new : List Goal) (g : Goal) (rest : List Goal) → old ≡ g ∷ rest → new ≡ rest → length new < length old
shorter old new g rest e f =
    let long : length old ≡ length (g ∷ rest) = ap (λ (l : List Goal). length l) e in
    let same : length new ≡ length rest = ap (λ (l : List Goal). length l) f in
    omega arith
