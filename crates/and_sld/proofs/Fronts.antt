-- Paths that begin with others, and frames that are new in an agenda.
use Rattle.std.proofs.Common.{ℕ, suc, ◌≡◌, ◌<◌, List, [], ◌∷◌, ◌++◌, refl, sym, subst, inl, inr, ◌⊎◌, arith}
use Rattle.and_model.specs.Terms.{Path, Term, Terms, variable, number, compound, none, more, apply_all, framed}
use Rattle.and_model.specs.Programs.{Item, call, equal, arithmetic, fail, Arithmetic, is, compare, arithmetic_in}
use Rattle.and_model.specs.Lines.{goal_term}
use Rattle.and_model.specs.Trees.{Agenda, end, goal, equation, reckoning, agenda}
use Rattle.and_sld.specs.Resolution.{In}

-- the second path begins with the first
abbrev pub IsFront : Path → Path → Type 0
IsFront [] p = Unit {0}
IsFront (a ∷ r) [] = ⊥
IsFront (a ∷ r) (b ∷ p) = (a ≡ b) × IsFront r p

pub front_self : (q : Path) → IsFront q q
front_self [] = tt
front_self (a ∷ q) = (refl, front_self q)

front_more : (q x p : Path) → IsFront (q ++ x) p → IsFront q p
front_more [] x p f = tt
front_more (a ∷ q) x [] f = elim f [ ]
front_more (a ∷ q) x (b ∷ p) f = (f.0, front_more q x p f.1)

front_or : (r q x : Path) → IsFront r (q ++ x) → IsFront r q ⊎ IsFront q r
front_or [] q x f = inl tt
front_or (a ∷ r) [] x f = inr tt
front_or (a ∷ r) (b ∷ q) x f = elim (front_or r q x f.1) [ inl g ↦ inl (f.0, g) | inr g ↦ inr (sym f.0, g) ]

front_not : (q : Path) (i : ℕ) → IsFront (q ++ i ∷ []) q → ⊥
front_not [] i f = f
front_not (a ∷ q) i f = front_not q i f.1

front_sibling : (q : Path) (i j : ℕ) → IsFront (q ++ i ∷ []) (q ++ j ∷ []) → i ≡ j
front_sibling [] i j f = f.0
front_sibling (a ∷ q) i j f = front_sibling q i j f.1

-- neither begins with the other
abbrev Parted : Path → Path → Type 0
Parted q r = (IsFront q r → ⊥) × (IsFront r q → ⊥)

parted_more : (q r x : Path) → Parted q r → Parted (q ++ x) r
parted_more q r x p = (λ f. p.0 (front_more q x r f), λ f. elim (front_or r q x f) [ inl g ↦ p.1 g | inr g ↦ p.0 g ])

-- the path and those of the open calls
abbrev Clear : Path → Agenda → Type 0
Clear q end = Unit {0}
Clear q (goal r g rest) = Parted q r × Clear q rest
Clear q (equation a b rest) = Clear q rest
Clear q (reckoning a rest) = Clear q rest

clear_more : (q x : Path) (ag : Agenda) → Clear q ag → Clear (q ++ x) ag
clear_more q x end c = tt
clear_more q x (goal r g rest) c = (parted_more q r x c.0, clear_more q x rest c.1)
clear_more q x (equation a b rest) c = clear_more q x rest c
clear_more q x (reckoning a rest) c = clear_more q x rest c

abbrev mutual
  -- the variables of the term are of frames in the list
  pub Over : List Path → Term → Type 0
  Over us (variable p k) = In p us
  Over us (number z) = Unit {0}
  Over us (compound c ts) = OverAll us ts

  pub OverAll : List Path → Terms → Type 0
  OverAll us none = Unit {0}
  OverAll us (more t ts) = Over us t × OverAll us ts

mutual
  pub over_more : (u : Path) (us : List Path) (t : Term) → Over us t → Over (u ∷ us) t
  over_more u us (variable p k) o = inr o
  over_more u us (number z) o = tt
  over_more u us (compound c ts) o = over_all_more u us ts o

  over_all_more : (u : Path) (us : List Path) (ts : Terms) → OverAll us ts → OverAll (u ∷ us) ts
  over_all_more u us none o = tt
  over_all_more u us (more t ts) o = (over_more u us t o.0, over_all_more u us ts o.1)

mutual
  pub over_framed : (us : List Path) (q : Path) → In q us → (t : Term) → Over us (framed q t)
  over_framed us q i (variable p k) = i
  over_framed us q i (number z) = tt
  over_framed us q i (compound c ts) = over_all_framed us q i ts

  over_all_framed : (us : List Path) (q : Path) → In q us → (ts : Terms) → OverAll us (apply_all (λ r k. variable q k) ts)
  over_all_framed us q i none = tt
  over_all_framed us q i (more t ts) = (over_framed us q i t, over_all_framed us q i ts)

-- an arithmetic goal in a frame
pub goal_framed : (q : Path) (a : Arithmetic) → goal_term (arithmetic_in q a) ≡ framed q (goal_term a)
goal_framed q (is l r) = refl
goal_framed q (compare m a b) = refl

-- The terms are over the frames in use, and no path of an open call, nor one that goes on from there, is in use or another call's.
abbrev pub IsFresh : List Path → Agenda → Type 0
IsFresh us end = Unit {0}
IsFresh us (goal q g rest) = ((p : Path) → In p us → IsFront q p → ⊥) × Over us g × Clear q rest × IsFresh us rest
IsFresh us (equation a b rest) = Over us a × Over us b × IsFresh us rest
IsFresh us (reckoning a rest) = Over us (goal_term a) × IsFresh us rest

fresh_more : (q : Path) (us : List Path) (ag : Agenda) → Clear q ag → IsFresh us ag → IsFresh (q ∷ us) ag
fresh_more q us end c f = tt
fresh_more q us (goal r g rest) c f = (
  λ p i h. elim i [ inl e ↦ c.0.1 (subst (λ x. IsFront r x) e h) | inr j ↦ f.0 p j h ],
  over_more q us g f.1,
  f.2,
  fresh_more q us rest c.1 f.3,
)
fresh_more q us (equation a b rest) c f = (over_more q us a f.0, over_more q us b f.1, fresh_more q us rest c f.2)
fresh_more q us (reckoning a rest) c f = (over_more q us (goal_term a) f.0, fresh_more q us rest c f.1)

clear_body : (q : Path) (i j : ℕ) (items : List Item) (rest : Agenda) → i < j → Clear (q ++ i ∷ []) rest → Clear (q ++ i ∷ []) (agenda q j items rest)
clear_body q i j [] rest h c = c
clear_body q i j (call g ∷ items) rest h c = (
  (λ f. (let e = front_sibling q i j f in omega (arith, h, e)), λ f. (let e = front_sibling q j i f in omega (arith, h, e))),
  clear_body q i (suc j) items rest (omega (arith, h)) c,
)
clear_body q i j (equal a b ∷ items) rest h c = clear_body q i (suc j) items rest (omega (arith, h)) c
clear_body q i j (arithmetic a ∷ items) rest h c = clear_body q i (suc j) items rest (omega (arith, h)) c
clear_body q i j (fail ∷ items) rest h c = clear_body q i (suc j) items rest (omega (arith, h)) c

-- a body before an agenda that knows of its frame
pub fresh_body : (us : List Path) (q : Path) (i : ℕ) (items : List Item) (rest : Agenda)
    → ((p : Path) → In p us → (j : ℕ) → IsFront (q ++ j ∷ []) p → ⊥) → In q us
    → ((j : ℕ) → Clear (q ++ j ∷ []) rest) → IsFresh us rest → IsFresh us (agenda q i items rest)
fresh_body us q i [] rest n m c f = f
fresh_body us q i (call g ∷ items) rest n m c f = (
  λ p x h. n p x i h,
  over_framed us q m g,
  clear_body q i (suc i) items rest (omega arith) (c i),
  fresh_body us q (suc i) items rest n m c f,
)
fresh_body us q i (equal a b ∷ items) rest n m c f = (over_framed us q m a, over_framed us q m b, fresh_body us q (suc i) items rest n m c f)
fresh_body us q i (arithmetic a ∷ items) rest n m c f = (
  subst (λ t. Over us t) (sym (goal_framed q a)) (over_framed us q m (goal_term a)),
  fresh_body us q (suc i) items rest n m c f,
)
fresh_body us q i (fail ∷ items) rest n m c f = (tt, tt, fresh_body us q (suc i) items rest n m c f)

-- So frames stay new where a call is taken.
pub fresh_next : (us : List Path) (q : Path) (g : Term) (rest : Agenda) (items : List Item) → IsFresh us (goal q g rest)
    → IsFresh (q ∷ us) (agenda q 0 items rest)
fresh_next us q g rest items f =
    fresh_body (q ∷ us) q 0 items rest
    (λ p i j h. elim i [ inl e ↦ front_not q j (subst (λ x. IsFront (q ++ j ∷ []) x) e h) | inr k ↦ f.0 p k (front_more q (j ∷ []) p h) ])
    (inl refl)
    (λ j. clear_more q (j ∷ []) rest f.2)
    (fresh_more q us rest f.2 f.3)
