-- Lists in which one element gives place to others, or stands between others.
use Rattle.std.proofs.Common.{◌≡◌, Bool, true, false, cond, List, [], ◌∷◌, ◌++◌, map, refl, sym, subst, inl, inr, Contains}
use Rattle.std.specs.Prelude.{All, AllPairs, filter}
use Rattle.std.proofs.lemmas.List.Elements.{All-nil, All-cons, All-append, All-contains, All-tail, Contains-append_left}
use Rattle.std.proofs.lemmas.List.Elements.{Contains-append_right}
use Rattle.std.proofs.lemmas.List.Kept.{AllPairs-cons}
use Rattle.and_laws.proofs.Ordered.{contains_first, contains_more, contains_cases}
use Rattle.and_laws.proofs.Pairwise.{all_pairs_none, all_pairs_first, all_pairs_rest, all_pairs_join}

-- what holds of each element that is contained
pub all_of : {X : Type 0} (Q : X → Type 0) (xs : List X) → ((x : X) → Contains xs x → Q x) → All Q xs
all_of Q [] h = All-nil Q
all_of Q (x ∷ xs) h = All-cons Q x xs (h x (contains_first x xs)) (all_of Q xs (λ y c. h y (contains_more x y xs c)))

pub all_left : {X : Type 0} (Q : X → Type 0) (xs ys : List X) → All Q (xs ++ ys) → All Q xs
all_left Q xs ys a = all_of Q xs (λ x c. All-contains Q (xs ++ ys) x a (Contains-append_left xs ys x c))

pub all_right : {X : Type 0} (Q : X → Type 0) (xs ys : List X) → All Q (xs ++ ys) → All Q ys
all_right Q xs ys a = all_of Q ys (λ x c. All-contains Q (xs ++ ys) x a (Contains-append_right xs ys x c))

-- Others in the place of an element
pub all_replaced : {X : Type 0} (Q R : X → Type 0) (front : List X) (x : X) (back news : List X) → ((y : X) → Q y → R y)
    → All Q (front ++ x ∷ back) → All R news → All R (front ++ (news ++ back))
all_replaced Q R front x back news f old new =
    let rest : All Q back = All-tail Q x back (all_right Q front (x ∷ back) old) in
    let more : (ys : List _) → All Q ys → All R ys = λ ys a. all_of R ys (λ y c. f y (All-contains Q ys y a c)) in
    All-append R front (news ++ back) (more front (all_left Q front (x ∷ back) old)) (All-append R news back new (more back rest))

pub pairs_left : {X : Type 0} (R : X → X → Type 0) (xs ys : List X) → AllPairs R (xs ++ ys) → AllPairs R xs
pairs_left R [] ys a = all_pairs_none R
pairs_left R (x ∷ xs) ys a = AllPairs-cons R x xs (all_left (R x) xs ys (all_pairs_first R x (xs ++ ys) a))
    (pairs_left R xs ys (all_pairs_rest R x (xs ++ ys) a))

pub pairs_right : {X : Type 0} (R : X → X → Type 0) (xs ys : List X) → AllPairs R (xs ++ ys) → AllPairs R ys
pairs_right R [] ys a = a
pairs_right R (x ∷ xs) ys a = pairs_right R xs ys (all_pairs_rest R x (xs ++ ys) a)

pub pairs_across : {X : Type 0} (R : X → X → Type 0) (xs ys : List X) → AllPairs R (xs ++ ys) → All (λ (x : X). All (R x) ys) xs
pairs_across {X} R [] ys a = All-nil (λ (x : X). All (R x) ys)
pairs_across {X} R (x ∷ xs) ys a =
    All-cons (λ (z : X). All (R z) ys) x xs (all_right (R x) xs ys (all_pairs_first R x (xs ++ ys) a))
    (pairs_across R xs ys (all_pairs_rest R x (xs ++ ys) a))

-- the same of pairs
pub pairs_replaced : {X : Type 0} (R : X → X → Type 0) (front : List X) (x : X) (back news : List X) → AllPairs R (front ++ x ∷ back)
    → AllPairs R news
    → ((y z : X) → Contains front y → Contains news z → R y z) → ((y z : X) → Contains news y → Contains back z → R y z)
    → AllPairs R (front ++ (news ++ back))
pairs_replaced {X} R front x back news old new before behind =
    let tail : AllPairs R (x ∷ back) = pairs_right R front (x ∷ back) old in
    let across : All (λ (y : X). All (R y) (x ∷ back)) front = pairs_across R front (x ∷ back) old in
    let inner : AllPairs R (news ++ back) =
    all_pairs_join R news back new (all_pairs_rest R x back tail)
    (all_of (λ (y : X). All (R y) back) news (λ y c. all_of (R y) back (λ z d. behind y z c d))) in
    all_pairs_join R front (news ++ back) (pairs_left R front (x ∷ back) old) inner
    (all_of (λ (y : X). All (R y) (news ++ back)) front (λ y c. All-append (R y) news back (all_of (R y) news (λ z d. before y z c d))
    (All-tail (R y) x back (All-contains (λ (w : X). All (R w) (x ∷ back)) front y across c))))

-- what passes a test was in the list
kept_cases : {X : Type 0} (b : Bool) (y : X) (xs ys : List X) (x : X) → Contains (cond b (y ∷ xs) xs) x
    → ((z : X) → Contains xs z → Contains ys z) → Contains (y ∷ ys) x
kept_cases true y xs ys x h f =
    elim (contains_cases y x xs h)
    [ inl e ↦ subst (λ z. Contains (y ∷ ys) z) (sym e) (contains_first y ys) | inr i ↦ contains_more y x ys (f x i) ]
kept_cases false y xs ys x h f = contains_more y x ys (f x h)

pub filter_contains : {X : Type 0} (p : X → Bool) (xs : List X) (x : X) → Contains (filter p xs) x → Contains xs x
filter_contains p [] x h = h
filter_contains p (y ∷ xs) x h = kept_cases (p y) y (filter p xs) xs x h (filter_contains p xs)

-- a list that a map makes of two parts
pub record Parts {X Y : Type 0} (f : X → Y) (xs : List X) (ys : List Y) (y : Y) (zs : List Y) : Type 0 where
  pub front : List X
  pub middle : X
  pub back : List X
  pub is : xs ≡ front ++ middle ∷ back
  pub front_is : map f front ≡ ys
  pub middle_is : f middle ≡ y
  pub back_is : map f back ≡ zs

pub parted : {X Y : Type 0} (f : X → Y) (xs : List X) (ys : List Y) (y : Y) (zs : List Y) → map f xs ≡ ys ++ y ∷ zs → Parts f xs ys y zs
parted f [] [] y zs e = absurd (cc)
parted f [] (w ∷ ys) y zs e = absurd (cc)
parted f (x ∷ xs) [] y zs e = let one : f x ≡ y = cc in let rest : map f xs ≡ zs = cc in
    record { front = []; middle = x; back = xs; is = refl; front_is = refl; middle_is = one; back_is = rest }
parted f (x ∷ xs) (w ∷ ys) y zs e =
    let one : f x ≡ w = cc in
    let rest : map f xs ≡ ys ++ y ∷ zs = cc in
    let p = parted f xs ys y zs rest in record {
      front = x ∷ p.front;
      middle = p.middle;
      back = p.back;
      is = let inner = p.is in cc;
      front_is = let behind = p.front_is in cc;
      middle_is = p.middle_is;
      back_is = p.back_is;
    }
