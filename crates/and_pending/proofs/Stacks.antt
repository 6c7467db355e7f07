-- Lists that are stacks, of which the end is the top.
use Rattle.std.proofs.Common.{ℕ, ◌≡◌, ◌+◌, List, [], ◌∷◌, ◌++◌, map, length, get_or, set, take, drop, reverse, refl, sym, ap, ◌∙◌, arith}
use Rattle.std.specs.Prelude.{All}
use Rattle.std.proofs.lemmas.List.{reverse-append, reverse-reverse, length_push, map-append, take_all, take_more, take_at, drop_at, set_at, get_or_at}
use Rattle.std.proofs.lemmas.List.Elements.{All-push, All-head, All-tail, All-same, All-take, All-drop}

-- The first comes last.
reverse_cons : {X : Type 0} (x : X) (xs : List X) → reverse (x ∷ xs) ≡ reverse xs ++ x ∷ []
reverse_cons x xs = reverse-append (x ∷ []) xs

-- What was popped was the top,
pub top_popped : {X : Type 0} (xs rest : List X) (p : X) → xs ≡ rest ++ p ∷ [] → reverse xs ≡ p ∷ reverse rest
top_popped {X} xs rest p is = ap (λ (ys : List X). reverse ys) is ∙ reverse-append rest (p ∷ [])

-- and so is the last item,
pub last_read : {X : Type 0} (xs : List X) (i : ℕ) (x : X) → i + 1 ≡ length xs → x ≡ get_or xs i x → xs ≡ take i xs ++ x ∷ []
last_read {X} xs i x long read =
    sym (take_all (i + 1) xs (omega arith)) ∙ take_more xs i x (omega arith) ∙ ap (λ (y : X). take i xs ++ y ∷ []) (sym read)

-- which comes first then.
pub top_read : {X : Type 0} (xs : List X) (i : ℕ) (x : X) → i + 1 ≡ length xs → x ≡ get_or xs i x → reverse xs ≡ x ∷ reverse (take i xs)
top_read xs i x long read = top_popped xs (take i xs) x (last_read xs i x long read)

module _ {X : Type 0} (xs : List X) (i : ℕ) (p : X) (rest : List X) (long : i + 1 ≡ length xs) (is : reverse xs ≡ p ∷ rest) where
  from_top : xs ≡ reverse rest ++ p ∷ []
  from_top = sym (reverse-reverse xs) ∙ ap (λ (ys : List X). reverse ys) is ∙ reverse_cons p rest

  under_top : length (reverse rest) ≡ i
  under_top =
      let all = ap (λ (ys : List X). length ys) from_top in
      let more = length_push (reverse rest) p in
      omega arith

  -- The top that is read
  pub the_top : (x : X) → x ≡ get_or xs i x → x ≡ p
  the_top x read = read ∙ ap (λ (ys : List X). get_or ys i x) from_top ∙ get_or_at (reverse rest) p [] x i under_top

  -- is changed.
  pub top_set : (q : X) → reverse (set xs i q) ≡ q ∷ rest
  top_set q =
      ap (λ (ys : List X). reverse (set ys i q)) from_top
      ∙ ap (λ (ys : List X). reverse ys) (set_at (reverse rest) p [] q i under_top)
      ∙ reverse-append (reverse rest) (q ∷ [])
      ∙ ap (λ (ys : List X). q ∷ ys) (reverse-reverse rest)

pub map_reverse : {X Y : Type 0} (f : X → Y) (xs : List X) → map f (reverse xs) ≡ reverse (map f xs)
map_reverse f [] = refl
map_reverse {X} {Y} f (x ∷ xs) =
    ap (λ (ys : List X). map f ys) (reverse_cons x xs)
    ∙ map-append f (reverse xs) (x ∷ [])
    ∙ ap (λ (ys : List Y). ys ++ f x ∷ []) (map_reverse f xs)
    ∙ sym (reverse_cons (f x) (map f xs))

-- ---- What is true of all items

pub all_left : {X : Type 0} (P : X → Type 0) (xs ys : List X) → All P (xs ++ ys) → All P xs
all_left P xs ys each = All-same P xs (take (length xs) (xs ++ ys)) (sym (take_at xs ys (length xs) refl)) (All-take P (length xs) (xs ++ ys) each)

pub all_right : {X : Type 0} (P : X → Type 0) (xs ys : List X) → All P (xs ++ ys) → All P ys
all_right P xs ys each = All-same P ys (drop (length xs) (xs ++ ys)) (sym (drop_at xs ys (length xs) refl)) (All-drop P (length xs) (xs ++ ys) each)

pub all_reverse : {X : Type 0} (P : X → Type 0) (xs : List X) → All P xs → All P (reverse xs)
all_reverse P [] each = each
all_reverse P (x ∷ xs) each =
    All-same P (reverse (x ∷ xs)) (reverse xs ++ x ∷ []) (reverse_cons x xs)
    (All-push P (reverse xs) x (all_reverse P xs (All-tail P x xs each)) (All-head P x xs each))
