-- A key that is looked for in a hand, from the front.
use Rattle.std.proofs.Common.{ℕ, zero, suc, ◌+◌, ◌≡◌, ◌<◌, ◌≤◌, ◌↔◌, Bool, true, false, cond, List, [], ◌∷◌, ◌++◌, length, get_or, take, drop}
use Rattle.std.proofs.Common.{replicate, Some, refl, sym, subst, ap, ◌∙◌, append_assoc, true≢false, arith}
use Rattle.std.specs.Prelude.{Contains, nat_eq, slice_get}
use Rattle.std.specs.Cmp.Lexicographic.{pointwise, bytes_decides}
use Rattle.std.proofs.lemmas.Map.Made.{Contains-tail}
use Rattle.std.proofs.lemmas.Option.{slice_get_within}
use Rattle.std.proofs.lemmas.Grind.{replicate_next}
use Rattle.and_model.specs.Codes.{numbers_of}
use Rattle.and_model.specs.declared.numbers.ClauseNo.{ClauseNo}
use Rattle.and_model.proofs.Tested.{none_in}
use Rattle.and_histories.specs.PlainTree.{Key, in_place_of, children}

shift : (i : ℕ) → suc (i + 1) ≡ suc i + 1
shift i = omega arith

-- what stands at a place, and what stands behind it
split_at : {X : Type 0} (xs : List X) (i : ℕ) (x : X) → slice_get xs i ≡ Some x → drop i xs ≡ x ∷ drop (i + 1) xs
split_at [] i x e = absurd (let within = slice_get_within [] i x e in omega arith)
split_at (y ∷ xs) zero x e = ap (λ z. z ∷ xs) (some_is y x e)
  where
    some_is : {X : Type 0} (y x : X) → Some y ≡ Some x → y ≡ x
    some_is y x e = cc
split_at (y ∷ xs) (suc i) x e = subst (λ n. drop i xs ≡ x ∷ drop n (y ∷ xs)) (shift i) (split_at xs i x e)

grown : {X : Type 0} (xs : List X) (i : ℕ) (x : X) → slice_get xs i ≡ Some x → take (i + 1) xs ≡ take i xs ++ x ∷ []
grown [] i x e = absurd (let within = slice_get_within [] i x e in omega arith)
grown (y ∷ xs) zero x e = ap (λ l. l ++ []) (ap (λ z. z ∷ []) (some_is y x e))
  where
    some_is : {X : Type 0} (y x : X) → Some y ≡ Some x → y ≡ x
    some_is y x e = cc
grown (y ∷ xs) (suc i) x e = subst (λ n. take n (y ∷ xs) ≡ y ∷ (take i xs ++ x ∷ [])) (shift i) (ap (λ l. y ∷ l) (grown xs i x e))

read : {X : Type 0} (xs : List X) (i : ℕ) (d : X) → i < length xs → slice_get xs i ≡ Some (get_or xs i d)
read [] i d low = absurd (omega (arith, low))
read (x ∷ xs) zero d low = refl
read (x ∷ xs) (suc i) d low = read xs i d (omega (arith, low))

stands : {X : Type 0} (xs : List X) (i : ℕ) (x : X) → i < length xs → x ≡ get_or xs i x → slice_get xs i ≡ Some x
stands xs i x low here = read xs i x low ∙ ap Some (sym here)

-- the first key of those in hand is the one that is looked for, or another
found_here : (key : Key) (others keys : List Key) (k : Key) → k ≡ key → in_place_of key others (k ∷ keys) ≡ others ++ keys
found_here key others keys k e = ap (λ b. cond b (others ++ keys) (k ∷ in_place_of key others keys)) ((bytes_decides key k).1 (sym e))

not_here : (key : Key) (others keys : List Key) (k : Key) → (k ≡ key → ⊥) → in_place_of key others (k ∷ keys) ≡ k ∷ in_place_of key others keys
not_here key others keys k apart = by_test (pointwise nat_eq key k) refl
  where
    by_test : (b : Bool) → pointwise nat_eq key k ≡ b → in_place_of key others (k ∷ keys) ≡ k ∷ in_place_of key others keys
    by_test true is = absurd (apart (sym ((bytes_decides key k).0 is)))
    by_test false is = ap (λ b. cond b (others ++ keys) (k ∷ in_place_of key others keys)) is

-- The key is not before the place.
abbrev pub IsBehind : (key : Key) (keys : List Key) (place : ℕ) → Type 0
IsBehind key keys place = Contains (drop place keys) key
    × ((others : List Key) → in_place_of key others keys ≡ take place keys ++ in_place_of key others (drop place keys))

pub behind_first : (key : Key) (keys : List Key) → Contains keys key → IsBehind key keys 0
behind_first key keys c = (c, λ others. refl)

pub behind_next : (key : Key) (keys : List Key) (place : ℕ) (k : Key) (same : Bool) → place < length keys → k ≡ get_or keys place k
    → ((same ≡ true) ↔ (k ≡ key)) → same ≡ false → IsBehind key keys place → IsBehind key keys (place + 1)
behind_next key keys place k same low here tells is (there, all) =
    let at = stands keys place k low here in
    let apart : k ≡ key → ⊥ = λ e. true≢false (sym (tells.1 e) ∙ is) in
    let cut = split_at keys place k at in (
      Contains-tail k (drop (place + 1) keys) key apart (subst (λ l. Contains l key) cut there),
      λ others.
          all others ∙ ap (λ l. take place keys ++ in_place_of key others l) cut
          ∙ ap (λ l. take place keys ++ l) (not_here key others (drop (place + 1) keys) k apart)
          ∙ sym (append_assoc (take place keys) (k ∷ []) (in_place_of key others (drop (place + 1) keys)))
          ∙ ap (λ l. l ++ in_place_of key others (drop (place + 1) keys)) (sym (grown keys place k at)),
    )

pub behind_none : (key : Key) (keys : List Key) (place : ℕ) → length keys ≤ place → IsBehind key keys place → ⊥
behind_none key keys place past (there, all) = none_in key (subst (λ l. Contains l key) (none_behind keys place past) there)
  where
    none_behind : {X : Type 0} (xs : List X) (n : ℕ) → length xs ≤ n → drop n xs ≡ []
    none_behind [] zero past = refl
    none_behind [] (suc n) past = refl
    none_behind (x ∷ xs) zero past = absurd (omega (arith, past))
    none_behind (x ∷ xs) (suc n) past = none_behind xs n (omega (arith, past))

pub found_at : (key : Key) (keys : List Key) (place : ℕ) (k : Key) (same : Bool) → place < length keys → k ≡ get_or keys place k
    → ((same ≡ true) ↔ (k ≡ key)) → same ≡ true → IsBehind key keys place → (others : List Key)
    → in_place_of key others keys ≡ take place keys ++ others ++ drop (place + 1) keys
found_at key keys place k same low here tells is (there, all) others =
    let at = stands keys place k low here in
    all others ∙ ap (λ l. take place keys ++ in_place_of key others l) (split_at keys place k at)
    ∙ ap (λ l. take place keys ++ l) (found_here key others (drop (place + 1) keys) k (tells.0 is))
    ∙ sym (append_assoc (take place keys) others (drop (place + 1) keys))

-- one child more
abbrev child : Key → ClauseNo → Key
child longer c = longer ++ c.0 ∷ []

last_child : (longer : Key) (c : ClauseNo) (front : List ClauseNo)
    → children longer (numbers_of (front ++ c ∷ [])) ≡ children longer (numbers_of front) ++ child longer c ∷ []
last_child longer c [] = refl
last_child longer c (d ∷ front) = ap (λ l. child longer d ∷ l) (last_child longer c front)

pub one_more_child : (longer : Key) (clauses : List ClauseNo) (place : ℕ) (c : ClauseNo) (keys : List Key) → slice_get clauses place ≡ Some c
    → keys ≡ children longer (numbers_of (take place clauses)) → keys ++ child longer c ∷ [] ≡ children longer (numbers_of (take (place + 1) clauses))
one_more_child longer clauses place c keys at is =
    ap (λ l. l ++ child longer c ∷ []) is
    ∙ sym (ap (λ l. children longer (numbers_of l)) (grown clauses place c at) ∙ last_child longer c (take place clauses))

-- one of equal items more
pub one_more_equal : {X : Type 0} (n : ℕ) (y x : X) (xs : List X) → x ≡ y → xs ≡ replicate n y → xs ++ x ∷ [] ≡ replicate (n + 1) y
one_more_equal n y x xs same is = ap (λ l. l ++ x ∷ []) is ∙ ap (λ z. replicate n y ++ z ∷ []) same ∙ sym (replicate_next n y)

-- the hand of a team that has a key
held_in : (hands : List (List Key)) (team : ℕ) (key : Key) → Contains (get_or hands team []) key → team < length hands
held_in [] team key holds = absurd (none_in key holds)
held_in (h ∷ hands) zero key holds = omega arith
held_in (h ∷ hands) (suc team) key holds = let rest = held_in hands team key holds in omega arith

same_at : {X : Type 0} (xs : List X) (i : ℕ) (d e : X) → i < length xs → get_or xs i d ≡ get_or xs i e
same_at [] i d e low = absurd (omega (arith, low))
same_at (x ∷ xs) zero d e low = refl
same_at (x ∷ xs) (suc i) d e low = same_at xs i d e (omega (arith, low))

pub held_hand : (hands : List (List Key)) (team : ℕ) (key : Key) (hand : List Key) → hand ≡ get_or hands team hand
    → Contains (get_or hands team []) key → Contains hand key
held_hand hands team key hand here holds = subst (λ l. Contains l key) (same_at hands team [] hand (held_in hands team key holds) ∙ sym here) holds
