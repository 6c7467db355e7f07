-- The table of a store at the opening, and how its seats are dealt out and gathered.
use Rattle.std.proofs.Common.{ℕ, zero, suc, ◌+◌, ◌-◌, ◌*◌, ◌≡◌, ◌≢◌, ◌<◌, ◌≤◌, List, [], ◌∷◌, ◌++◌, map, length, length-append, set, take, replicate, get_or}
use Rattle.std.proofs.Common.{refl, sym, ap, subst, ◌∙◌, arith, append_assoc, All}
use Rattle.std.proofs.lemmas.List.{map-set, length-map, take_all}
use Rattle.std.proofs.lemmas.List.Elements.{All-set, All-append, All-replicate}
use mathlib.Core.Option.{some}
use lib.ListN.{get_elem?}
use Rattle.atomic_table.specs.Table.{opening, Splits, Joins}
use Rattle.atomic_table.proofs.Lists.{at_map, set_else}
use Rattle.and_model.specs.Store.{HungGoal}
use Rattle.and_model.specs.Words.{HasWord, word_of}
use Rattle.and_model.specs.declared.reference.Ref.{Ref}
use Rattle.and_model.specs.declared.reference.Ref.TheVariants.{Free}
use Rattle.and_cells.specs.Ranges.{NamedProgram}
use Rattle.and_cells.specs.Rows.{IsSound}
use Rattle.and_store_laws.specs.AtWork.{Rule, opened, first_place}
use Rattle.and_store_laws.specs.Steps.{seat, blank}
use Rattle.and_store_laws.proofs.Lists.{map_append, all_push}
use Rattle.and_store_laws.proofs.Pairwise.{all_none}
use Rattle.and_store_laws.proofs.Opened.{opens}
use Rattle.and_store_laws.proofs.Tables.{splits_at, joins_at}
use Rattle.and_store_laws.proofs.Joining.{splits_keep, joins_keep}
use Rattle.and_store.specs.Kept.{Kept, AreNoted, HasGoal, place_word, first_place_word, words_of}
use Rattle.and_store.specs.Sight.{About, IsModest, Sight, seat_of, opening_of, opener, one_more, newcomer, taken_in, spent, dealing}
use Rattle.and_store.specs.Passes.{StoreId, fresh, fresh_from}
use Rattle.and_store.specs.Told.{mine_of, IsAlone}
use Rattle.and_store.proofs.Keeping.{all_at}

-- ---- the first words

replicate-more : {X : Type 0} (a b : ℕ) (x : X) → replicate (a + b) x ≡ replicate a x ++ replicate b x
replicate-more zero b x = let e : 0 + b ≡ b = omega arith in ap (λ n. replicate n x) e
replicate-more (suc a) b x = let e : suc a + b ≡ suc (a + b) = omega arith in ap (λ n. replicate n x) e ∙ ap (λ l. x ∷ l) (replicate-more a b x)

map-replicate : {X Y : Type 0} (f : X → Y) (n : ℕ) (x : X) → map f (replicate n x) ≡ replicate n (f x)
map-replicate f zero x = refl
map-replicate f (suc n) x = ap (λ l. f x ∷ l) (map-replicate f n x)

map-map : {X Y Z : Type 0} (f : Y → Z) (g : X → Y) (xs : List X) → map f (map g xs) ≡ map (λ x. f (g x)) xs
map-map f g [] = refl
map-map f g (x ∷ xs) = ap (λ l. f (g x) ∷ l) (map-map f g xs)

length-replicate : {X : Type 0} (n : ℕ) (x : X) → length (replicate n x) ≡ n
length-replicate zero x = refl
length-replicate (suc n) x = let e = length-replicate n x in omega arith

module _ (P : NamedProgram) (a : About) (goals : ℕ) (short : length a.first ≤ a.words) where
  abbrev first : List Ref
  first = a.first

  abbrev rest : ℕ
  rest = a.words - length first

  -- the words as they are put together
  module _ (r1 r2 r3 r4 r6 : List ℕ) (is1 : r1 ≡ map word_of first) (is2 : r2 ≡ take a.words r1 ++ replicate (a.words - length r1) 0)
      (is3 : r3 ≡ r2 ++ map first_place_word first)
      (is4 : r4 ≡ take (a.words + a.words + goals) r3 ++ replicate (a.words + a.words + goals - length r3) 0)
      (is6 : r6 ≡ (r4 ++ length first ∷ []) ++ 0 ∷ []) where
    long1 : length r1 ≡ length first
    long1 = ap length is1 ∙ length-map first word_of

    row_so : r2 ≡ map word_of first ++ replicate rest 0
    row_so = is2 ∙ ap (λ l. l ++ replicate (a.words - length r1) 0) (take_all a.words r1 (omega (arith, long1, short)) ∙ is1)
        ∙ ap (λ n. map word_of first ++ replicate (a.words - n) 0) long1

    long2 : length r2 ≡ a.words
    long2 = let x = ap length row_so in let y = length-append (map word_of first) (replicate rest 0) in let z = length-map first word_of in
        let w = length-replicate {X = ℕ} rest 0 in omega (arith, x, y, z, w, short)

    long3 : length r3 ≡ a.words + length first
    long3 = let x = ap length is3 in let y = length-append r2 (map first_place_word first) in let z = length-map first first_place_word in
        let w = long2 in omega (arith, x, y, z, w)

    tail : a.words + a.words + goals - length r3 ≡ rest + goals
    tail = let x = long3 in omega (arith, x, short)

    places_so : r4 ≡ r2 ++ ((map first_place_word first ++ replicate rest 0) ++ replicate goals 0)
    places_so = is4
        ∙ ap (λ l. l ++ replicate (a.words + a.words + goals - length r3) 0)
        (take_all (a.words + a.words + goals) r3 (let x = long3 in omega (arith, x, short)) ∙ is3)
        ∙ ap (λ n. (r2 ++ map first_place_word first) ++ replicate n 0) tail
        ∙ ap (λ l. (r2 ++ map first_place_word first) ++ l) (replicate-more rest goals 0)
        ∙ append_assoc r2 (map first_place_word first) (replicate rest 0 ++ replicate goals 0)
        ∙ ap (λ l. r2 ++ l) (sym (append_assoc (map first_place_word first) (replicate rest 0) (replicate goals 0)))

    row_is : map word_of (opened (opening_of P a)).row ≡ r2
    row_is = map_append word_of first (replicate rest Free) ∙ ap (λ l. map word_of first ++ l) (map-replicate word_of rest Free) ∙ sym row_so

    places_are : map place_word (opened (opening_of P a)).places ≡ map first_place_word first ++ replicate rest 0
    places_are = map-map place_word first_place (first ++ replicate rest Free) ∙ map_append first_place_word first (replicate rest Free)
        ∙ ap (λ l. map first_place_word first ++ l) (map-replicate first_place_word rest Free)

    pub words_built : r6 ≡ words_of (opened (opening_of P a)) (replicate goals 0)
    words_built = is6 ∙ append_assoc r4 (length first ∷ []) (0 ∷ [])
        ∙ ap (λ l. l ++ length first ∷ 0 ∷ []) places_so
        ∙ append_assoc r2 ((map first_place_word first ++ replicate rest 0) ++ replicate goals 0) (length first ∷ 0 ∷ [])
        ∙ ap (λ l. r2 ++ l) (append_assoc (map first_place_word first ++ replicate rest 0) (replicate goals 0) (length first ∷ 0 ∷ []))
        ∙ ap (λ l. l ++ ((map first_place_word first ++ replicate rest 0) ++ (replicate goals 0 ++ length first ∷ 0 ∷ []))) (sym row_is)
        ∙ ap (λ l. map word_of (opened (opening_of P a)).row ++ (l ++ (replicate goals 0 ++ length first ∷ 0 ∷ []))) (sym places_are)

-- the table's rule holds at the opening
pub opens_kept : (P : NamedProgram) (a : About) (words : List ℕ) → IsModest a → IsSound P a.first → All HasWord a.first → length a.first ≤ a.words
    → words ≡ words_of (opened (opening_of P a)) (replicate (2 * (a.seats * a.waiters)) 0) → Kept P a (opening words [] (opener a))
opens_kept P a words modest sound named short are = record {
  held = opened (opening_of P a);
  goals = replicate (2 * (a.seats * a.waiters)) 0;
  words = are;
  goal_words = length-replicate (2 * (a.seats * a.waiters)) 0;
  modest = modest;
  named = All-append HasWord a.first (replicate (a.words - length a.first) Free) named (All-replicate HasWord (a.words - length a.first) Free tt);
  rule = opens (opening_of P a) (record { sound = sound; long = short; shared = modest.some_seat; seated = modest.some_seat });
  about = all_push (λ (v : Sight). v.seat.members ≢ [] → v.about ≡ a) [] (opener a) (all_none (λ (v : Sight). v.seat.members ≢ [] → v.about ≡ a))
      (λ some_member. refl);
  hung = all_none (λ (g : HungGoal). HasGoal (replicate (2 * (a.seats * a.waiters)) 0) g.waiter g.goal);
  noted = all_push (λ (v : Sight). AreNoted (opening_of P a) (replicate (2 * (a.seats * a.waiters)) 0) v.seat.members v.noted) [] (opener a)
      (all_none (λ (v : Sight). AreNoted (opening_of P a) (replicate (2 * (a.seats * a.waiters)) 0) v.seat.members v.noted)) tt;
}

-- ---- a seat is dealt

pub deals : (P : NamedProgram) (a : About) (id made : ℕ) → 0 < made → made < a.seats
    → Splits {S = Unit {0}} (Kept P a) id (dealing a made) (one_more (dealing a made)) (newcomer (dealing a made))
deals P a id made some_made few s kept at =
    let v = dealing a made in
    let o = opening_of P a in
    let seats = map seat_of s.views in
    let left : ℕ = a.seats + 1 - made - 1 in
    let views = set s.views id (one_more v) ++ newcomer v ∷ [] in
    let sum : a.seats + 1 - made ≡ left + 1 = omega (arith, few) in
    let here : get_elem? seats id ≡ some (seat (left + 1) made (blank 0 ∷ [])) =
    at_map seat_of s.views id v at ∙ ap (λ n. some (seat n made (blank 0 ∷ []))) sum in
    let after : map seat_of views ≡ set seats id (seat left (made + 1) (blank 0 ∷ [])) ++ seat 1 0 (blank made ∷ []) ∷ [] =
    map_append seat_of (set s.views id (one_more v)) (newcomer v ∷ [])
    ∙ ap (λ l. l ++ seat 1 0 (blank made ∷ []) ∷ []) (map-set seat_of s.views id (one_more v)) in
    let about = all_at (λ (v : Sight). v.seat.members ≢ [] → v.about ≡ a) s.views id v kept.about at (λ none. absurd (cc)) in
    record {
      held = kept.held;
      goals = kept.goals;
      words = kept.words;
      goal_words = kept.goal_words;
      modest = kept.modest;
      named = kept.named;
      rule = subst (λ l. Rule o l kept.held) (sym after)
          (splits_keep o seats kept.held (set seats id (seat left (made + 1) (blank 0 ∷ [])) ++ seat 1 0 (blank made ∷ []) ∷ []) kept.held kept.rule
          (splits_at o seats id left 1 made (blank 0 ∷ []) kept.held (omega (arith, few)) (omega arith) some_made few here));
      about = all_push (λ (v : Sight). v.seat.members ≢ [] → v.about ≡ a) (set s.views id (one_more v)) (newcomer v)
          (All-set (λ (v : Sight). v.seat.members ≢ [] → v.about ≡ a) s.views id (one_more v) (λ x. refl) kept.about) (λ x. refl);
      hung = kept.hung;
      noted = all_push (λ (v : Sight). AreNoted o kept.goals v.seat.members v.noted) (set s.views id (one_more v)) (newcomer v)
          (All-set (λ (v : Sight). AreNoted o kept.goals v.seat.members v.noted) s.views id (one_more v) tt kept.noted) tt;
    }

pub dealt_one : (a : About) (made : ℕ) → 0 < made → made < a.seats → one_more (dealing a made) ≡ dealing a (made + 1)
dealt_one a made some_made few =
    let e : a.seats + 1 - made - 1 ≡ a.seats + 1 - (made + 1) = omega (arith, few) in
    ap (λ n. record { about = a; seat = seat n (made + 1) (blank 0 ∷ []); noted = [] }) e

-- ---- one seat takes in another

pub gathers : (P : NamedProgram) (a : About) (id other : ℕ) (v w : Sight) → IsAlone v → v.noted ≡ []
    → Joins {S = Unit {0}} (Kept P a) id v other w (taken_in v w) spent
gathers P a id other v w alone noted s kept at apart at_other =
    let o = opening_of P a in
    let seats = map seat_of s.views in
    let mid = set s.views id (taken_in v w) in
    let was : get_elem? s.views other ≡ some w = sym (set_else s.views id other (taken_in v w) apart) ∙ at_other in
    let after : map seat_of (set mid other spent) ≡ set (set seats id (taken_in v w).seat) other (seat 0 0 []) =
    map-set seat_of mid other spent ∙ ap (λ l. set l other (seat 0 0 [])) (map-set seat_of s.views id (taken_in v w)) in
    let own = all_at (λ (v : Sight). v.seat.members ≢ [] → v.about ≡ a) s.views id v kept.about at (λ none. let e = sym alone ∙ none in absurd (cc)) in
    record {
      held = kept.held;
      goals = kept.goals;
      words = kept.words;
      goal_words = kept.goal_words;
      modest = kept.modest;
      named = kept.named;
      rule = subst (λ l. Rule o l kept.held) (sym after)
          (joins_keep o seats kept.held (set (set seats id (taken_in v w).seat) other (seat 0 0 [])) kept.held kept.rule
          (joins_at seats id other v.seat w.seat kept.held (λ e. apart (sym e)) (at_map seat_of s.views id v at) (at_map seat_of s.views other w was)));
      about = All-set (λ (v : Sight). v.seat.members ≢ [] → v.about ≡ a) mid other spent (λ some_member. absurd (some_member refl))
          (All-set (λ (v : Sight). v.seat.members ≢ [] → v.about ≡ a) s.views id (taken_in v w) (λ x. own) kept.about);
      hung = kept.hung;
      noted = All-set (λ (v : Sight). AreNoted o kept.goals v.seat.members v.noted) mid other spent tt
          (All-set (λ (v : Sight). AreNoted o kept.goals v.seat.members v.noted) s.views id (taken_in v w)
          (subst (λ l. AreNoted o kept.goals (l ++ w.seat.members) v.noted) (sym alone)
          (subst (AreNoted o kept.goals (mine_of v ∷ w.seat.members)) (sym noted) tt)) kept.noted);
    }

pub fresh_push : (store : StoreId) (number count : ℕ) → fresh_from store number count ++ fresh store (number + count) ∷ [] ≡ fresh_from store number (suc count)
fresh_push store number zero = let e : number + 0 ≡ number = omega arith in ap (λ n. fresh store n ∷ []) e
fresh_push store number (suc count) =
    let e : number + suc count ≡ suc number + count = omega arith in
    ap (λ l. fresh store number ∷ l) (ap (λ n. fresh_from store (suc number) count ++ fresh store n ∷ []) e ∙ fresh_push store (suc number) count)

pub take_next : (xs : List Ref) (i : ℕ) → i < length xs → take (i + 1) xs ≡ take i xs ++ get_or xs i Free ∷ []
take_next [] i h = absurd (omega arith)
take_next (x ∷ xs) zero h = refl
take_next (x ∷ xs) (suc i) h =
    let e : suc i + 1 ≡ suc (i + 1) = omega arith in
    ap (λ n. take n (x ∷ xs)) e ∙ ap (λ l. x ∷ l) (take_next xs i (omega arith))

pub words_next : (xs : List Ref) (i : ℕ) (r : Ref) (ws : List ℕ) (w : ℕ) (old row : List ℕ) → i < length xs → r ≡ get_or xs i Free → HasWord r → w ≡ word_of r
    → row ≡ old ++ map word_of (take i xs) → All HasWord (take i xs)
    → ws ≡ row ++ w ∷ [] → (ws ≡ old ++ map word_of (take (i + 1) xs)) × All HasWord (take (i + 1) xs)
words_next xs i r ws w old row h is named e has all push =
    let next = take_next xs i h ∙ ap (λ x. take i xs ++ x ∷ []) (sym is) in (
      push ∙ ap (λ l. l ++ w ∷ []) has ∙ append_assoc old (map word_of (take i xs)) (w ∷ [])
          ∙ ap (λ l. old ++ l) (ap (λ n. map word_of (take i xs) ++ n ∷ []) e ∙ sym (map_append word_of (take i xs) (r ∷ [])))
          ∙ ap (λ l. old ++ map word_of l) (sym next),
      subst (All HasWord) (sym next) (all_push HasWord (take i xs) r all named),
    )
