-- A seat is split, and two are joined.
use Rattle.std.proofs.Common.{ℕ, ◌+◌, ◌*◌, ◌<◌, ◌≤◌, ◌≡◌, ◌≢◌, ◌⊎◌, inl, inr, cond, List, [], ◌∷◌, ◌++◌, map, length, Some, refl, sym, ap, subst, ◌∙◌, arith}
use Rattle.std.proofs.Common.{append_assoc, All, Contains, length-append, ne_eqb}
use Rattle.std.specs.Prelude.{sum_by, IsPermutation}
use Rattle.std.proofs.lemmas.List.Elements.{All-contains, All-weaker, Contains-append_left, Contains-append_right, Contains-append_cases}
use Rattle.std.proofs.lemmas.List.Sorted.{length_permutation, All-permutation, Contains-permutation, sum_by-IsPermutation, IsPermutation-append_left}
use Rattle.std.proofs.lemmas.List.Sorted.{IsPermutation-append_right, IsPermutation-append_comm}
use Rattle.std.proofs.lemmas.List.Concat.{flat_map-append}
use Rattle.std.proofs.lemmas.List.Sums.{sum_by-append, sum_by-cons, sum_by_push}
use Rattle.and_model.specs.Store.{HungGoal, JournalEntry, closed, Took, Found, AreDistinct, settings_of, frames_of, fails_of, hung_of, set_in, Known, Asked}
use Rattle.and_model.specs.declared.reference.Ref.TheVariants.{Free}
use Rattle.and_store_laws.specs.AtWork.{Opening, Member, Seat, Held, Works, AtWork, AreSeated, Rule, IsPlaced, WasHung, number_of, asked_by, over, place_at}
use Rattle.and_store_laws.specs.AtWork.{word_at, all_members}
use Rattle.and_store_laws.specs.Steps.{seat, blank, Splits, Joins}
use Rattle.and_laws.proofs.Pairwise.{all_none, all_pairs_none, all_first, all_rest}
use Rattle.and_store_laws.proofs.Lists.{contains_there, contains_cases, contains_none, all_push, all_middle, sum_middle, map_append, contains_map}
use Rattle.and_store_laws.proofs.Lists.{map_contains, distinct_push, distinct_front, distinct_back, distinct_apart, distinct_join}
use Rattle.and_store_laws.proofs.Journal.{entries_of}
use Rattle.and_store_laws.proofs.Seats.{length_middle}

-- ---- a new pass

strangers : (number : ℕ) (journal : List JournalEntry) → All (λ (e : JournalEntry). e.pass < number) journal → entries_of number journal ≡ []
strangers number [] h = refl
strangers number (e ∷ journal) h =
    let below = all_first (λ (e : JournalEntry). e.pass < number) e journal h in
    ap (λ b. cond b (e ∷ entries_of number journal) (entries_of number journal)) (ne_eqb e.pass number (λ same. absurd (omega arith)))
    ∙ strangers number journal (all_rest (λ (e : JournalEntry). e.pass < number) e journal h)

nothing_split : {X : Type 0} (before after : List X) (x : X) → [] ≡ before ++ x ∷ after → ⊥
nothing_split [] after x e = cc
nothing_split (b ∷ before) after x e = cc

-- a new pass has done nothing
pub blank_works : (o : Opening) (number : ℕ) (h : Held) → entries_of number h.journal ≡ [] → Works o h (blank number)
blank_works o number h none = record {
  fits = record {
    seen = (h.journal, refl);
    settings = sym (ap settings_of none);
    frames = sym (ap frames_of none);
    fails = sym (ap fails_of none);
    hung = sym (ap hung_of none);
    known = all_none (λ (k : Known). Contains (set_in o.first ++ settings_of []) k.setting);
    own = refl;
    known_once = all_pairs_none (λ (n m : ℕ). n ≢ m);
    asked = all_none (λ (a : Asked). a.mark + a.weight ≤ h.mark);
  };
  has_closed = refl;
  took_closed = all_none (λ (t : Took). place_at h.places t.cell ≡ closed);
  pending_open = tt;
  took_hung = all_none (λ (t : Took). (waiter : ℕ) → t.waiter ≡ Some waiter → WasHung [] waiter t.cell);
  own_seen = sym none;
  ordered = λ before after k is own. absurd (nothing_split before after k is);
  found_closed = all_none (λ (f : Found). f.place ≡ closed → word_at h.row f.cell ≢ Free);
  waiters = all_none (λ (g : HungGoal). g.waiter < number * o.waiters + 0);
  waiters_left = omega arith;
  over_once = omega arith;
}

pub newcomer : (o : Opening) (members : List Member) (number : ℕ) (h : Held) → All (λ (m : Member). m.pass.number < number) members → AtWork o members h
    → AtWork o (members ++ blank number ∷ []) h
newcomer o members number h below a =
    let numbers : (k : ℕ) → Contains (map number_of members) k → k < number = λ k c.
    let r = map_contains number_of k members c in subst (λ k. k < number) r.2 (All-contains (λ (m : Member). m.pass.number < number) members r.0 below r.1) in
    let none : entries_of number h.journal ≡ [] = strangers number h.journal
    (All-weaker (λ (e : JournalEntry). Contains (map number_of members) e.pass) (λ (e : JournalEntry). e.pass < number) (λ e c. numbers e.pass c) h.journal
    a.by_a_pass) in record {
      holds = a.holds;
      each = all_push (Works o h) members (blank number) a.each (blank_works o number h none);
      numbered = subst AreDistinct (sym (map_append number_of members (blank number ∷ [])))
          (distinct_push (map number_of members) number a.numbered (λ c. let x = numbers number c in absurd (omega arith)));
      by_a_pass = All-weaker (λ (e : JournalEntry). Contains (map number_of members) e.pass)
          (λ (e : JournalEntry). Contains (map number_of (members ++ blank number ∷ [])) e.pass)
          (λ e c. subst (λ l. Contains l e.pass) (sym (map_append number_of members (blank number ∷ [])))
          (Contains-append_left (map number_of members) (number ∷ []) e.pass c)) h.journal a.by_a_pass;
      seen = (a.seen.0, Contains-append_left members (blank number ∷ []) a.seen.0 a.seen.1, a.seen.2);
      mark = let s = sum_by_push asked_by members (blank number) in let x = a.mark in omega arith;
      mark_below = let s = sum_by_push (λ (m : Member). length (over o.words m.pass.asked)) members (blank number) in let x = a.mark_below in omega arith;
      placed = All-weaker (IsPlaced h.places members) (IsPlaced h.places (members ++ blank number ∷ []))
          (λ g p. elim p [ inl x ↦ inl x | inr x ↦ inr (x.0, x.1, Contains-append_left members (blank number ∷ []) x.1 x.2, x.3) ])
          (hung_of h.journal) a.placed;
    }

at_most_sum : {X : Type 0} (f : X → ℕ) (xs : List X) (x : X) → Contains xs x → f x ≤ sum_by f xs
at_most_sum f [] x h = absurd (contains_none x h)
at_most_sum f (y ∷ ys) x h =
    let s = sum_by-cons f y ys in
    elim (contains_cases y x ys h) [
      | inl e ↦ (let same = ap f e in omega arith)
      | inr k ↦ (let r = at_most_sum f ys x k in omega arith)
    ]

-- two elements of a list, one of which is at this place
both_in_sum : {X : Type 0} (f : X → ℕ) (front back : List X) (v u : X) → Contains (front ++ back) u → f u + f v ≤ sum_by f (front ++ v ∷ back)
both_in_sum f front back v u h =
    let r = at_most_sum f (front ++ back) u h in
    let a = sum_by-append f front back in
    let b = sum_by-append f front (v ∷ back) in
    let c = sum_by-cons f v back in
    omega arith

pub splits_keep : (o : Opening) (before : List Seat) (h : Held) (after : List Seat) (k : Held) → Rule o before h → Splits o before h after k → Rule o after k
splits_keep o before h after k r s =
    subst (Rule o after) (sym s.held) (subst (λ seats. Rule o seats h) (sym s.becomes) (split (subst (λ seats. Rule o seats h) s.was r)))
  where
    v : Seat
    v = seat (s.left + s.right) s.made s.members

    split : Rule o (s.front ++ seat (s.left + s.right) s.made s.members ∷ s.back) h
        → Rule o ((s.front ++ seat s.left (s.made + 1) s.members ∷ s.back) ++ seat s.right 0 (blank s.made ∷ []) ∷ []) h
    split r =
        let v : Seat = seat (s.left + s.right) s.made s.members in
        let w : Seat = seat s.left (s.made + 1) s.members in
        let x : Seat = seat s.right 0 (blank s.made ∷ []) in
        let old = s.front ++ v ∷ s.back in
        let mid = s.front ++ w ∷ s.back in
        let new = mid ++ x ∷ [] in
        let some_left = s.some_left in
        let some_right = s.some_right in
        let makes = s.makes in
        let is_made : s.made ≡ length old =
        elim (All-contains (λ (v : Seat). (v.made ≡ 0) ⊎ (v.made ≡ length old)) old v r.seated.made (contains_there s.front s.back v))
        [ inl z ↦ absurd (omega arith) | inr z ↦ z ] in
        let len : length new ≡ length old + 1 = let a = length-append mid (x ∷ []) in let b = length_middle s.front s.back w v in omega arith in
        let members_mid : all_members mid ≡ all_members old =
        flat_map-append (λ (v : Seat). v.members) s.front (w ∷ s.back) ∙ sym (flat_map-append (λ (v : Seat). v.members) s.front (v ∷ s.back)) in
        let members_new : all_members new ≡ all_members old ++ blank s.made ∷ [] =
        flat_map-append (λ (v : Seat). v.members) mid (x ∷ []) ∙ ap (λ l. l ++ blank s.made ∷ []) members_mid in
        let below : All (λ (m : Member). m.pass.number < s.made) (all_members old) =
        subst (λ n. All (λ (m : Member). m.pass.number < n) (all_members old)) (sym is_made) r.seated.numbers in
        let one_maker = r.seated.made_by_one in
        let sum_mid = sum_middle (λ (v : Seat). v.made) s.front s.back v w in
        let sum_new = sum_by_push (λ (v : Seat). v.made) mid x in
        record {
          seated = record {
            shares = let a = sum_middle (λ (v : Seat). v.shares) s.front s.back v w in let b = sum_by_push (λ (v : Seat). v.shares) mid x in
                let c = r.seated.shares in omega arith;
            spent = all_push (λ (v : Seat). v.shares ≡ 0 → v.members ≡ []) mid x
                (all_middle (λ (v : Seat). v.shares ≡ 0 → v.members ≡ []) (λ (v : Seat). v.shares ≡ 0
                → v.members ≡ []) s.front s.back v w (λ u c y. y) (λ z. absurd (omega arith)) r.seated.spent)
                (λ z. absurd (omega arith));
            numbers = subst (All (λ (m : Member). m.pass.number < length new)) (sym members_new)
                (all_push (λ (m : Member). m.pass.number < length new) (all_members old) (blank s.made)
                (All-weaker (λ (m : Member). m.pass.number < s.made) (λ (m : Member). m.pass.number < length new) (λ m y. omega arith) (all_members old) below)
                (omega arith));
            made = all_push (λ (v : Seat). (v.made ≡ 0) ⊎ (v.made ≡ length new)) mid x
                (all_middle (λ (v : Seat). (v.made ≡ 0) ⊎ (v.made ≡ length old)) (λ (v : Seat). (v.made ≡ 0) ⊎ (v.made ≡ length new)) s.front s.back v w
                (λ u c y. elim y [ inl z ↦ inl z | inr z ↦ (let t = both_in_sum (λ (v : Seat). v.made) s.front s.back v u c in absurd (omega arith)) ])
                (inr (omega arith)) r.seated.made)
                (inl refl);
            few = let y = s.room in omega arith;
            passes = let a = ap length members_new in let b = length-append (all_members old) (blank s.made ∷ []) in let c = r.seated.passes in omega arith;
            made_by_one = omega arith;
          };
          at_work = subst (λ l. AtWork o l h) (sym members_new) (newcomer o (all_members old) s.made h below r.at_work);
        }

-- ---- two parts of the passes change places

rearranged : {X : Type 0} (xs ys zs : List X) (x : X) → Contains (xs ++ (ys ++ zs)) x → Contains (ys ++ (xs ++ zs)) x
rearranged xs ys zs x h = elim (Contains-append_cases xs (ys ++ zs) x h) [
  | inl k ↦ Contains-append_right ys (xs ++ zs) x (Contains-append_left xs zs x k)
  | inr k ↦ elim (Contains-append_cases ys zs x k) [
    | inl i ↦ Contains-append_left ys (xs ++ zs) x i
    | inr i ↦ Contains-append_right ys (xs ++ zs) x (Contains-append_right xs zs x i)
  ]
]

distinct_blocks : (front xs ys zs : List ℕ) → AreDistinct (front ++ (xs ++ (ys ++ zs))) → AreDistinct (front ++ (ys ++ (xs ++ zs)))
distinct_blocks front xs ys zs d =
    let back = distinct_back front (xs ++ (ys ++ zs)) d in
    let rest = distinct_back xs (ys ++ zs) back in
    distinct_join front (ys ++ (xs ++ zs)) (distinct_front front (xs ++ (ys ++ zs)) d)
    (distinct_join ys (xs ++ zs) (distinct_front ys zs rest)
    (distinct_join xs zs (distinct_front xs (ys ++ zs) back) (distinct_back ys zs rest)
    (λ x h k. distinct_apart xs (ys ++ zs) x back h (Contains-append_right ys zs x k)))
    (λ x h k. elim (Contains-append_cases xs zs x k) [
      | inl i ↦ distinct_apart xs (ys ++ zs) x back i (Contains-append_left ys zs x h)
      | inr i ↦ distinct_apart ys zs x rest h i
    ]))
    (λ x h k. distinct_apart front (xs ++ (ys ++ zs)) x d h (rearranged ys xs zs x k))

blocks : {X : Type 0} (front xs ys zs : List X) → IsPermutation (front ++ (xs ++ (ys ++ zs))) (front ++ (ys ++ (xs ++ zs)))
blocks front xs ys zs = IsPermutation-append_right front (xs ++ (ys ++ zs)) (ys ++ (xs ++ zs))
    (subst (λ l. IsPermutation (xs ++ (ys ++ zs)) l) (append_assoc ys xs zs)
    (subst (λ l. IsPermutation l ((ys ++ xs) ++ zs)) (append_assoc xs ys zs)
    (IsPermutation-append_left zs (xs ++ ys) (ys ++ xs) (IsPermutation-append_comm xs ys))))

map_blocks : {X Y : Type 0} (f : X → Y) (front xs ys zs : List X) → map f (front ++ (xs ++ (ys ++ zs))) ≡ map f front ++ (map f xs ++ (map f ys ++ map f zs))
map_blocks f front xs ys zs =
    map_append f front (xs ++ (ys ++ zs)) ∙ ap (λ l. map f front ++ l) (map_append f xs (ys ++ zs) ∙ ap (λ l. map f xs ++ l) (map_append f ys zs))

pub turned : (o : Opening) (front xs ys zs : List Member) (h : Held) → AtWork o (front ++ (xs ++ (ys ++ zs))) h → AtWork o (front ++ (ys ++ (xs ++ zs))) h
turned o front xs ys zs h a =
    let old = front ++ (xs ++ (ys ++ zs)) in
    let new = front ++ (ys ++ (xs ++ zs)) in
    let p : IsPermutation old new = blocks front xs ys zs in
    let moved : (k : ℕ) → Contains (map number_of old) k → Contains (map number_of new) k = λ k c.
    let r = map_contains number_of k old c in subst (Contains (map number_of new)) r.2
    (contains_map number_of r.0 new (Contains-permutation old new r.0 p r.1)) in record {
      holds = a.holds;
      each = All-permutation (Works o h) old new p a.each;
      numbered = subst AreDistinct (sym (map_blocks number_of front ys xs zs))
          (distinct_blocks (map number_of front) (map number_of xs) (map number_of ys) (map number_of zs)
          (subst AreDistinct (map_blocks number_of front xs ys zs) a.numbered));
      by_a_pass = All-weaker (λ (e : JournalEntry). Contains (map number_of old) e.pass) (λ (e : JournalEntry). Contains (map number_of new) e.pass)
          (λ e. moved e.pass) h.journal a.by_a_pass;
      seen = (a.seen.0, Contains-permutation old new a.seen.0 p a.seen.1, a.seen.2);
      mark = a.mark ∙ ap (λ n. length o.first + n) (sym (sum_by-IsPermutation asked_by old new p));
      mark_below = let s = sum_by-IsPermutation (λ (m : Member). length (over o.words m.pass.asked)) old new p in let x = a.mark_below in omega arith;
      placed = All-weaker (IsPlaced h.places old) (IsPlaced h.places new)
          (λ g q. elim q [ inl x ↦ inl x | inr x ↦ inr (x.0, x.1, Contains-permutation old new x.1 p x.2, x.3) ]) (hung_of h.journal) a.placed;
    }

-- ---- two seats are joined

all_two : (P : Seat → Type 0) (front between back : List Seat) (v w x y : Seat) → P x → P y → All P (front ++ v ∷ (between ++ w ∷ back))
    → All P (front ++ x ∷ (between ++ y ∷ back))
all_two P front between back v w x y p q h =
    let one = all_middle P P front (between ++ w ∷ back) v x (λ u c k. k) p h in
    subst (All P) (append_assoc front (x ∷ between) (y ∷ back))
    (all_middle P P (front ++ x ∷ between) back w y (λ u c k. k) q (subst (All P) (sym (append_assoc front (x ∷ between) (w ∷ back))) one))

sum_two : (f : Seat → ℕ) (front between back : List Seat) (v w : Seat)
    → sum_by f (front ++ v ∷ (between ++ w ∷ back)) ≡ sum_by f front + (f v + (sum_by f between + (f w + sum_by f back)))
sum_two f front between back v w =
    sum_by-append f front (v ∷ (between ++ w ∷ back)) ∙ ap (λ n. sum_by f front + n) (sum_by-cons f v (between ++ w ∷ back)
    ∙ ap (λ n. f v + n) (sum_by-append f between (w ∷ back) ∙ ap (λ n. sum_by f between + n) (sum_by-cons f w back)))

members_two : (front between back : List Seat) (v w : Seat)
    → all_members (front ++ v ∷ (between ++ w ∷ back)) ≡ all_members front ++ (v.members ++ (all_members between ++ (w.members ++ all_members back)))
members_two front between back v w =
    flat_map-append (λ (v : Seat). v.members) front (v ∷ (between ++ w ∷ back))
    ∙ ap (λ l. all_members front ++ (v.members ++ l)) (flat_map-append (λ (v : Seat). v.members) between (w ∷ back))

length_two : (front between back : List Seat) (v w x y : Seat) → length (front ++ v ∷ (between ++ w ∷ back)) ≡ length (front ++ x ∷ (between ++ y ∷ back))
length_two front between back v w x y =
    let a = length-append front (v ∷ (between ++ w ∷ back)) in
    let b = length-append between (w ∷ back) in
    let c = length-append front (x ∷ (between ++ y ∷ back)) in
    let d = length-append between (y ∷ back) in
    omega arith

-- The seats of a rule, two of which become others that have the same shares and passes together.
two_become : (o : Opening) (front between back : List Seat) (h : Held) (v w x y : Seat) → v.shares + w.shares ≡ x.shares + y.shares
    → x.made + y.made ≤ v.made + w.made
    → (x.shares ≡ 0 → x.members ≡ []) → (y.shares ≡ 0 → y.members ≡ [])
    → ((n : ℕ) → (v.made ≡ 0) ⊎ (v.made ≡ n) → (w.made ≡ 0) ⊎ (w.made ≡ n) → ((x.made ≡ 0) ⊎ (x.made ≡ n)) × ((y.made ≡ 0) ⊎ (y.made ≡ n)))
    → ((P : Member → Type 0) → All P (all_members (front ++ v ∷ (between ++ w ∷ back))) → All P (all_members (front ++ x ∷ (between ++ y ∷ back))))
    → length (all_members (front ++ x ∷ (between ++ y ∷ back))) ≡ length (all_members (front ++ v ∷ (between ++ w ∷ back)))
    → AtWork o (all_members (front ++ x ∷ (between ++ y ∷ back))) h → AreSeated o (front ++ v ∷ (between ++ w ∷ back))
    → Rule o (front ++ x ∷ (between ++ y ∷ back)) h
two_become o front between back h v w x y shares made_less x_spent y_spent made_as kept many work s =
    let old = front ++ v ∷ (between ++ w ∷ back) in
    let new = front ++ x ∷ (between ++ y ∷ back) in
    let len : length new ≡ length old = length_two front between back x y v w in
    let at_v : Contains old v = contains_there front (between ++ w ∷ back) v in
    let at_w : Contains old w =
    Contains-append_right front (v ∷ (between ++ w ∷ back)) w (Contains-append_right (v ∷ between) (w ∷ back) w (contains_there [] back w)) in
    let pair = made_as (length old) (All-contains (λ (v : Seat). (v.made ≡ 0) ⊎ (v.made ≡ length old)) old v s.made at_v)
    (All-contains (λ (v : Seat). (v.made ≡ 0) ⊎ (v.made ≡ length old)) old w s.made at_w) in record {
      seated = record {
        shares = let a = sum_two (λ (v : Seat). v.shares) front between back v w in let b = sum_two (λ (v : Seat). v.shares) front between back x y in
            let c = s.shares in omega arith;
        spent = all_two (λ (v : Seat). v.shares ≡ 0 → v.members ≡ []) front between back v w x y x_spent y_spent s.spent;
        numbers = subst (λ n. All (λ (m : Member). m.pass.number < n) (all_members new)) (sym len)
            (kept (λ (m : Member). m.pass.number < length old) s.numbers);
        made = subst (λ n. All (λ (v : Seat). (v.made ≡ 0) ⊎ (v.made ≡ n)) new) (sym len)
            (all_two (λ (v : Seat). (v.made ≡ 0) ⊎ (v.made ≡ length old)) front between back v w x y pair.0 pair.1 s.made);
        few = let a = s.few in omega arith;
        passes = let a = s.passes in omega arith;
        made_by_one = let a = sum_two (λ (v : Seat). v.made) front between back v w in let b = sum_two (λ (v : Seat). v.made) front between back x y in
            let c = s.made_by_one in omega arith;
      };
      at_work = work;
    }

both_empty : {X : Type 0} (xs ys : List X) → xs ≡ [] → ys ≡ [] → xs ++ ys ≡ []
both_empty xs ys p q = ap (λ l. l ++ ys) p ∙ q

module _ (o : Opening) (front between back : List Seat) (h : Held) (v w : Seat) where
  abbrev both : Seat
  both = seat (v.shares + w.shares) v.made (v.members ++ w.members)

  abbrev spent : Seat
  spent = seat 0 0 []

  both_spent : All (λ (v : Seat). v.shares ≡ 0 → v.members ≡ []) (v ∷ w ∷ []) → both.shares ≡ 0 → both.members ≡ []
  both_spent s z = both_empty v.members w.members
      (all_first (λ (v : Seat). v.shares ≡ 0 → v.members ≡ []) v (w ∷ []) s (omega arith))
      (all_first (λ (v : Seat). v.shares ≡ 0 → v.members ≡ []) w [] (all_rest (λ (v : Seat). v.shares ≡ 0 → v.members ≡ []) v (w ∷ []) s) (omega arith))

  join_right : Rule o (front ++ v ∷ (between ++ w ∷ back)) h → Rule o (front ++ both ∷ (between ++ spent ∷ back)) h
  join_right r =
      let old = front ++ v ∷ (between ++ w ∷ back) in
      let at_v : Contains old v = contains_there front (between ++ w ∷ back) v in
      let at_w : Contains old w =
      Contains-append_right front (v ∷ (between ++ w ∷ back)) w (Contains-append_right (v ∷ between) (w ∷ back) w (contains_there [] back w)) in
      let F = all_members front in
      let M = all_members between in
      let B = all_members back in
      let is_old : all_members old ≡ (F ++ v.members) ++ (M ++ (w.members ++ B)) =
      members_two front between back v w ∙ sym (append_assoc F v.members (M ++ (w.members ++ B))) in
      let is_new : all_members (front ++ both ∷ (between ++ spent ∷ back)) ≡ (F ++ v.members) ++ (w.members ++ (M ++ B)) =
      members_two front between back both spent ∙ ap (λ l. F ++ l) (append_assoc v.members w.members (M ++ B))
      ∙ sym (append_assoc F v.members (w.members ++ (M ++ B))) in
      two_become o front between back h v w both spent (omega arith) (omega arith)
      (λ z. both_empty v.members w.members (All-contains (λ (v : Seat). v.shares ≡ 0 → v.members ≡ []) old v r.seated.spent at_v (omega arith))
      (All-contains (λ (v : Seat). v.shares ≡ 0 → v.members ≡ []) old w r.seated.spent at_w (omega arith)))
      (λ z. refl) (λ n p q. (p, inl refl))
      (λ P all. subst (All P) (sym is_new)
      (All-permutation P ((F ++ v.members) ++ (M ++ (w.members ++ B))) ((F ++ v.members) ++ (w.members ++ (M ++ B))) (blocks (F ++ v.members) M w.members B)
      (subst (All P) is_old all)))
      (ap length is_new ∙ length_permutation ((F ++ v.members) ++ (M ++ (w.members ++ B))) ((F ++ v.members) ++ (w.members ++ (M ++ B)))
      (blocks (F ++ v.members) M w.members B) ∙ sym (ap length is_old))
      (subst (λ l. AtWork o l h) (sym is_new) (turned o (F ++ v.members) M w.members B h (subst (λ l. AtWork o l h) is_old r.at_work)))
      r.seated

  join_left : Rule o (front ++ w ∷ (between ++ v ∷ back)) h → Rule o (front ++ spent ∷ (between ++ both ∷ back)) h
  join_left r =
      let old = front ++ w ∷ (between ++ v ∷ back) in
      let at_w : Contains old w = contains_there front (between ++ v ∷ back) w in
      let at_v : Contains old v =
      Contains-append_right front (w ∷ (between ++ v ∷ back)) v (Contains-append_right (w ∷ between) (v ∷ back) v (contains_there [] back v)) in
      let F = all_members front in
      let M = all_members between in
      let B = all_members back in
      let is_old : all_members old ≡ F ++ (w.members ++ ((M ++ v.members) ++ B)) =
      members_two front between back w v ∙ ap (λ l. F ++ (w.members ++ l)) (sym (append_assoc M v.members B)) in
      let is_new : all_members (front ++ spent ∷ (between ++ both ∷ back)) ≡ F ++ ((M ++ v.members) ++ (w.members ++ B)) =
      members_two front between back spent both ∙ ap (λ l. F ++ (M ++ l)) (append_assoc v.members w.members B)
      ∙ ap (λ l. F ++ l) (sym (append_assoc M v.members (w.members ++ B))) in
      two_become o front between back h w v spent both (omega arith) (omega arith) (λ z. refl)
      (λ z. both_empty v.members w.members (All-contains (λ (v : Seat). v.shares ≡ 0 → v.members ≡ []) old v r.seated.spent at_v (omega arith))
      (All-contains (λ (v : Seat). v.shares ≡ 0 → v.members ≡ []) old w r.seated.spent at_w (omega arith)))
      (λ n p q. (inl refl, q))
      (λ P all. subst (All P) (sym is_new)
      (All-permutation P (F ++ (w.members ++ ((M ++ v.members) ++ B))) (F ++ ((M ++ v.members) ++ (w.members ++ B))) (blocks F w.members (M ++ v.members) B)
      (subst (All P) is_old all)))
      (ap length is_new ∙ length_permutation (F ++ (w.members ++ ((M ++ v.members) ++ B))) (F ++ ((M ++ v.members) ++ (w.members ++ B)))
      (blocks F w.members (M ++ v.members) B) ∙ sym (ap length is_old))
      (subst (λ l. AtWork o l h) (sym is_new) (turned o F w.members (M ++ v.members) B h (subst (λ l. AtWork o l h) is_old r.at_work)))
      r.seated

pub joins_keep : (o : Opening) (before : List Seat) (h : Held) (after : List Seat) (k : Held) → Rule o before h → Joins before h after k → Rule o after k
joins_keep o before h after k r s = subst (Rule o after) (sym s.held) (elim s.steps [
  | inl x ↦ subst (λ seats. Rule o seats h) (sym x.1) (join_right o s.front s.between s.back h s.v s.w (subst (λ seats. Rule o seats h) x.0 r))
  | inr x ↦ subst (λ seats. Rule o seats h) (sym x.1) (join_left o s.front s.between s.back h s.v s.w (subst (λ seats. Rule o seats h) x.0 r))
])
