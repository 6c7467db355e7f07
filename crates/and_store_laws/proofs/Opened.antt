-- What holds at the opening, and what the rule tells.
use Rattle.std.proofs.Common.{ℕ, zero, suc, ◌+◌, ◌-◌, ◌^◌, ◌<◌, ◌≤◌, ◌≡◌, ◌≢◌, ◌⊎◌, inl, inr, true, false, cond, List, [], ◌∷◌, ◌++◌, map, length, replicate}
use Rattle.std.proofs.Common.{refl, sym, ap, subst, ◌∙◌, arith, append-nil, All, Contains, length-append}
use Rattle.std.specs.Prelude.{nat_lt}
use Rattle.std.proofs.lemmas.Bool.Decides.{nat_tests}
use Rattle.std.proofs.lemmas.List.{length-replicate}
use Rattle.std.proofs.lemmas.List.Elements.{All-contains, All-weaker, All-cons}
use Rattle.std.proofs.lemmas.List.Kept.{AllPairs-cons}
use Rattle.std.proofs.lemmas.List.Sums.{sum_by-le}
use Rattle.and_model.specs.Prefixes.{IsPrefix}
use Rattle.and_model.specs.Store.{Setting, HungGoal, JournalEntry, empty, occupied, closed, AreDistinct, settings_of, entries_by, set_in, set_from, is_free}
use Rattle.and_model.specs.Store.{Known}
use Rattle.and_cells.specs.Ranges.{CanHold, IsGoalInRange}
use Rattle.and_cells.proofs.Keeping.{can_hold_more}
use Rattle.and_model.specs.declared.reference.Ref.{Ref}
use Rattle.and_model.specs.declared.reference.Ref.TheVariants.{Free}
use Rattle.and_store_laws.specs.AtWork.{Opening, Member, Seat, Held, Works, AtWork, Rule, IsPlaced, IsOwnWaiter, CanOpen, opened, first_place, word_at}
use Rattle.and_store_laws.specs.AtWork.{place_at, number_of, over, longer, journal_of, all_members}
use Rattle.and_store_laws.specs.Steps.{setting, seat, blank}
use Rattle.and_laws.proofs.Pairwise.{all_none, all_pairs_none, all_first, all_rest}
use Rattle.and_store_laws.proofs.Lists.{contains_first, contains_cases, contains_none, contains_map, map_contains, all_of}
use Rattle.and_store_laws.proofs.Words.{set_from_is, set_in_is, set_in_has}
use Rattle.and_store_laws.proofs.Journal.{entries_more}
use Rattle.and_store_laws.proofs.Quiet.{knew}
use Rattle.and_store_laws.proofs.Joining.{blank_works}

-- free words behind a row set nothing
free_behind : (n k : ℕ) (row : List Ref) → set_from n (row ++ replicate k Free) ≡ set_from n row
free_behind n zero row = ap (set_from n) (append-nil row)
free_behind n (suc k) [] = free_behind (suc n) k []
free_behind n (suc k) (r ∷ row) = ap (λ l. cond (is_free r) l (setting n r ∷ l)) (free_behind (suc n) (suc k) row)

set_apart : (n : ℕ) (row : List Ref) → AreDistinct (map (λ (s : Setting). s.place) (set_from n row))
set_apart n [] = all_pairs_none (λ (a b : ℕ). a ≢ b)
set_apart n (r ∷ row) = elim (is_free r) as
    (λ b. AreDistinct (map (λ (s : Setting). s.place) (cond b (set_from (suc n) row) (setting n r ∷ set_from (suc n) row)))) [
      | true ↦ set_apart (suc n) row
      | false ↦ AllPairs-cons (λ a b. a ≢ b) n (map (λ (s : Setting). s.place) (set_from (suc n) row))
          (all_of (λ b. n ≢ b) (map (λ (s : Setting). s.place) (set_from (suc n) row)) (λ p c e.
          let r = map_contains (λ (s : Setting). s.place) p (set_from (suc n) row) c in
          let at = set_from_is (suc n) row r.0 r.1 in
          let place = at.1 in
          let same = r.2 in
          absurd (omega arith)))
          (set_apart (suc n) row)
    ]

places_are : (row : List Ref) (p : ℕ) → place_at (map first_place row) p ≡ first_place (word_at row p)
places_are [] p = refl
places_are (r ∷ row) zero = refl
places_are (r ∷ row) (suc p) = places_are row p

never_occupied : (r : Ref) (waiter : ℕ) → first_place r ≡ occupied waiter → ⊥
never_occupied r waiter = elim (is_free r) as (λ b. cond b empty closed ≡ occupied waiter → ⊥) [ true ↦ λ e. cc | false ↦ λ e. cc ]

length_map : {X Y : Type 0} (f : X → Y) (xs : List X) → length (map f xs) ≡ length xs
length_map f [] = refl
length_map f (x ∷ xs) = ap suc (length_map f xs)

nothing_split : {X : Type 0} (before after : List X) (x : X) → [] ≡ before ++ x ∷ after → ⊥
nothing_split [] after x e = cc
nothing_split (b ∷ before) after x e = cc

-- One seat has all shares, and its pass has done nothing.
pub opens : (o : Opening) → CanOpen o → Rule o (seat o.shares 1 (blank 0 ∷ []) ∷ []) (opened o)
opens o can =
    let row : List Ref = o.first ++ replicate (o.words - length o.first) Free in
    let h = opened o in
    let long = can.long in
    let len : length row ≡ o.words = let a = length-append o.first (replicate (o.words - length o.first) Free) in
    let b = length-replicate (o.words - length o.first) Free in omega arith in
    let set_is : set_in row ≡ set_in o.first = free_behind 0 (o.words - length o.first) o.first in record {
      seated = record {
        shares = omega arith;
        spent = All-cons (λ (v : Seat). v.shares ≡ 0 → v.members ≡ []) (seat o.shares 1 (blank 0 ∷ [])) [] (λ z. let x = can.shared in absurd (omega arith))
            (all_none (λ (v : Seat). v.shares ≡ 0 → v.members ≡ []));
        numbers = All-cons (λ (m : Member). m.pass.number < 1) (blank 0) [] (omega arith) (all_none (λ (m : Member). m.pass.number < 1));
        made = All-cons (λ (v : Seat). (v.made ≡ 0) ⊎ (v.made ≡ 1)) (seat o.shares 1 (blank 0 ∷ [])) [] (inr refl)
            (all_none (λ (v : Seat). (v.made ≡ 0) ⊎ (v.made ≡ 1)));
        few = let x = can.seated in omega arith;
        passes = omega arith;
        made_by_one = omega arith;
      };
      at_work = record {
        holds = record {
          words = len;
          places = length_map first_place row ∙ len;
          set_words = λ s. (
            (λ c. subst (λ l. Contains l s) (set_is ∙ sym (append-nil (set_in o.first))) c),
            (λ c. subst (λ l. Contains l s) (append-nil (set_in o.first) ∙ sym set_is) c),
          );
          set_once = subst (λ l. AreDistinct (map (λ (s : Setting). s.place) l)) (sym (append-nil (set_in o.first))) (set_apart 0 o.first);
          fits = λ s c.
              let is = set_in_is o.first s (subst (λ l. Contains l s) set_is c) in
              can_hold_more o.program (length o.first) o.words s.place s.value long
              (subst (CanHold o.program (length o.first) s.place) is.0 (can.sound.fits s.place));
          written_first = λ s c pair e.
              let is = set_in_is o.first s c in
              let w = can.sound.written s.place pair (is.0 ∙ e) in (
                contains_map (λ (s : Setting). s.place) (setting pair (word_at o.first pair)) (set_in o.first)
                    (set_in_has o.first pair (word_at o.first pair) refl w.0),
                contains_map (λ (s : Setting). s.place) (setting (suc pair) (word_at o.first (suc pair))) (set_in o.first)
                    (set_in_has o.first (suc pair) (word_at o.first (suc pair)) refl w.1),
              );
          written = λ before after e is. absurd (nothing_split before after e is);
          frames = tt;
          ends = inl refl;
          failed = ((λ e. absurd (cc)), (λ e. absurd (e refl)));
          open_where_free = λ p e c. let x : empty ≡ closed = sym (places_are row p ∙ ap first_place e) ∙ c in absurd (cc);
          occupied_hung = λ cell waiter e. absurd (never_occupied (word_at row cell) waiter (sym (places_are row cell) ∙ e));
          hung_once = all_pairs_none (λ (a b : ℕ). a ≢ b);
          own_waiters = all_none (IsOwnWaiter o.waiters);
          goals = all_none (λ (g : HungGoal). IsGoalInRange o.program o.words g.goal);
        };
        each = All-cons (Works o h) (blank 0) [] (blank_works o 0 h refl) (all_none (Works o h));
        numbered = AllPairs-cons (λ (a b : ℕ). a ≢ b) 0 [] (all_none (λ b. 0 ≢ b)) (all_pairs_none (λ (a b : ℕ). a ≢ b));
        by_a_pass = all_none (λ (e : JournalEntry). Contains (map number_of (blank 0 ∷ [])) e.pass);
        seen = (blank 0, contains_first (blank 0) [], refl);
        mark = omega arith;
        mark_below = omega arith;
        placed = all_none (IsPlaced h.places (blank 0 ∷ []));
      };
    }

-- The mark is far below what a word holds, also when it is raised once more.
pub mark_fits : (o : Opening) (seats : List Seat) (h : Held) (weight : ℕ) → Rule o seats h → o.words ≤ 4194304 → o.seats ≤ 64 → weight ≤ 4194304
    → h.mark + weight < 2 ^ 64
mark_fits o seats h weight r words few small =
    let a = r.at_work.mark_below in
    let b = sum_by-le (λ (m : Member). length (over o.words m.pass.asked)) 1 (all_members seats)
    (All-weaker (Works o h) (λ (m : Member). length (over o.words m.pass.asked) ≤ 1) (λ m w. w.over_once) (all_members seats) r.at_work.each) in
    let c = r.seated.few in
    let d = r.seated.passes in
    omega arith

-- What a pass knows is so: the word has it.
pub known_is_so : (o : Opening) (members : List Member) (h : Held) (m : Member) (k : Known) → AtWork o members h → Contains members m → Contains m.pass.known k
    → (word_at h.row k.setting.place ≡ k.setting.value) × (k.setting.value ≢ Free)
known_is_so o members h m k a c i =
    let w = All-contains (Works o h) members m a.each c in
    let there = All-contains (λ (k : Known). Contains (set_in o.first ++ settings_of h.journal) k.setting) m.pass.known k
    (knew o.first h.mark h.journal m.pass w.fits) i in
    set_in_is h.row k.setting ((a.holds.set_words k.setting).1 there)

-- ---- the journal, as the passes have seen it

longest_or : (journal xs ys : List JournalEntry) → IsPrefix xs journal → IsPrefix ys journal → (xs ≡ journal) ⊎ (ys ≡ journal) → longer xs ys ≡ journal
longest_or journal xs ys p q one =
    (elim (nat_lt (length xs) (length ys)) as (λ b. nat_lt (length xs) (length ys) ≡ b → cond b ys xs ≡ journal) [
      | true ↦ λ is. elim one [
        | inl e ↦ (let a = ap length q.1 ∙ length-append ys q.0 in let b = ap length e in
            let lt : length xs < length ys = grind (arith, nat_tests) in absurd (omega arith))
        | inr e ↦ e
      ]
      | false ↦ λ is. elim one [
        | inl e ↦ e
        | inr e ↦
            let ge : length ys ≤ length xs = grind (arith, nat_tests) in
            let a = ap length p.1 ∙ length-append xs p.0 in
            let b = ap length e in
            let none : p.0 ≡ [] = no_length p.0 (omega arith) in
            sym (append-nil xs) ∙ ap (λ l. xs ++ l) (sym none) ∙ sym p.1
      ]
    ]) refl
  where
    no_length : (l : List JournalEntry) → length l ≡ 0 → l ≡ []
    no_length [] z = refl
    no_length (x ∷ l) z = absurd (omega arith)

longer_prefix : (journal xs ys : List JournalEntry) → IsPrefix xs journal → IsPrefix ys journal → IsPrefix (longer xs ys) journal
longer_prefix journal xs ys p q = elim (nat_lt (length xs) (length ys)) as (λ b. IsPrefix (cond b ys xs) journal) [ true ↦ q | false ↦ p ]

seen_prefix : (journal : List JournalEntry) (members : List Member) → All (λ (m : Member). IsPrefix m.pass.seen journal) members
    → IsPrefix (journal_of members) journal
seen_prefix journal [] h = (journal, refl)
seen_prefix journal (m ∷ members) h =
    longer_prefix journal m.pass.seen (journal_of members) (all_first (λ (m : Member). IsPrefix m.pass.seen journal) m members h)
    (seen_prefix journal members (all_rest (λ (m : Member). IsPrefix m.pass.seen journal) m members h))

longest : (journal : List JournalEntry) (members : List Member) (m : Member) → All (λ (m : Member). IsPrefix m.pass.seen journal) members → Contains members m
    → m.pass.seen ≡ journal → journal_of members ≡ journal
longest journal [] m h c e = absurd (contains_none m c)
longest journal (n ∷ members) m h c e =
    let here = all_first (λ (m : Member). IsPrefix m.pass.seen journal) n members h in
    let rest = all_rest (λ (m : Member). IsPrefix m.pass.seen journal) n members h in
    longest_or journal n.pass.seen (journal_of members) here (seen_prefix journal members rest) (elim (contains_cases n m members c) [
      | inl same ↦ inl (ap (λ (m : Member). m.pass.seen) (sym same) ∙ e)
      | inr k ↦ inr (longest journal members m rest k e)
    ])

pub journal_is : (o : Opening) (members : List Member) (h : Held) → AtWork o members h → journal_of members ≡ h.journal
journal_is o members h a = longest h.journal members a.seen.0
    (All-weaker (Works o h) (λ (m : Member). IsPrefix m.pass.seen h.journal) (λ m w. w.fits.seen) members a.each) a.seen.1 a.seen.2

-- What a pass has not seen of the journal yet has no entry of its own.
pub others_since : (o : Opening) (h : Held) (m : Member) → Works o h m
    → (since : List JournalEntry) × (h.journal ≡ m.pass.seen ++ since) × (entries_by m.pass since ≡ [])
others_since o h m w =
    let all : entries_by m.pass m.pass.seen ++ entries_by m.pass w.fits.seen.0 ≡ entries_by m.pass m.pass.seen =
    sym (entries_more m.pass m.pass.seen w.fits.seen.0) ∙ ap (entries_by m.pass) (sym w.fits.seen.1) ∙ sym w.own_seen in
    (w.fits.seen.0, w.fits.seen.1, nothing (entries_by m.pass m.pass.seen) (entries_by m.pass w.fits.seen.0) all)
  where
    nothing : (xs ys : List JournalEntry) → xs ++ ys ≡ xs → ys ≡ []
    nothing [] ys e = e
    nothing (x ∷ xs) ys e = nothing xs ys (cc)
