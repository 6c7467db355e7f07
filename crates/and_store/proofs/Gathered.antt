-- The seats of all passes are put together, and the store is closed.
use Rattle.std.proofs.Common.{ℕ, zero, suc, ◌+◌, ◌-◌, ◌≡◌, ◌≢◌, ◌<◌, ◌≤◌, ◌⊎◌, inl, inr, true, false, Bool, cond, List, [], ◌∷◌, ◌++◌, map, length, take}
use Rattle.std.proofs.Common.{drop, get_or, None, refl, sym, ap, subst, ◌∙◌, arith, append_assoc, All, Contains}
use Rattle.std.specs.Prelude.{◌↔◌, nat_eq, not}
use Rattle.std.proofs.lemmas.Bool.{cases_lt}
use Rattle.std.proofs.lemmas.List.{get_or_past}
use Rattle.std.proofs.lemmas.List.Elements.{All-append, All-cons, All-contains, All-take, All-weaker, Contains-push, Contains-append_left}
use mathlib.Core.Option.{some, some-injective, some-ne-none}
use lib.ListN.{get_elem?}
use Rattle.atomic_table.specs.Table.{State, Final, Seen}
use Rattle.atomic_table.proofs.Lists.{at_map}
use Rattle.and_model.specs.Store.{Setting, JournalEntry, Pass, Row, set_in, set_from, settings_of, mark, is_free}
use Rattle.and_model.specs.Words.{HasWord, word_of}
use Rattle.and_model.specs.declared.reference.Ref.{Ref}
use Rattle.and_model.specs.declared.reference.Ref.TheVariants.{Free, Cell, Node, Number, Half}
use Rattle.and_cells.specs.Ranges.{NamedProgram, CanHold}
use Rattle.and_cells.specs.Rows.{AreWords, ref_of, row_of}
use Rattle.and_cells.proofs.PlainRows.{ref_of_word}
use Rattle.and_store_laws.specs.AtWork.{Opening, Member, Seat, Rule, all_members, journal_of, pass_of, word_at}
use Rattle.and_store_laws.proofs.Lists.{map_append, all_push, contains_there, contains_first, contains_more}
use Rattle.and_store_laws.proofs.Pairwise.{all_none, all_first, all_rest}
use Rattle.and_store_laws.proofs.AtClose.{close_keeps, all_of_them}
use Rattle.and_store_laws.proofs.Opened.{journal_is}
use Rattle.and_store.specs.Ended.{IsGathered, LastEnds, Closes, passes_of}
use Rattle.and_store.specs.Kept.{Kept, flag, words_of}
use Rattle.and_store.specs.Passes.{StoreId, PassSeen, last_end}
use Rattle.and_store.specs.Sight.{About, Sight, seat_of, opening_of, taken_in}
use Rattle.and_store.proofs.Failing.{failing}
use Rattle.and_store.proofs.Raised.{fail_index}
use Rattle.and_store.proofs.Words.{row_at, fail_found}

pub gathers_on : (a : About) (v w : Sight) (p : PassSeen) (ps : List PassSeen) → IsGathered a v (p ∷ []) → IsGathered a w ps
    → IsGathered a (taken_in v w) (p ∷ ps)
gathers_on a v w p ps g h = record {
  about = g.about;
  shares = let x = g.shares in let y = h.shares in omega arith;
  members = map_append pass_of v.seat.members w.seat.members ∙ ap (λ l. l ++ map pass_of w.seat.members) g.members ∙ ap (λ l. p.pass ∷ l) h.members;
  at_rest = All-append (λ (m : Member). m.pending ≡ None) v.seat.members w.seat.members g.at_rest h.at_rest;
}

parted : {X : Type 0} (xs : List X) (i : ℕ) (x : X) → get_elem? xs i ≡ some x → xs ≡ take i xs ++ x ∷ drop (suc i) xs
parted [] i x e = absurd (some-ne-none x (sym e))
parted (y ∷ xs) zero x e = ap (λ z. z ∷ xs) (some-injective y x e)
parted (y ∷ xs) (suc i) x e = ap (λ l. y ∷ l) (parted xs i x e)

module _ (P : NamedProgram) (a : About) (passes : List PassSeen) (id : ℕ) (v : Sight) (words : List ℕ) (xs : List (Unit {0})) (g : IsGathered a v passes)
    (all : length passes ≡ a.seats)
    (final : Final (Seen (Kept P a) id v) words xs) where
  abbrev s : State (Unit {0}) Sight
  s = final.0

  abbrev pub end_kept : Kept P a s
  end_kept = final.1.0

  abbrev o : Opening
  o = opening_of P a

  abbrev seats : List Seat
  seats = map seat_of s.views

  abbrev front : List Seat
  front = take id seats

  abbrev back : List Seat
  back = drop (suc id) seats

  seats_are : seats ≡ front ++ v.seat ∷ back
  seats_are = parted seats id v.seat (at_map seat_of s.views id v final.1.1)

  rule_parted : Rule o (front ++ v.seat ∷ back) end_kept.held
  rule_parted = subst (λ l. Rule o l end_kept.held) seats_are end_kept.rule

  shares : v.seat.shares ≡ a.seats
  shares = g.shares ∙ all

  members_all : all_members (front ++ v.seat ∷ back) ≡ v.seat.members
  members_all = all_of_them o front back v.seat rule_parted.seated shares

  pub end_row : Row a.first (passes_of passes) end_kept.held.journal end_kept.held.row
  end_row = subst (λ ps. Row a.first ps end_kept.held.journal end_kept.held.row) g.members
      (close_keeps o front back v.seat end_kept.held rule_parted shares g.at_rest)

  pub end_journal : journal_of v.seat.members ≡ end_kept.held.journal
  end_journal = ap journal_of (sym members_all) ∙ journal_is o (all_members (front ++ v.seat ∷ back)) end_kept.held rule_parted.at_work

  pub end_words : words ≡ words_of end_kept.held end_kept.goals
  end_words = sym final.2 ∙ end_kept.words

pub from_store : (store : StoreId) (all left rest ps : List PassSeen) (p : PassSeen) → All (λ (p : PassSeen). p.store ≡ store) all → all ≡ left ++ ps
    → left ≡ rest ++ p ∷ [] → p.store ≡ store
from_store store all left rest ps p h e f =
    All-contains (λ (p : PassSeen). p.store ≡ store) (rest ++ p ∷ ps) p
    (subst (All (λ (p : PassSeen). p.store ≡ store)) (e ∙ ap (λ l. l ++ ps) f ∙ append_assoc rest (p ∷ []) ps) h) (contains_there rest ps p)

-- ---- the row is cut off behind what is set

-- only free words lie from here on
FreeFrom : ℕ → List Ref → Type 0
FreeFrom n row = (i : ℕ) → n ≤ i → word_at row i ≡ Free

set_none : (k : ℕ) (row : List Ref) → FreeFrom 0 row → set_from k row ≡ []
unfolding FreeFrom
set_none k [] free = refl
set_none k (r ∷ row) free =
    let here : is_free r ≡ true = ap is_free (free 0 (omega arith)) in
    ap (λ b. cond {A = List Setting} b (set_from (suc k) row) (record { place = k; value = r } ∷ set_from (suc k) row)) here
    ∙ set_none (suc k) row (λ i h. free (suc i) (omega arith))

set_cut : (k n : ℕ) (row : List Ref) → FreeFrom n row → set_from k (take n row) ≡ set_from k row
unfolding FreeFrom
set_cut k zero row free = sym (set_none k row free)
set_cut k (suc n) [] free = refl
set_cut k (suc n) (r ∷ row) free =
    ap (λ l. cond {A = List Setting} (is_free r) l (record { place = k; value = r } ∷ l)) (set_cut (suc k) n row (λ i h. free (suc i) (omega arith)))

row_cut : (first : List Ref) (passes : List Pass) (journal : List JournalEntry) (row : List Ref) (n : ℕ) → FreeFrom n row → Row first passes journal row
    → Row first passes journal (take n row)
row_cut first passes journal row n free r =
    let same : set_in (take n row) ≡ set_in row = set_cut 0 n row free in record {
      set_words = subst (λ l. (s : Setting) → Contains l s ↔ Contains (set_in first ++ settings_of journal) s) (sym same) r.set_words;
      set_once = r.set_once;
      passes_fit = r.passes_fit;
      closed = r.closed;
      by_a_pass = r.by_a_pass;
      numbered = r.numbered;
      falls = subst (λ l. (s : Setting) → Contains l s → (cell : ℕ) → s.value ≡ Cell cell → cell < s.place) (sym same) r.falls;
      written_first = r.written_first;
      written = r.written;
      frames = r.frames;
      hung_once = r.hung_once;
      taken_once = r.taken_once;
      taken_was_hung = r.taken_was_hung;
      hung_is_taken = r.hung_is_taken;
    }

take_at : (n i : ℕ) (row : List Ref) → i < n → word_at (take n row) i ≡ word_at row i
take_at zero i row h = absurd (omega arith)
take_at (suc n) i [] h = refl
take_at (suc n) zero (r ∷ row) h = refl
take_at (suc n) (suc i) (r ∷ row) h = take_at n i row (omega arith)

length-take-le : (n : ℕ) (row : List Ref) → n ≤ length row → length (take n row) ≡ n
length-take-le zero row h = refl
length-take-le (suc n) [] h = absurd (omega arith)
length-take-le (suc n) (r ∷ row) h = let e = length-take-le n row (omega arith) in omega (arith, e)

take-left : (n : ℕ) (row : List Ref) (rest : List ℕ) → n ≤ length row → take n (map word_of row ++ rest) ≡ map word_of (take n row)
take-left zero row rest h = refl
take-left (suc n) [] rest h = absurd (omega arith)
take-left (suc n) (r ∷ row) rest h = ap (λ l. word_of r ∷ l) (take-left n row rest (omega arith))

zero_free : (r : Ref) → word_of r ≡ 0 → r ≡ Free
zero_free Free e = refl
zero_free (Cell cell) e = absurd (omega arith)
zero_free (Node node base) e = absurd (omega arith)
zero_free (Number pair) e = absurd (omega arith)
zero_free (Half bits) e = absurd (omega arith)

words_named : (row : List Ref) → All HasWord row → AreWords (map word_of row)
words_named [] h = all_none (λ w. HasWord (ref_of w) × (word_of (ref_of w) ≡ w))
words_named (r ∷ row) h =
    let has = all_first HasWord r row h in
    let back = ref_of_word r has in
    All-cons (λ w. HasWord (ref_of w) × (word_of (ref_of w) ≡ w)) (word_of r) (map word_of row)
    (subst HasWord (sym back) has, ap word_of back) (words_named row (all_rest HasWord r row h))

row_back : (row : List Ref) → All HasWord row → row_of (map word_of row) ≡ row
row_back [] h = refl
row_back (r ∷ row) h =
    ap (λ x. x ∷ row_of (map word_of row)) (ref_of_word r (all_first HasWord r row h)) ∙ ap (λ l. r ∷ l) (row_back row (all_rest HasWord r row h))

flag_up : (b : Bool) → not (nat_eq (flag b) 0) ≡ b
flag_up true = refl
flag_up false = refl

module _ (P : NamedProgram) (a : About) (passes : List PassSeen) (id : ℕ) (v : Sight) (words : List ℕ) (xs : List (Unit {0})) (g : IsGathered a v passes)
    (all : length passes ≡ a.seats)
    (final : Final (Seen (Kept P a) id v) words xs) (least end : ℕ) (least_is : LastEnds a (passes_of passes) least) (least_in : least ≤ end)
    (in_words : end ≤ a.words)
    (free : (place : ℕ) → end ≤ place → place < a.words → get_or words place 0 ≡ 0) (no_longer : (end ≡ least)
    ⊎ ((0 < end) × (get_or words (end - 1) 0 ≢ 0))) where
  abbrev k : Kept P a final.0
  k = end_kept P a passes id v words xs g all final

  abbrev row : List Ref
  row = k.held.row

  row_long : length row ≡ a.words
  row_long = k.rule.at_work.holds.words

  words_so : words ≡ words_of k.held k.goals
  words_so = end_words P a passes id v words xs g all final

  word_so : (place : ℕ) → place < a.words → get_or words place 0 ≡ word_of (word_at row place)
  word_so place h = ap (λ l. get_or l place 0) words_so ∙ row_at k.held k.goals a.words row_long k.rule.at_work.holds.places place h

  free_from : FreeFrom end row
  unfolding FreeFrom
  free_from i h = elim (cases_lt i a.words) [
    | inl l ↦ zero_free (word_at row i) (sym (word_so i l) ∙ free i h l)
    | inr out ↦ get_or_past row i Free (omega (arith, row_long, out))
  ]

  taken_is : take end words ≡ map word_of (take end row)
  taken_is = ap (take end) words_so ∙ take-left end row _ (omega (arith, row_long, in_words))

  pub taken_words : (taken : List ℕ) → taken ≡ take end words → AreWords taken
  taken_words taken is = subst AreWords (sym (is ∙ taken_is)) (words_named (take end row) (All-take HasWord end row k.named))

  pub closes_so : (taken : List ℕ) (found : ℕ) (up : Bool) → taken ≡ take end words → found ≡ get_or words (fail_index a) 0 → up ≡ not (nat_eq found 0)
      → Closes P a (passes_of passes) (row_of taken) up (journal_of v.seat.members)
  closes_so taken found up is fail is_up =
      let row_is : row_of taken ≡ take end row = ap row_of (is ∙ taken_is) ∙ row_back (take end row) (All-take HasWord end row k.named) in
      let whole = end_row P a passes id v words xs g all final in
      let cut_long : length (take end row) ≡ end = length-take-le end row (omega (arith, row_long, in_words)) in
      let journal = end_journal P a passes id v words xs g all final in
      let fail_is : get_or words (fail_index a) 0 ≡ flag k.held.is_failed =
      ap (λ l. get_or l (fail_index a) 0) words_so ∙ ap (λ n. get_or (words_of k.held k.goals) (a.words + (a.words + (n + 1))) 0) (sym k.goal_words)
      ∙ fail_found k.held k.goals a.words row_long k.rule.at_work.holds.places in
      let up_is : up ≡ k.held.is_failed = is_up ∙ ap (λ n. not (nat_eq n 0)) (fail ∙ fail_is) ∙ flag_up k.held.is_failed in
      let failed = k.rule.at_work.holds.failed in
      let by = failing a.first (mark a.first (passes_of passes)) (passes_of passes) k.held.journal whole.passes_fit whole.by_a_pass in
      subst (λ (r : List Ref). Closes P a (passes_of passes) r up (journal_of v.seat.members)) (sym row_is) (record {
        row_fits = subst (λ j. Row a.first (passes_of passes) j (take end row)) (sym journal)
            (row_cut a.first (passes_of passes) k.held.journal row end free_from whole);
        fits = subst (λ l. (s : Setting) → Contains l s → CanHold P a.words s.place s.value) (sym (set_cut 0 end row free_from)) k.rule.at_work.holds.fits;
        least = least;
        least_is = least_is;
        behind = omega (arith, cut_long, least_in);
        within = omega (arith, cut_long, in_words);
        no_longer = elim no_longer [
          | inl e ↦ inl (cut_long ∙ e)
          | inr x ↦ inr (λ f.
              let last : end - 1 < end = let p = x.0 in omega (arith, p) in
              let inside : end - 1 < a.words = let p = x.0 in omega (arith, p, in_words) in
              x.1 (word_so (end - 1) inside ∙ ap word_of (sym (take_at end (end - 1) row last) ∙ ap (λ n. word_at (take end row) (n - 1)) (sym cut_long) ∙ f)))
        ];
        failed_is = subst (λ b. (b ≡ true) ↔ ((p : Pass) × Contains (passes_of passes) p × (p.fails ≢ []))) (sym up_is)
            (λ up. by.0 (failed.0 up), λ some. failed.1 (by.1 some));
      })

pub at_value : (xs : List ℕ) (i x : ℕ) → get_elem? xs i ≡ some x → get_or xs i 0 ≡ x
at_value [] i x e = absurd (some-ne-none x (sym e))
at_value (y ∷ xs) zero x e = some-injective y x e
at_value (y ∷ xs) (suc i) x e = at_value xs i x e

pub copied : (xs : List ℕ) (i x : ℕ) → get_elem? xs i ≡ some x → take i xs ++ x ∷ [] ≡ take (i + 1) xs
copied [] i x e = absurd (some-ne-none x (sym e))
copied (y ∷ ys) zero x e = ap (λ z. z ∷ []) (sym (some-injective y x e))
copied (y ∷ ys) (suc i) x e = let next : suc i + 1 ≡ suc (i + 1) = omega arith in ap (λ l. y ∷ l) (copied ys i x e) ∙ ap (λ n. take n (y ∷ ys)) (sym next)

-- ---- where the last frame ends

pub ends_on : (a : About) (ps : List PassSeen) (end found : ℕ) (p : PassSeen) → LastEnds a (passes_of ps) end → found ≡ last_end p.pass.frames → (last : ℕ)
    → ((end < found) × (last ≡ found)) ⊎ ((found ≤ end) × (last ≡ end)) → LastEnds a (passes_of (ps ++ p ∷ [])) last
ends_on a ps end found p h is last which =
    let grown : passes_of (ps ++ p ∷ []) ≡ passes_of ps ++ p.pass ∷ [] = map_append (λ (p : PassSeen). p.pass) ps (p ∷ []) in
    subst (λ l. LastEnds a l last) (sym grown) (elim which [
      | inl x ↦ (let less = x.0 in let e = x.1 in record {
        first = let f = h.first in omega (arith, f, less, e);
        frames = all_push (λ (p : Pass). last_end p.frames ≤ last) (passes_of ps) p.pass
            (All-weaker (λ (p : Pass). last_end p.frames ≤ end) (λ (p : Pass). last_end p.frames ≤ last) (λ p k. omega (arith, k, less, e)) (passes_of ps)
            h.frames) (omega (arith, is, e));
        of_one = inr (p.pass, Contains-push (passes_of ps) p.pass, sym is ∙ sym e);
      })
      | inr x ↦ (let less = x.0 in let e = x.1 in record {
        first = let f = h.first in omega (arith, f, e);
        frames = all_push (λ (p : Pass). last_end p.frames ≤ last) (passes_of ps) p.pass
            (All-weaker (λ (p : Pass). last_end p.frames ≤ end) (λ (p : Pass). last_end p.frames ≤ last) (λ p k. omega (arith, k, e)) (passes_of ps) h.frames)
            (omega (arith, is, e, less));
        of_one = elim h.of_one [ inl o ↦ inl (e ∙ o) | inr o ↦ inr (o.0, Contains-append_left (passes_of ps) (p.pass ∷ []) o.0 o.1, o.2 ∙ sym e) ];
      })
    ])

pub next_pass : (ps : List PassSeen) (i : ℕ) (p : PassSeen) → i < length ps → p ≡ get_or ps i p → take (i + 1) ps ≡ take i ps ++ p ∷ []
next_pass [] i p h e = absurd (omega arith)
next_pass (x ∷ xs) zero p h e = ap (λ z. z ∷ []) (sym e)
next_pass (x ∷ xs) (suc i) p h e = let next : suc i + 1 ≡ suc (i + 1) =
    omega arith in ap (λ n. take n (x ∷ xs)) next ∙ ap (λ l. x ∷ l) (next_pass xs i p (omega arith) e)

pub pass_in : (ps : List PassSeen) (i : ℕ) (p : PassSeen) → i < length ps → p ≡ get_or ps i p → Contains ps p
pass_in ps i p h e = subst (Contains ps) (sym e) (all_get ps i p h)
  where
    all_get : (ps : List PassSeen) (i : ℕ) (p : PassSeen) → i < length ps → Contains ps (get_or ps i p)
    all_get [] i p h = absurd (omega arith)
    all_get (x ∷ xs) zero p h = contains_first x xs
    all_get (x ∷ xs) (suc i) p h = contains_more x (get_or xs i p) xs (all_get xs i p (omega arith))
