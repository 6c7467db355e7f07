-- A pass after it set a cell and closed its place, and after a raise of the mark.
use Rattle.std.proofs.Common.{ℕ, zero, suc, ◌^◌, ◌+◌, ◌-◌, ◌*◌, ◌≡◌, ◌<◌, ◌≤◌, inl, inr, false, true≢false, Bool, cond, List, [], ◌∷◌, ◌++◌, length, set}
use Rattle.std.proofs.Common.{drop, length-append, Option, None, Some, option_to_list, refl, sym, ap, subst, ◌∙◌, arith, append-nil, All}
use Rattle.std.proofs.lemmas.Bool.{le-ltb}
use Rattle.std.proofs.lemmas.List.Elements.{All-contains, Contains-push}
use Rattle.std.proofs.lemmas.List.Concat.{flat_map-append}
use Rattle.and_model.specs.Store.{Frame, JournalEntry, gives, Pass, Took, Asked, Waiting, empty, occupied, closed}
use Rattle.and_model.specs.declared.reference.Ref.{Ref}
use Rattle.and_cells.specs.Ranges.{NamedProgram}
use Rattle.and_store_laws.specs.AtWork.{Member, WasHung, over, place_at}
use Rattle.and_store_laws.specs.Steps.{entry, set_as, taken, waiter_in, given, refused, asked_for, frame_at}
use Rattle.and_store_laws.proofs.Frames.{over_push}
use Rattle.and_store_laws.proofs.Lists.{all_push}
use Rattle.and_store.specs.Calls.{SetsCell, ClosesPlace, TakesFrame, RaisesInVain}
use Rattle.and_store.specs.Kept.{place_word}
use Rattle.and_store.specs.Passes.{IsPass, last_end}
use Rattle.and_store.specs.Sight.{IsModest, Sight, opening_of}
use Rattle.and_store.specs.Told.{mine_of, stepped_to, Amid, SetTold, TakeTold, FrameTold, waiters_of}
use Rattle.and_store.proofs.Sizes.{waiters_below}
use Rattle.and_store.proofs.Telling.{works_of, sees_made, sees_none, set_tells}

-- what the word of a place says of its waiter
pub some_waiter : (place : Waiting) (found : ℕ) → found ≡ place_word place → 2 ≤ found → waiter_in place ≡ Some (found - 2)
some_waiter empty found e h = absurd (omega (arith, e, h))
some_waiter closed found e h = absurd (omega (arith, e, h))
some_waiter (occupied waiter) found e h = let same : waiter ≡ found - 2 = omega (arith, e, h) in ap Some same

pub no_waiter : (place : Waiting) (found : ℕ) → found ≡ place_word place → found < 2 → waiter_in place ≡ None
no_waiter empty found e h = refl
no_waiter closed found e h = refl
no_waiter (occupied waiter) found e h = absurd (omega (arith, e, h))

place_of : (place : Waiting) (waiter : ℕ) → waiter_in place ≡ Some waiter → place ≡ occupied waiter
place_of empty waiter e = absurd (cc)
place_of closed waiter e = absurd (cc)
place_of (occupied w) waiter e = let same : w ≡ waiter = cc in ap occupied same

waiters_push : (took : List Took) (t : Took) → waiters_of (took ++ t ∷ []) ≡ waiters_of took ++ option_to_list t.waiter
waiters_push took t = flat_map-append (λ (t : Took). option_to_list t.waiter) took (t ∷ [])
    ∙ ap (λ l. waiters_of took ++ l) (append-nil (option_to_list t.waiter))

pub drop-push : {X : Type 0} (n : ℕ) (xs ys : List X) → n ≤ length xs → drop n (xs ++ ys) ≡ drop n xs ++ ys
drop-push zero xs ys h = refl
drop-push (suc n) [] ys h = absurd (omega arith)
drop-push (suc n) (x ∷ xs) ys h = drop-push n xs ys (omega arith)

module _ (P : NamedProgram) (cell : ℕ) (to : Ref) (journal : List JournalEntry) (v w : Sight) (found : ℕ) (number hung : ℕ) (is_refused : Bool) (ends : ℕ)
    (items : List ℕ) (room handed : ℕ)
    (old : IsPass v number hung is_refused ends items room handed) (take : TakeTold P cell (stepped_to v (set_as cell to journal (mine_of v))) found w) where
  abbrev m : Member
  m = mine_of v

  abbrev n : Member
  n = set_as cell to journal m

  abbrev place : Waiting
  place = place_at take.held.places cell

  abbrev k : Member
  k = taken cell place take.held.journal n

  w_is : w ≡ stepped_to (stepped_to v n) k
  w_is = take.went.view

  -- the waiter that was there is taken
  module _ (waiter : Option ℕ) (is : waiter_in place ≡ waiter) where
    pub took_pass : IsPass w number hung is_refused ends (items ++ option_to_list waiter) room handed
    took_pass = subst (λ (w : Sight). IsPass w number hung is_refused ends (items ++ option_to_list waiter) room handed) (sym w_is) (record {
      alone = refl;
      share = old.share;
      nothing_noted = refl;
      at_rest = refl;
      modest = old.modest;
      number_is = old.number_is;
      number_below = old.number_below;
      hung_are = old.hung_are;
      hung_fit = old.hung_fit;
      in_turn = old.in_turn;
      refused_is = old.refused_is;
      refused_was = old.refused_was;
      ends = old.ends;
      ends_fit = old.ends_fit;
      taken_are = ap (λ l. l ++ option_to_list waiter) old.taken_are ∙ ap (λ r. waiters_of m.pass.took ++ option_to_list r) (sym is)
          ∙ sym (waiters_push m.pass.took (record { cell = cell; waiter = waiter_in place }));
      below = below_more waiter is;
      enough = old.enough;
      handed_out = let l = length-append items (option_to_list waiter) in let h = old.handed_out in omega (arith, l, h);
      once = (works_of (opening_of P v.about) k (record take.held { places = set take.held.places cell closed }) take.went.after).fits.known_once;
    })
      where
        below_more : (r : Option ℕ) → waiter_in place ≡ r → All (λ waiter. waiter < v.about.seats * v.about.waiters) (items ++ option_to_list r)
        below_more None e = subst (All (λ waiter. waiter < v.about.seats * v.about.waiters)) (sym (append-nil items)) old.below
        below_more (Some x) e = all_push (λ waiter. waiter < v.about.seats * v.about.waiters) items x old.below (take.below x (place_of place x e))

    pub took_closes : ClosesPlace cell n.pass (mine_of w).pass (drop handed items) (drop handed (items ++ option_to_list waiter))
    took_closes = subst (λ (w : Sight). ClosesPlace cell n.pass (mine_of w).pass (drop handed items) (drop handed (items ++ option_to_list waiter)))
        (sym w_is) (record {
          waiter = waiter;
          sees = sees_none (opening_of P v.about) n take.held k.pass take.went.before refl;
          becomes = ap (λ r. record n.pass { seen = take.held.journal; took = n.pass.took ++ record { cell = cell; waiter = r } ∷ [] }) is;
          was_hung = λ x e.
              let works = works_of (opening_of P v.about) k (record take.held { places = set take.held.places cell closed }) take.went.after in
              All-contains (λ (t : Took). (waiter : ℕ) → t.waiter ≡ Some waiter
              → WasHung k.pass.seen waiter t.cell) k.pass.took (record { cell = cell; waiter = waiter_in place }) works.took_hung
              (Contains-push n.pass.took (record { cell = cell; waiter = waiter_in place })) x (is ∙ e);
          keeps = drop-push handed items (option_to_list waiter) old.handed_out;
        })

module _ (P : NamedProgram) (cell : ℕ) (to : Ref) (v u w : Sight) (found : ℕ) (number hung : ℕ) (is_refused : Bool) (ends : ℕ)
    (items : List ℕ) (room handed : ℕ)
    (old : IsPass v number hung is_refused ends items room handed) (set : SetTold P cell to v u) (take : TakeTold P cell u found w) where
  abbrev journal : List JournalEntry
  journal = set.held.journal

  abbrev pub between : Pass
  between = (set_as cell to journal (mine_of v)).pass

  then_takes : TakeTold P cell (stepped_to v (set_as cell to journal (mine_of v))) found w
  then_takes = subst (λ u. TakeTold P cell u found w) set.went.view take

  abbrev found_place : Waiting
  found_place = place_at then_takes.held.places cell

  pub won_set : SetsCell v.about cell to (mine_of v).pass between
  won_set = subst (λ (u : Sight). SetsCell v.about cell to (mine_of v).pass (mine_of u).pass) set.went.view (set_tells P cell to v u set)

  pub won_some : 2 ≤ found → IsPass w number hung is_refused ends (items ++ (found - 2) ∷ []) room handed
  won_some h = took_pass P cell to journal v w found number hung is_refused ends items room handed old then_takes (Some (found - 2))
      (some_waiter found_place found then_takes.found_is h)

  pub closes_some : 2 ≤ found → ClosesPlace cell between (mine_of w).pass (drop handed items) (drop handed (items ++ (found - 2) ∷ []))
  closes_some h = took_closes P cell to journal v w found number hung is_refused ends items room handed old then_takes (Some (found - 2))
      (some_waiter found_place found then_takes.found_is h)

  pub won_none : found < 2 → IsPass w number hung is_refused ends items room handed
  won_none h = subst (λ l. IsPass w number hung is_refused ends l room handed) (append-nil items)
      (took_pass P cell to journal v w found number hung is_refused ends items room handed old then_takes None
      (no_waiter found_place found then_takes.found_is h))

  pub closes_none : found < 2 → ClosesPlace cell between (mine_of w).pass (drop handed items) (drop handed items)
  closes_none h = subst (λ l. ClosesPlace cell between (mine_of w).pass (drop handed items) (drop handed l)) (append-nil items)
      (took_closes P cell to journal v w found number hung is_refused ends items room handed old then_takes None
      (no_waiter found_place found then_takes.found_is h))

-- ---- the mark is raised

last_push : (fs : List Frame) (f : Frame) → last_end (fs ++ f ∷ []) ≡ f.base + f.weight
last_push [] f = refl
last_push (g ∷ []) f = refl
last_push (g ∷ h ∷ fs) f = last_push (h ∷ fs) f

module _ (P : NamedProgram) (weight : ℕ) (v w : Sight) (found : ℕ) (number hung : ℕ) (ends : ℕ) (items : List ℕ) (room handed : ℕ)
    (old : IsPass v number hung false ends items room handed) (t : FrameTold P weight v found w) where
  abbrev mine : Member
  mine = mine_of v

  none_over : over v.about.words mine.pass.asked ≡ []
  none_over = old.refused_is refl

  given_view : found + weight ≤ v.about.words → w ≡ stepped_to v (given weight t.held mine)
  given_view fits = elim t.went [ inl x ↦ x.1.view | inr x ↦ (let a = t.found_is in let b = x.0 in absurd (omega (arith, a, b, fits))) ]

  given_went : found + weight ≤ v.about.words → Amid (opening_of P v.about) mine t.held
  given_went fits = elim t.went [ inl x ↦ x.1.before | inr x ↦ x.1.before ]

  pub given_pass : found + weight ≤ v.about.words → IsPass w number hung false (found + weight) items room handed
  given_pass fits = subst (λ (w : Sight). IsPass w number hung false (found + weight) items room handed) (sym (given_view fits)) (record {
    alone = refl;
    share = old.share;
    nothing_noted = refl;
    at_rest = old.at_rest;
    modest = old.modest;
    number_is = old.number_is;
    number_below = old.number_below;
    hung_are = old.hung_are;
    hung_fit = old.hung_fit;
    in_turn = old.in_turn;
    refused_is = λ r. over_push v.about.words mine.pass.asked (asked_for weight t.held) none_over
        ∙ ap (λ b. cond {A = List Asked} b (asked_for weight t.held ∷ []) [])
        (le-ltb v.about.words (t.held.mark + weight) (subst (λ n. n + weight ≤ v.about.words) t.found_is fits));
    refused_was = λ r. absurd (true≢false (sym r));
    ends = ap (λ n. n + weight) t.found_is ∙ sym (last_push mine.pass.frames (frame_at weight t.held));
    ends_fit = fits;
    taken_are = old.taken_are;
    below = old.below;
    enough = old.enough;
    handed_out = old.handed_out;
    once = old.once;
  })

  pub given_tells : found + weight ≤ v.about.words → TakesFrame v.about.words found weight mine.pass (mine_of w).pass
  given_tells fits = subst (λ (w : Sight). TakesFrame v.about.words found weight mine.pass (mine_of w).pass) (sym (given_view fits)) (record {
    sees = sees_made (opening_of P v.about) mine t.held (gives (record { base = found; weight = weight }) ∷ [])
        (given weight t.held mine).pass (given_went fits)
        (ap (λ n. t.held.journal ++ entry mine.pass.number (gives (record { base = n; weight = weight })) ∷ []) (sym t.found_is));
    becomes = ap (λ n. record mine.pass {
      seen = (given weight t.held mine).pass.seen;
      frames = mine.pass.frames ++ record { base = n; weight = weight } ∷ [];
      asked = mine.pass.asked ++ record { mark = n; weight = weight } ∷ [];
    }) (sym t.found_is);
    within = fits;
    first_over = none_over;
  })

  pub refused_tells : v.about.words < found + weight → RaisesInVain v.about.words weight mine.pass (mine_of w).pass
  refused_tells above = elim t.went [
    | inl x ↦ (let a = t.found_is in let b = x.0 in absurd (omega (arith, a, b, above)))
    | inr x ↦ subst (λ (w : Sight). RaisesInVain v.about.words weight mine.pass (mine_of w).pass) (sym x.1.view) (record {
      mark = t.held.mark;
      sees = sees_none (opening_of P v.about) mine t.held (refused weight t.held mine).pass x.1.before refl;
      becomes = refl;
      above = x.0;
    })
  ]

small_waiter : (place : Waiting) (found n : ℕ) → found ≡ place_word place → ((waiter : ℕ) → place ≡ occupied waiter → waiter < n) → n ≤ 262144
    → found - 2 < 2 ^ 32
small_waiter empty found n e below few = omega (arith, e)
small_waiter closed found n e below few = omega (arith, e)
small_waiter (occupied waiter) found n e below few = let b = below waiter refl in omega (arith, e, b, few)

-- the number of a waiter is small
pub waiter_fits : (P : NamedProgram) (cell : ℕ) (to : Ref) (v u w : Sight) (found : ℕ) → IsModest v.about → SetTold P cell to v u → TakeTold P cell u found w
    → found - 2 < 2 ^ 32
waiter_fits P cell to v u w found modest set take =
    small_waiter (place_at take.held.places cell) found (u.about.seats * u.about.waiters) take.found_is take.below
    (waiters_below u.about (subst IsModest (sym (ap (λ (u : Sight). u.about) set.went.view)) modest))
