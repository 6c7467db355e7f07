-- Places are closed, as the table's rule allows.
use Rattle.std.proofs.Common.{ℕ, ◌+◌, ◌*◌, ◌≡◌, ◌<◌, ◌≤◌, List, [], map, length, set, get_or, Some, refl, sym, ap, subst, ◌∙◌, arith}
use mathlib.Core.Option.{some}
use lib.ListN.{get_elem?}
use Rattle.atomic_table.specs.Table.{State, Allows, keeps, stepped}
use Rattle.and_model.specs.Store.{closed, occupied}
use Rattle.and_cells.specs.Ranges.{NamedProgram}
use Rattle.and_store_laws.specs.AtWork.{Member, Held, Rule, place_at}
use Rattle.and_store_laws.specs.Steps.{taken}
use Rattle.and_store_laws.proofs.Lists.{all_of}
use Rattle.and_store_laws.proofs.Hanging.{takes_place_keep}
use Rattle.and_store_laws.proofs.Taken.{taken_once_by, taken_hung, hung_below, few_below}
use Rattle.and_store.specs.Kept.{Kept, place_word}
use Rattle.and_store.specs.Sight.{About, Sight, opening_of, seat_of}
use Rattle.and_store.specs.Told.{mine_of, IsAlone, stepped_to, TakeTold, waiters_of}
use Rattle.and_store.proofs.Words.{place_found, place_set}
use Rattle.and_store.proofs.Keeping.{after, moved, goes_plainly, went, row_long, places_long, about_is, amid_after}

module _ (P : NamedProgram) (a : About) (s : State (Unit {0}) Sight) (id : ℕ) (v : Sight) (kept : Kept P a s)
    (at : get_elem? s.views id ≡ some v) (alone : IsAlone v)
    (cell : ℕ) (within : cell < a.words) (pends : (mine_of v).pending ≡ Some cell) where
  abbrev h : Held
  h = kept.held

  abbrev pub taking : Member
  taking = taken cell (place_at h.places cell) h.journal (mine_of v)

  abbrev pub taken_held : Held
  taken_held = record h { places = set h.places cell closed }

  take_rule : Rule (opening_of P a) (after P a s id v kept at alone taking []) taken_held
  take_rule = takes_place_keep (opening_of P a) (map seat_of s.views) h (after P a s id v kept at alone taking []) taken_held kept.rule
      (record { m = mine_of v; cell = cell; pends = pends; moves = moved P a s id v kept at alone taking []; held = refl })

  pub take_kept : Kept P a (stepped s (a.words + cell) 1 id [] (stepped_to v taking) keeps)
  take_kept = goes_plainly P a s id v kept at alone taking taken_held (set s.words (a.words + cell) 1)
      (ap (λ l. set l (a.words + cell) 1) kept.words
      ∙ place_set h kept.goals a.words (row_long P a s id v kept at alone) (places_long P a s id v kept at alone) cell closed within)
      kept.named take_rule kept.hung

  place_is : get_or s.words (a.words + cell) 0 ≡ place_word (place_at h.places cell)
  place_is = ap (λ l. get_or l (a.words + cell) 0) kept.words
      ∙ place_found h kept.goals a.words (row_long P a s id v kept at alone) (places_long P a s id v kept at alone) cell within

  same_bound : v.about.seats * v.about.waiters ≡ a.seats * a.waiters
  same_bound = ap (λ (b : About). b.seats * b.waiters) (about_is P a s id v kept at alone)

  pub waiter_below : (waiter : ℕ) → place_at h.places cell ≡ occupied waiter → waiter < a.seats * a.waiters
  waiter_below waiter e =
      let g = kept.rule.at_work.holds.occupied_hung cell waiter e in
      let below = hung_below (opening_of P a) (map seat_of s.views) h kept.rule g.0 g.1 in
      subst (λ n. n < a.seats * a.waiters) g.2 below

  pub taken_few : length (waiters_of taking.pass.took) ≤ a.seats * a.waiters
  taken_few =
      let among = amid_after P a s id v kept at alone taking [] taken_held take_rule in
      few_below (a.seats * a.waiters) (waiters_of taking.pass.took)
      (taken_once_by (opening_of P a) among.members taken_held among.at_work taking among.there)
      (all_of (λ n. n < a.seats * a.waiters) (waiters_of taking.pass.took) (λ n c.
      let g = taken_hung (opening_of P a) among.members taken_held among.at_work taking among.there n c in
      subst (λ n. n < a.seats * a.waiters) g.2 (hung_below (opening_of P a) (map seat_of s.views) h kept.rule g.0 g.1)))

  pub take_told : TakeTold P cell v (get_or s.words (a.words + cell) 0) (stepped_to v taking)
  take_told = record {
    held = h;
    went = went P a s id v kept at alone taking taken_held take_rule;
    found_is = place_is;
    below = λ waiter e. subst (λ n. waiter < n) (sym same_bound) (waiter_below waiter e);
    few = subst (λ n. length (waiters_of taking.pass.took) ≤ n) (sym same_bound) taken_few;
  }

pub closes_place : (P : NamedProgram) (a : About) (slots id cell : ℕ) (v : Sight) (c : List (ℕ × Unit {0})) → IsAlone v → c ≡ [] → cell < a.words
    → (mine_of v).pending ≡ Some cell
    → Allows (Kept P a) slots id (v, c) (a.words + cell) (λ _. 1) (λ n me. ((d : ℕ) → a.words + cell ≡ v.about.words + d → TakeTold P d v n me.0) × (me.1 ≡ []))
closes_place P a slots id cell v c alone none within pends s kept homes at fits =
    let words : v.about.words ≡ a.words = ap (λ (b : About). b.words) (about_is P a s id v kept at alone) in
    let w = stepped_to v (taking P a s id v kept at alone cell within pends) in (
      w,
      keeps,
      tt,
      take_kept P a s id v kept at alone cell within pends,
      (
        (λ d e. let same : cell ≡ d = omega (arith, words, e) in subst (λ d. TakeTold P d v (get_or s.words (a.words + cell) 0) w) same
            (take_told P a s id v kept at alone cell within pends)),
        none,
      ),
    )
