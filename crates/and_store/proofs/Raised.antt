-- Each raise of the mark and of the fail word is allowed by the table's rule, and so are looks at the fail word.
use Rattle.std.proofs.Common.{ℕ, ◌+◌, ◌*◌, ◌%◌, ◌^◌, ◌≡◌, ◌<◌, ◌≤◌, inl, inr, true, List, [], ◌∷◌, ◌++◌, map, set, get_or, refl, sym, ap, subst, ◌∙◌, All}
use Rattle.std.proofs.Common.{mod-eq_of_lt}
use Rattle.std.proofs.lemmas.Bool.{cases_lt}
use Rattle.std.proofs.lemmas.List.{set-get_or}
use mathlib.Core.Option.{some}
use lib.ListN.{get_elem?}
use Rattle.atomic_table.specs.Table.{State, Allows, Act, Valid, keeps, stepped, carried_after}
use Rattle.and_model.specs.Store.{HungGoal, gives, fails}
use Rattle.and_cells.specs.Ranges.{NamedProgram}
use Rattle.and_store_laws.specs.AtWork.{Member, Held, Rule, over}
use Rattle.and_store_laws.specs.Steps.{entry, frame_at, given, refused, asks_failed, failed_as}
use Rattle.and_store_laws.proofs.Journal.{made_hung}
use Rattle.and_store_laws.proofs.Quiet.{looks_failed_keep}
use Rattle.and_store_laws.proofs.Setting.{nothing_more}
use Rattle.and_store_laws.proofs.Frames.{takes_frame_keep, fails_keep}
use Rattle.and_store_laws.proofs.Opened.{mark_fits}
use Rattle.and_store.specs.Kept.{Kept, HasGoal, flag, words_of}
use Rattle.and_store.specs.Sight.{About, Sight, opening_of, seat_of}
use Rattle.and_store.specs.Told.{mine_of, IsAlone, stepped_to, FrameTold, FailTold, FailedTold}
use Rattle.and_store.proofs.Words.{mark_found, mark_set, fail_found, fail_set}
use Rattle.and_store.proofs.Keeping.{after, moved, goes_plainly, went, row_long, places_long, about_is}

-- where the mark is
abbrev pub mark_index : About → ℕ
mark_index a = a.words + (a.words + (2 * (a.seats * a.waiters) + 0))

abbrev pub fail_index : About → ℕ
fail_index a = a.words + (a.words + (2 * (a.seats * a.waiters) + 1))

module _ (P : NamedProgram) (a : About) (s : State (Unit {0}) Sight) (id : ℕ) (v : Sight) (kept : Kept P a s) (at : get_elem? s.views id ≡ some v)
    (alone : IsAlone v) where
  abbrev h : Held
  h = kept.held

  abbrev m : Member
  m = mine_of v

  mark_is : get_or s.words (mark_index a) 0 ≡ h.mark
  mark_is = ap (λ l. get_or l (mark_index a) 0) kept.words
      ∙ ap (λ n. get_or (words_of h kept.goals) (a.words + (a.words + (n + 0))) 0) (sym kept.goal_words)
      ∙ mark_found h kept.goals a.words (row_long P a s id v kept at alone) (places_long P a s id v kept at alone)

  mark_put : (x : ℕ) → set s.words (mark_index a) x ≡ words_of (record h { mark = x }) kept.goals
  mark_put x = ap (λ l. set l (mark_index a) x) kept.words
      ∙ ap (λ n. set (words_of h kept.goals) (a.words + (a.words + (n + 0))) x) (sym kept.goal_words)
      ∙ mark_set h kept.goals a.words (row_long P a s id v kept at alone) (places_long P a s id v kept at alone) x

  fail_is : get_or s.words (fail_index a) 0 ≡ flag h.is_failed
  fail_is = ap (λ l. get_or l (fail_index a) 0) kept.words
      ∙ ap (λ n. get_or (words_of h kept.goals) (a.words + (a.words + (n + 1))) 0) (sym kept.goal_words)
      ∙ fail_found h kept.goals a.words (row_long P a s id v kept at alone) (places_long P a s id v kept at alone)

  fail_put : set s.words (fail_index a) 1 ≡ words_of (record h { is_failed = true }) kept.goals
  fail_put = ap (λ l. set l (fail_index a) 1) kept.words
      ∙ ap (λ n. set (words_of h kept.goals) (a.words + (a.words + (n + 1))) 1) (sym kept.goal_words)
      ∙ fail_set h kept.goals a.words (row_long P a s id v kept at alone) (places_long P a s id v kept at alone)

  -- ---- the fail word

  abbrev pub asking : Member
  asking = asks_failed h.is_failed h.journal m

  ask_rule : Rule (opening_of P a) (after P a s id v kept at alone asking []) h
  ask_rule = looks_failed_keep (opening_of P a) (map seat_of s.views) h (after P a s id v kept at alone asking []) h kept.rule
      (record { m = m; moves = moved P a s id v kept at alone asking []; held = refl })

  pub ask_kept : Kept P a (stepped s (fail_index a) (get_or s.words (fail_index a) 0) id [] (stepped_to v asking) keeps)
  ask_kept = goes_plainly P a s id v kept at alone asking h (set s.words (fail_index a) (get_or s.words (fail_index a) 0)) (set-get_or s.words (fail_index a) 0
      ∙ kept.words) kept.named ask_rule kept.hung

  pub ask_told : FailedTold P v (get_or s.words (fail_index a) 0) (stepped_to v asking)
  ask_told = record { held = h; went = went P a s id v kept at alone asking h ask_rule; found_is = fail_is }

  abbrev pub failing : Member
  failing = failed_as h.journal m

  abbrev failed_held : Held
  failed_held = record h { is_failed = true; journal = h.journal ++ entry m.pass.number fails ∷ [] }

  fail_rule : Rule (opening_of P a) (after P a s id v kept at alone failing []) failed_held
  fail_rule = fails_keep (opening_of P a) (map seat_of s.views) h (after P a s id v kept at alone failing []) failed_held kept.rule
      (record { m = m; moves = moved P a s id v kept at alone failing []; held = refl })

  pub fail_kept : Kept P a (stepped s (fail_index a) 1 id [] (stepped_to v failing) keeps)
  fail_kept = goes_plainly P a s id v kept at alone failing failed_held (set s.words (fail_index a) 1) fail_put kept.named fail_rule
      (subst (All (λ (g : HungGoal). HasGoal kept.goals g.waiter g.goal))
      (sym (nothing_more made_hung h.journal (entry m.pass.number fails ∷ []) refl)) kept.hung)

  pub fail_told : FailTold P v (stepped_to v failing)
  fail_told = record { held = h; went = went P a s id v kept at alone failing failed_held fail_rule }

  -- ---- the mark

  module _ (weight : ℕ) (small : weight ≤ 4194304) (none_over : over a.words m.pass.asked ≡ []) where
    sum_small : h.mark + weight < 2 ^ 64
    sum_small = mark_fits (opening_of P a) (map seat_of s.views) h weight kept.rule kept.modest.words kept.modest.seats small

    sum_fits : (get_or s.words (mark_index a) 0 + weight) % 2 ^ 64 ≡ h.mark + weight
    sum_fits = ap (λ n. (n + weight) % 2 ^ 64) mark_is ∙ mod-eq_of_lt sum_small

    abbrev pub with_frame : Member
    with_frame = given weight h m

    abbrev pub without : Member
    without = refused weight h m

    abbrev given_held : Held
    given_held = record h { mark = h.mark + weight; journal = h.journal ++ entry m.pass.number (gives (frame_at weight h)) ∷ [] }

    abbrev raised_held : Held
    raised_held = record h { mark = h.mark + weight }

    give_rule : h.mark + weight ≤ a.words → Rule (opening_of P a) (after P a s id v kept at alone with_frame []) given_held
    give_rule fits = takes_frame_keep (opening_of P a) weight (map seat_of s.views) h (after P a s id v kept at alone with_frame []) given_held kept.rule
        (record { m = m; weight_below = small; none_over = none_over; steps = inl (fits, moved P a s id v kept at alone with_frame [], refl) })

    refuse_rule : a.words < h.mark + weight → Rule (opening_of P a) (after P a s id v kept at alone without []) raised_held
    refuse_rule above = takes_frame_keep (opening_of P a) weight (map seat_of s.views) h (after P a s id v kept at alone without []) raised_held kept.rule
        (record { m = m; weight_below = small; none_over = none_over; steps = inr (above, moved P a s id v kept at alone without [], refl) })

    words_then : set s.words (mark_index a) ((get_or s.words (mark_index a) 0 + weight) % 2 ^ 64) ≡ words_of raised_held kept.goals
    words_then = ap (set s.words (mark_index a)) sum_fits ∙ mark_put (h.mark + weight)

    pub raises_so : (w : Sight) × (b : Act (Unit {0})) × Valid s.homes [] b
        × Kept P a (stepped s (mark_index a) ((get_or s.words (mark_index a) 0 + weight) % 2 ^ 64) id [] w b)
        × (FrameTold P weight v (get_or s.words (mark_index a) 0) w × (carried_after [] b ≡ []))
    raises_so = elim (cases_lt a.words (h.mark + weight)) [
      | inl above ↦ (
        stepped_to v without,
        keeps,
        tt,
        goes_plainly P a s id v kept at alone without raised_held (set s.words (mark_index a) ((get_or s.words (mark_index a) 0 + weight) % 2 ^ 64)) words_then
            kept.named (refuse_rule above) kept.hung,
        (
          record {
            held = h;
            found_is = mark_is;
            small = sum_small;
            went = inr (
              rw (ap (λ (b : About). b.words) (about_is P a s id v kept at alone)) above,
              went P a s id v kept at alone without raised_held (refuse_rule above),
            );
          },
          refl,
        ),
      )
      | inr fits ↦ (
        stepped_to v with_frame,
        keeps,
        tt,
        goes_plainly P a s id v kept at alone with_frame given_held (set s.words (mark_index a) ((get_or s.words (mark_index a) 0 + weight) % 2 ^ 64))
            words_then kept.named (give_rule fits)
            (subst (All (λ (g : HungGoal). HasGoal kept.goals g.waiter g.goal))
            (sym (nothing_more made_hung h.journal (entry m.pass.number (gives (frame_at weight h)) ∷ []) refl)) kept.hung),
        (
          record {
            held = h;
            found_is = mark_is;
            small = sum_small;
            went = inl (
              rw (ap (λ (b : About). b.words) (about_is P a s id v kept at alone)) fits,
              went P a s id v kept at alone with_frame given_held (give_rule fits),
            );
          },
          refl,
        ),
      )
    ]

pub raises_mark : (P : NamedProgram) (a : About) (slots id weight : ℕ) (v : Sight) (c : List (ℕ × Unit {0})) → IsAlone v → c ≡ [] → weight ≤ 4194304
    → over a.words (mine_of v).pass.asked ≡ []
    → Allows (Kept P a) slots id (v, c) (mark_index a) (λ n. (n + weight) % 2 ^ 64) (λ n me. FrameTold P weight v n me.0 × (me.1 ≡ []))
raises_mark P a slots id weight v c alone none small none_over =
    subst (λ c. Allows (Kept P a) slots id (v, c) (mark_index a) (λ n. (n + weight) % 2 ^ 64) (λ n me. FrameTold P weight v n me.0 × (me.1 ≡ []))) (sym none)
    (λ s kept homes at fits. raises_so P a s id v kept at alone weight small none_over)

pub raises_fail : (P : NamedProgram) (a : About) (slots id : ℕ) (v : Sight) (c : List (ℕ × Unit {0})) → IsAlone v → c ≡ []
    → Allows (Kept P a) slots id (v, c) (fail_index a) (λ _. 1) (λ _ me. FailTold P v me.0 × (me.1 ≡ []))
raises_fail P a slots id v c alone none s kept homes at fits =
    (stepped_to v (failing P a s id v kept at alone), keeps, tt, fail_kept P a s id v kept at alone, (fail_told P a s id v kept at alone, none))

pub looks_at_fail : (P : NamedProgram) (a : About) (slots id : ℕ) (v : Sight) (c : List (ℕ × Unit {0})) → IsAlone v → c ≡ []
    → Allows (Kept P a) slots id (v, c) (fail_index a) (λ n. n) (λ n me. FailedTold P v n me.0 × (me.1 ≡ []))
looks_at_fail P a slots id v c alone none s kept homes at fits =
    (stepped_to v (asking P a s id v kept at alone), keeps, tt, ask_kept P a s id v kept at alone, (ask_told P a s id v kept at alone, none))
