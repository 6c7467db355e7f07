-- Calls that change no cell are allowed by the table's rule, and so is a look at all that was done.
use Rattle.std.proofs.Common.{ℕ, zero, suc, ◌+◌, ◌-◌, ◌*◌, ◌%◌, ◌^◌, ◌≡◌, ◌≤◌, ◌<◌, List, [], ◌∷◌, ◌++◌, map, length, get_or, set}
use Rattle.std.proofs.Common.{refl, sym, ap, subst, ◌∙◌, arith, Option, Contains}
use Rattle.std.specs.Prelude.{nat_eq}
use Rattle.std.proofs.lemmas.List.{set-get_or, length-map}
use Rattle.std.proofs.lemmas.List.Elements.{All-get_or}
use mathlib.Core.Option.{some}
use lib.ListN.{get_elem?}
use Rattle.atomic_table.specs.Table.{State, Allows, Act, Valid, keeps, stepped, carried_after}
use Rattle.and_histories.specs.PlainTree as plain
use Rattle.and_histories.specs.PlainTree.{Key, Cell, free, Event, fork, publish, claim, clear, end, look, left, Reply, forked, last, number, moved}
use Rattle.and_histories.specs.PlainTree.{seen, seen_in, Ending, Does, Does.forks, Does.ends, Does.looks, Does.counts, Does.misses, Holds, IsCell}
use Rattle.and_histories.specs.PlainTree.{IsOpen, cell_of, hand_of, with_keys, children, left_of, last_serial}
use Rattle.and_histories.specs.Histories.{team_of}
use Rattle.and_histories.proofs.CoveringForks.{left_is_counted}
use Rattle.and_tree.specs.Few.{IsFew, IsCellOf}
use Rattle.and_tree.specs.Sight.{About, at_rest, Member, Sight, mine_of, with_mine}
use Rattle.and_tree.specs.AtWork.{Held, AtWork, IsModestEvent}
use Rattle.and_tree.specs.Kept.{Kept, words_of, cell_word}
use Rattle.and_tree.specs.Told.{Amid, Called, CallTold, Tells, HearTold, MayCall, added_by}
use Rattle.and_tree.proofs.CellWords.{cell_found, live_forked, live_ended}
use Rattle.and_tree.proofs.FewKept.{few_fit}
use Rattle.and_tree.proofs.Going.{hears_on, contains_middle, differs}
use Rattle.and_tree.proofs.Keeping as keeping

module _ {B : Type 0} (key_of : B → Key) (Stands : ℕ → B → Type 0) where
  module _ (a : About) (s : State (Option B) Sight) (id : ℕ) (v : Sight) (kept : Kept key_of Stands a s) (at : get_elem? s.views id ≡ some v)
      (alone : v.members ≡ mine_of v ∷ []) where
    abbrev h : Held
    h = kept.held

    abbrev m : Member
    m = mine_of v

    pub live_is : get_or s.words 0 0 ≡ left_of h.now
    live_is = ap (λ l. get_or l 0 0) kept.words

    pub cell_is : (cell : ℕ) → get_or s.words (cell + 1) 0 ≡ cell_word (cell_of h.now cell)
    cell_is cell = ap (λ l. get_or l (cell + 1) 0) kept.words ∙ cell_found h cell

    pub few_now : IsFew a.teams h.now
    few_now = (keeping.at_work_was key_of Stands a s id v kept at alone).few

    pub within : (cell : ℕ) → cell < 8 * a.teams → IsCell h.now cell
    within cell below = let e = few_now.cells_are in omega (arith, below, e)

    pub of_team : (cell : ℕ) → cell < 8 * a.teams → IsCellOf a.teams (cell_of h.now cell)
    of_team cell below = All-get_or (IsCellOf a.teams) h.now.cells cell (record { serial = 0; content = free }) (within cell below) few_now.cells

    pub holds : (key : Key) → Contains m.hand key → Holds h.now m.team key
    holds key there = subst (λ l. Contains l key) (keeping.works key_of Stands a s id v kept at alone).hand there

    -- A word that is put back as it was found leaves the words as they are.
    pub same_words : (i : ℕ) → set s.words i (get_or s.words i 0) ≡ words_of h
    same_words i = set-get_or s.words i 0 ∙ kept.words

    module _ (event : Event) (reply : Reply) (next : plain.State) (does : Does h.now event reply next) (by : team_of event ≡ m.team)
        (modest : IsModestEvent h.now event)
        (same : next.cells ≡ h.now.cells) (rest : m.work ≡ at_rest) where
      abbrev pub quiet_view : Sight
      quiet_view = with_mine v (keeping.then_member key_of Stands a s id v kept at alone event reply next at_rest)

      pub quiet_kept : (i x : ℕ) (c : List (ℕ × Option B))
          → set s.words i x ≡ words_of (keeping.then_held key_of Stands a s id v kept at alone event reply next at_rest)
          → Kept key_of Stands a (stepped s i x id c quiet_view keeps)
      quiet_kept i x c are =
          keeping.goes_calling key_of Stands a s id v kept at alone event reply next at_rest does by modest tt (set s.words i x) s.homes are kept.slots
          (keeping.slots_stay key_of Stands a s id v kept at alone quiet_view
          (keeping.then_member key_of Stands a s id v kept at alone event reply next at_rest)
          (keeping.then_held key_of Stands a s id v kept at alone event reply next at_rest) (set s.words i x) same rest)

      pub quiet_called : Called event reply v quiet_view h
      quiet_called = keeping.called key_of Stands a s id v kept at alone event reply next at_rest does by modest tt

      pub quiet_few : IsFew a.teams next
      quiet_few = (keeping.after_call key_of Stands a s id v kept at alone event reply next at_rest does by modest tt).few

      pub quiet : (i x found : ℕ) (c : List (ℕ × Option B)) → c ≡ []
          → set s.words i x ≡ words_of (keeping.then_held key_of Stands a s id v kept at alone event reply next at_rest)
          → Tells v.about.teams event found reply
          → (w : Sight) × (b : Act (Option B)) × Valid s.homes c b × Kept key_of Stands a (stepped s i x id c w b)
          × (CallTold event v found w × (carried_after c b ≡ []))
      quiet i x found c none are tells =
          (quiet_view, keeps, tt, quiet_kept i x c are, (record { held = h; reply = reply; tells = tells; called = quiet_called; rests = refl }, none))

      -- The live word becomes what is left.
      pub live_now : (x : ℕ) → x ≡ left_of next
          → set s.words 0 x ≡ words_of (keeping.then_held key_of Stands a s id v kept at alone event reply next at_rest)
      live_now x is = ap (λ l. set l 0 x) kept.words ∙ ap (λ y. y ∷ map cell_word h.now.cells) is ∙ ap (λ l. left_of next ∷ map cell_word l) (sym same)

  module _ (a : About) (slots id : ℕ) (v : Sight) (c : List (ℕ × Option B)) (alone : v.members ≡ mine_of v ∷ []) (none : c ≡ [])
      (rest : (mine_of v).work ≡ at_rest) where
    pub allows_fork : (key longer : Key) (clauses : List ℕ) → MayCall a.teams (mine_of v).hand (fork (mine_of v).team key longer clauses)
        → Allows (Kept key_of Stands a) slots id (v, c) 0 (λ n. (n + added_by (length clauses)) % 2 ^ 64)
        (λ n me. CallTold (fork (mine_of v).team key longer clauses) v n me.0 × (me.1 ≡ []))
    allows_fork key longer clauses may s kept homes at small =
        let team : ℕ = (mine_of v).team in
        let h : Held = kept.held in
        let event : Event = fork team key longer clauses in
        let held = holds a s id v kept at alone key may.0 in
        let next : plain.State = with_keys h.now team key (children longer clauses) in
        let does : Does h.now event forked next = Does.forks team key longer clauses held may.1 in
        let hand = (keeping.works key_of Stands a s id v kept at alone).hand in
        let modest : IsModestEvent h.now event = rw (← hand) may.2 in
        let counted = left_is_counted h.now next event forked does in
        let many = length-map clauses (λ c. longer ++ c ∷ []) in
        let now = live_is a s id v kept at alone in
        let fits = few_fit a.teams h.now (few_now a s id v kept at alone) in
        let fit = few_fit a.teams next (quiet_few a s id v kept at alone event forked next does refl modest refl rest) in
        let is : (get_or s.words 0 0 + added_by (length clauses)) % 2 ^ 64 ≡ left_of next =
        ap (λ n. (n + added_by (length clauses)) % 2 ^ 64) now
        ∙ live_forked (left_of h.now) (left_of next) (length clauses) (omega (arith, counted, many)) fits fit in
        quiet a s id v kept at alone event forked next does refl modest refl rest 0 ((get_or s.words 0 0 + added_by (length clauses)) % 2 ^ 64)
        (get_or s.words 0 0) c none
        (live_now a s id v kept at alone event forked next does refl modest refl rest ((get_or s.words 0 0 + added_by (length clauses)) % 2 ^ 64) is) refl

    pub allows_end : (key : Key) (how : Ending) → MayCall a.teams (mine_of v).hand (end (mine_of v).team key how)
        → Allows (Kept key_of Stands a) slots id (v, c) 0 (λ n. (n + (2 ^ 64 - 1)) % 2 ^ 64)
        (λ n me. CallTold (end (mine_of v).team key how) v n me.0 × (me.1 ≡ []))
    allows_end key how may s kept homes at small =
        let team : ℕ = (mine_of v).team in
        let h : Held = kept.held in
        let event : Event = end team key how in
        let held = holds a s id v kept at alone key may in
        let next : plain.State = with_keys h.now team key [] in
        let reply : Reply = last (nat_eq (left_of next) 0) in
        let does : Does h.now event reply next = Does.ends team key how held in
        let counted = left_is_counted h.now next event reply does in
        let now = live_is a s id v kept at alone in
        let fits = few_fit a.teams h.now (few_now a s id v kept at alone) in
        let one_less : left_of next + 1 ≡ left_of h.now = omega (arith, counted) in
        let is : (get_or s.words 0 0 + (2 ^ 64 - 1)) % 2 ^ 64 ≡ left_of next =
        ap (λ n. (n + (2 ^ 64 - 1)) % 2 ^ 64) now ∙ live_ended (left_of h.now) (left_of next) one_less fits in
        quiet a s id v kept at alone event reply next does refl tt refl rest 0 ((get_or s.words 0 0 + (2 ^ 64 - 1)) % 2 ^ 64) (get_or s.words 0 0) c none
        (live_now a s id v kept at alone event reply next does refl tt refl rest ((get_or s.words 0 0 + (2 ^ 64 - 1)) % 2 ^ 64) is)
        (ap last (last_at (left_of next) (get_or s.words 0 0) (now ∙ sym one_less)))
      where
        last_at : (n found : ℕ) → found ≡ n + 1 → nat_eq n 0 ≡ nat_eq found 1
        last_at zero found e = ap (λ k. nat_eq k 1) (sym e)
        last_at (suc n) found e = differs (suc n) 0 (λ f. absurd (omega (arith, f))) ∙ sym (differs found 1 (λ f. absurd (omega (arith, e, f))))

    pub allows_left : Allows (Kept key_of Stands a) slots id (v, c) 0 (λ n. n) (λ n me. CallTold (left (mine_of v).team) v n me.0 × (me.1 ≡ []))
    allows_left s kept homes at small =
        let team : ℕ = (mine_of v).team in
        let h : Held = kept.held in
        let does : Does h.now (left team) (number (left_of h.now)) h.now = Does.counts team (keeping.is_team key_of Stands a s id v kept at alone) in
        quiet a s id v kept at alone (left team) (number (left_of h.now)) h.now does refl tt refl rest 0 (get_or s.words 0 0) (get_or s.words 0 0) c none
        (same_words a s id v kept at alone 0) (ap number (sym (live_is a s id v kept at alone)))

    pub allows_look : (cell : ℕ) → cell < 8 * a.teams
        → Allows (Kept key_of Stands a) slots id (v, c) (cell + 1) (λ n. n) (λ n me. CallTold (look (mine_of v).team cell) v n me.0 × (me.1 ≡ []))
    allows_look cell below s kept homes at small =
        let team : ℕ = (mine_of v).team in
        let h : Held = kept.held in
        let x : Cell = cell_of h.now cell in
        let does : Does h.now (look team cell) (seen (seen_in x)) h.now =
        Does.looks team cell (keeping.is_team key_of Stands a s id v kept at alone) (within a s id v kept at alone cell below) in
        let teams = keeping.about_is key_of Stands a s id v kept at alone in
        quiet a s id v kept at alone (look team cell) (seen (seen_in x)) h.now does refl tt refl rest (cell + 1) (get_or s.words (cell + 1) 0)
        (get_or s.words (cell + 1) 0) c none
        (same_words a s id v kept at alone (cell + 1))
        (x, subst (λ (b : About). IsCellOf b.teams x) (sym teams) (of_team a s id v kept at alone cell below), cell_is a s id v kept at alone cell, refl)

    -- A claim under a serial with which the cell is not open finds what is there.
    pub misses_so : (s : State (Option B) Sight) (kept : Kept key_of Stands a s) (at : get_elem? s.views id ≡ some v) (cell serial : ℕ)
        → cell < 8 * a.teams
        → ((key : Key) → IsOpen kept.held.now cell serial key → ⊥)
        → (w : Sight) × (b : Act (Option B)) × Valid s.homes c b × Kept key_of Stands a (stepped s (cell + 1) (get_or s.words (cell + 1) 0) id c w b)
        × (CallTold (claim (mine_of v).team cell serial) v (get_or s.words (cell + 1) 0) w × (carried_after c b ≡ []))
    misses_so s kept at cell serial below not_open =
        let team : ℕ = (mine_of v).team in
        let h : Held = kept.held in
        let x : Cell = cell_of h.now cell in
        let does : Does h.now (claim team cell serial) (moved (seen_in x)) h.now =
        Does.misses team cell serial (keeping.is_team key_of Stands a s id v kept at alone) (within a s id v kept at alone cell below) not_open in
        let teams = keeping.about_is key_of Stands a s id v kept at alone in
        quiet a s id v kept at alone (claim team cell serial) (moved (seen_in x)) h.now does refl tt refl rest (cell + 1) (get_or s.words (cell + 1) 0)
        (get_or s.words (cell + 1) 0) c none
        (same_words a s id v kept at alone (cell + 1))
        (x, subst (λ (b : About). IsCellOf b.teams x) (sym teams) (of_team a s id v kept at alone cell below), cell_is a s id v kept at alone cell, refl)

    pub allows_vain_claim : (cell serial : ℕ) → cell < 8 * a.teams → last_serial < serial
        → Allows (Kept key_of Stands a) slots id (v, c) (cell + 1) (λ n. n) (λ n me. CallTold (claim (mine_of v).team cell serial) v n me.0 × (me.1 ≡ []))
    allows_vain_claim cell serial below above s kept homes at small =
        let low = (of_team a s id v kept at alone cell below).serial in
        misses_so s kept at cell serial below (λ key e. let same : (cell_of kept.held.now cell).serial ≡ serial =
        ap (λ (c : Cell). c.serial) e in absurd (too_high (cell_of kept.held.now cell).serial serial low same above))
      where
        too_high : (n serial : ℕ) → n ≤ last_serial → n ≡ serial → last_serial < serial → ⊥
        too_high n serial low same above = absurd (omega (arith, low, same, above))

  -- The pass sees all that was done, also what it was told of.
  pub allows_learn : (a : About) (slots id : ℕ) (v : Sight) (c : List (ℕ × Option B)) → v.members ≡ mine_of v ∷ [] → c ≡ []
      → Allows (Kept key_of Stands a) slots id (v, c) 0 (λ n. n) (λ n me. HearTold v me.0 × (me.1 ≡ []))
  allows_learn a slots id v c alone none s kept homes at small =
      let h : Held = kept.held in
      let m : Member = mine_of v in
      let n : Member = record m { seen = h.history } in
      let w : Sight = record v { members = n ∷ []; told = [] } in
      let left = keeping.left key_of Stands a s id v kept at alone in
      let right = keeping.right key_of Stands a s id v kept at alone in
      let was = keeping.at_work_was key_of Stands a s id v kept at alone in
      let after : AtWork a (left ++ n ∷ right) h = hears_on a left right m h was in
      let teams = keeping.about_is key_of Stands a s id v kept at alone in (
        w,
        keeps,
        tt,
        keeping.goes key_of Stands a s id v kept at alone w n h (set s.words 0 (get_or s.words 0 0)) s.homes refl refl
            (same_words a s id v kept at alone 0) kept.slots after
            (λ cell x is. keeping.slot_on key_of Stands a.limit (left ++ m ∷ right) (left ++ n ∷ right) s
            (record { words = set s.words 0 (get_or s.words 0 0); homes = s.homes; views = set s.views id w }) cell x.content refl
            (keeping.opening_on left right m n cell (λ serial opens. (serial, opens))) (keeping.slot_was key_of Stands a s id v kept at alone cell x is))
            (keeping.no_more h) (h.history, refl),
        (
          record {
            held = h;
            before = subst (λ b. Amid b m h) (sym teams) (record { members = left ++ m ∷ right; at_work = was; there = contains_middle left m right });
            after = subst (λ b. Amid b n h) (sym teams) (record { members = left ++ n ∷ right; at_work = after; there = contains_middle left n right });
            told = keeping.told_was key_of Stands a s id v kept at alone;
            becomes = refl;
          },
          none,
        ),
      )
