-- Steps that take the slot of a cell, or give it back, are allowed by the table's rule.
use Rattle.std.proofs.Common.{ℕ, suc, ◌+◌, ◌*◌, ◌≡◌, ◌≢◌, ◌≤◌, ◌<◌, ◌⊎◌, inl, inr, ⊎_elim, eqb, List, [], ◌∷◌, ◌++◌, map, length, get_or, set}
use Rattle.std.proofs.Common.{refl, sym, ap, subst, ◌∙◌, arith, Option, None, Some, Contains}
use Rattle.std.proofs.lemmas.List.{length-set, get_or-set_same, set-get_or}
use Rattle.std.proofs.lemmas.List.Elements.{All-contains}
use mathlib.Core.Logic.{dite}
use native.Mathlib.Decide.{ℕ_discrete}
use prog.Atomic.{either}
use mathlib.Core.Option.{some, none}
use lib.ListN.{get_elem?}
use Rattle.atomic_table.specs.Table.{State, Allows, Act, Valid, keeps, takes, gives, stepped, carried_after}
use Rattle.atomic_table.proofs.Lists.{at_set, set_here, set_else, exchanged}
use Rattle.and_histories.specs.PlainTree as plain
use Rattle.and_histories.specs.PlainTree.{Key, Cell, Content, free, opened, taking, Event, publish, claim, clear, Reply, done, spent, not_free, taken}
use Rattle.and_histories.specs.PlainTree.{cleared, seen_in, Does, Owns, Holds, IsCell, IsOpen, cell_of, hand_of, with_keys, joined, with_cell}
use Rattle.and_histories.specs.PlainTree.{left_of, last_serial}
use Rattle.and_histories.proofs.CoveringForks.{left_is_counted}
use Rattle.and_tree.specs.Few.{IsCellOf}
use Rattle.and_tree.specs.Sight.{About, at_rest, opening_cell, clearing_cell, Member, Sight, mine_of, with_mine}
use Rattle.and_tree.specs.AtWork.{Held, AtWork, Works, IsAtCell}
use Rattle.and_tree.specs.Kept.{Kept, IsSlotOf, IsOpening, cell_word, word_with}
use Rattle.and_tree.specs.Told.{Amid, CallTold, PublishTold, SpentTold, NotFreeTold, FreeTold, ClaimTold, TakesBranch}
use Rattle.and_tree.proofs.CellWords.{cell_set, open_so}
use Rattle.and_tree.proofs.Going.{rests_on, contains_middle, one_of_team, opening_is}
use Rattle.and_tree.proofs.Keeping as keeping
use Rattle.and_tree.proofs.Allowed as allowed

abbrev blank : Cell
blank = record { serial = 0; content = free }

pub free_or : (content : Content) → (content ≡ free) ⊎ (content ≢ free)
free_or free = inl refl
free_or (opened key) = inr (λ e. let f : opened key ≡ free = e in cc)
free_or (taking team) = inr (λ e. let f : taking team ≡ free = e in cc)

same_owner : (n k cell : ℕ) → Owns n cell → Owns k cell → n ≡ k
same_owner n k cell a b = let x = a.0 in let y = a.1 in let z = b.0 in let w = b.1 in omega (arith, x, y, z, w)

module _ {B : Type 0} (key_of : B → Key) (Stands : ℕ → B → Type 0) where
  module _ (a : About) (s : State (Option B) Sight) (id : ℕ) (v : Sight) (kept : Kept key_of Stands a s) (at : get_elem? s.views id ≡ some v)
      (alone : v.members ≡ mine_of v ∷ []) where
    abbrev h : Held
    h = kept.held

    abbrev m : Member
    m = mine_of v

    -- a cell, and what lies in its slot
    slot_at : (cell : ℕ) → cell < 8 * a.teams
        → IsSlotOf key_of Stands a.limit (keeping.left key_of Stands a s id v kept at alone ++ m ∷ keeping.right key_of Stands a s id v kept at alone) s cell
        (cell_of h.now cell).content
    slot_at cell below =
        keeping.slot_was key_of Stands a s id v kept at alone cell (cell_of h.now cell)
        (keeping.stands_at h.now.cells cell blank (allowed.within key_of Stands a s id v kept at alone cell below))

    slot_within : (cell : ℕ) → cell < 8 * a.teams → cell < length s.homes
    slot_within cell below = let e = kept.slots in omega (arith, below, e)

    -- The slots stay but for that of one cell, which changes.
    slots_but : (n : Member) (w : Sight) (k : Held) (cell : ℕ) (x : Cell) (words : List ℕ) (home : mathlib.Core.Option.Option (Option B))
        → k.now.cells ≡ set h.now.cells cell x
        → ((i serial : ℕ) → i ≢ cell → m.work ≡ opening_cell i serial → ⊥)
        → IsSlotOf key_of Stands a.limit (keeping.left key_of Stands a s id v kept at alone ++ n ∷ keeping.right key_of Stands a s id v kept at alone)
        (record { words = words; homes = set s.homes cell home; views = set s.views id w }) cell x.content
        → (i : ℕ) (c : Cell) → get_elem? k.now.cells i ≡ some c
        → IsSlotOf key_of Stands a.limit (keeping.left key_of Stands a s id v kept at alone ++ n ∷ keeping.right key_of Stands a s id v kept at alone)
        (record { words = words; homes = set s.homes cell home; views = set s.views id w }) i c.content
    slots_but n w k cell x words home cells none_else here i c is =
        let left = keeping.left key_of Stands a s id v kept at alone in
        let right = keeping.right key_of Stands a s id v kept at alone in
        let t : State (Option B) Sight = record { words = words; homes = set s.homes cell home; views = set s.views id w } in
        ⊎_elim
        (λ (same : (i ≡ cell) × (x ≡ c)). subst (λ j. IsSlotOf key_of Stands a.limit (left ++ n ∷ right) t j c.content) (sym same.0)
        (subst (λ (d : Cell). IsSlotOf key_of Stands a.limit (left ++ n ∷ right) t cell d.content) same.1 here))
        (λ (other : (i ≢ cell) × (get_elem? h.now.cells i ≡ some c)).
        keeping.slot_on key_of Stands a.limit (left ++ m ∷ right) (left ++ n ∷ right) s t i c.content (set_else s.homes cell i home other.0)
        (keeping.opening_on left right m n i (λ serial opens. absurd (none_else i serial other.0 opens)))
        (keeping.slot_was key_of Stands a s id v kept at alone i c other.1))
        (at_set h.now.cells cell i x c (ap (λ l. get_elem? l i) (sym cells) ∙ is))

    -- The word of a cell that changes, where as many keys are left.
    words_then : (event : Event) (reply : Reply) (next : plain.State) (cell x : ℕ) (c : Cell) → x ≡ cell_word c → next.cells ≡ set h.now.cells cell c
        → left_of next ≡ left_of h.now
        → set s.words (cell + 1) x ≡ left_of next ∷ map cell_word next.cells
    words_then event reply next cell x c is cells same =
        ap (λ l. set l (cell + 1) x) kept.words ∙ cell_set h cell c x is
        ∙ ap (λ n. n ∷ map cell_word (set h.now.cells cell c)) (sym same) ∙ ap (λ l. left_of next ∷ map cell_word l) (sym cells)

    cell_there : (cell : ℕ) (c : Cell) → cell < 8 * a.teams
        → (cell < length (set h.now.cells cell c)) × (get_or (set h.now.cells cell c) cell blank ≡ c)
    cell_there cell c below =
        let here = allowed.within key_of Stands a s id v kept at alone cell below in
        (subst (λ n. cell < n) (sym (length-set h.now.cells cell c)) here, get_or-set_same h.now.cells cell c blank here)

    -- ---- a claim that takes

    module _ (cell serial : ℕ) (below : cell < 8 * a.teams) (rest : m.work ≡ at_rest) (found : get_or s.words (cell + 1) 0 ≡ word_with serial 1) where
      open_is : (key : Key) × IsOpen h.now cell serial key
      open_is = open_so a.teams (cell_of h.now cell) serial (keeping.few_teams key_of Stands a s id v kept at alone)
          (allowed.of_team key_of Stands a s id v kept at alone cell below)
          (sym (allowed.cell_is key_of Stands a s id v kept at alone cell) ∙ found)

      there : IsSlotOf key_of Stands a.limit (keeping.left key_of Stands a s id v kept at alone ++ m ∷ keeping.right key_of Stands a s id v kept at alone) s
          cell (opened open_is.0)
      there = subst (λ (c : Cell). IsSlotOf key_of Stands a.limit
          (keeping.left key_of Stands a s id v kept at alone ++ m ∷ keeping.right key_of Stands a s id v kept at alone) s cell c.content)
          open_is.1 (slot_at cell below)

      abbrev branch : B
      branch = there.0

      open_with : IsOpen h.now cell serial (key_of branch)
      open_with = open_is.1 ∙ ap (λ k. record { serial = serial; content = opened k }) (sym there.3)

      abbrev event : Event
      event = claim m.team cell serial

      abbrev reply : Reply
      reply = taken (key_of branch)

      abbrev next : plain.State
      next = with_cell (joined h.now m.team (key_of branch)) cell serial (taking m.team)

      does : Does h.now event reply next
      does = Does.takes m.team cell serial (key_of branch) (keeping.is_team key_of Stands a s id v kept at alone) open_with

      abbrev n : Member
      n = keeping.then_member key_of Stands a s id v kept at alone event reply next (clearing_cell cell serial)

      abbrev w : Sight
      w = with_mine v n

      same_left : left_of next ≡ left_of h.now
      same_left = let e = left_is_counted h.now next event reply does in omega (arith, e)

      takes_kept : Kept key_of Stands a
          (record { words = set s.words (cell + 1) (word_with serial (2 + m.team)); homes = set s.homes cell none; views = set s.views id w })
      takes_kept =
          let words = set s.words (cell + 1) (word_with serial (2 + m.team)) in
          keeping.goes_calling key_of Stands a s id v kept at alone event reply next (clearing_cell cell serial) does refl tt
          (cell_there cell (record { serial = serial; content = taking m.team }) below)
          words (set s.homes cell none)
          (words_then event reply next cell (word_with serial (2 + m.team)) (record { serial = serial; content = taking m.team }) refl refl same_left)
          (length-set s.homes cell none ∙ kept.slots)
          (slots_but n w (keeping.then_held key_of Stands a s id v kept at alone event reply next (clearing_cell cell serial)) cell
          (record { serial = serial; content = taking m.team }) words none refl
          (λ i k other opens. keeping.rest_opens_none m.work i k rest opens) tt)

      pub takes_so : (c : List (ℕ × Option B)) → c ≡ []
          → (w : Sight) × (b : Act (Option B)) × Valid s.homes c b × Kept key_of Stands a (stepped s (cell + 1) (word_with serial (2 + m.team)) id c w b)
          × TakesBranch key_of Stands cell serial v (w, carried_after c b)
      takes_so c empty = (
        w,
        takes cell (Some branch),
        there.1,
        takes_kept,
        record {
          branch = branch;
          stands = subst (λ (b : About). Stands b.limit branch) (sym (keeping.about_is key_of Stands a s id v kept at alone)) there.2;
          told = record {
            held = h;
            called = keeping.called key_of Stands a s id v kept at alone event reply next (clearing_cell cell serial) does refl tt
                (cell_there cell (record { serial = serial; content = taking m.team }) below);
            work = refl;
          };
          slot = ap (λ l. (cell, Some branch) ∷ l) empty;
        },
      )

    -- ---- a load to publish

    module _ (cell : ℕ) (key : Key) (own : Owns m.team cell) (below : cell < 8 * a.teams) (there : Contains m.hand key)
        (rest : m.work ≡ at_rest) where
      abbrev content : Cell
      content = cell_of h.now cell

      abbrev publishing : Event
      publishing = publish m.team cell key

      within : IsCell h.now cell
      within = allowed.within key_of Stands a s id v kept at alone cell below

      spends : content.serial ≡ last_serial → Does h.now publishing spent h.now
      spends e = Does.finds_spent m.team cell key within own (allowed.holds key_of Stands a s id v kept at alone key there) e

      refuses : content.serial ≢ last_serial → content.content ≢ free → Does h.now publishing (not_free (seen_in content)) h.now
      refuses ne taken_so = Does.finds_not_free m.team cell key within own (allowed.holds key_of Stands a s id v kept at alone key there) ne taken_so

      -- What the load tells, where the cell is as it is.
      publish_told : (w : Sight × List (ℕ × Option B))
          → (content.serial ≡ last_serial → SpentTold cell key v w.0 × (w.1 ≡ []))
          → (content.serial ≢ last_serial → content.content ≢ free → NotFreeTold cell key content v w.0 × (w.1 ≡ []))
          → (content.serial ≢ last_serial → content.content ≡ free → FreeTold cell content v w.0 × (w.1 ≡ (cell, None) ∷ []))
          → PublishTold cell key v (get_or s.words (cell + 1) 0) w
      publish_told w one two three = record {
        content = content;
        is_cell = subst (λ (b : About). IsCellOf b.teams content) (sym (keeping.about_is key_of Stands a s id v kept at alone))
            (allowed.of_team key_of Stands a s id v kept at alone cell below);
        found_is = allowed.cell_is key_of Stands a s id v kept at alone cell;
        if_spent = one;
        if_not_free = two;
        if_free = three;
      }

      abbrev owner : Member
      owner = record m { work = opening_cell cell content.serial }

      owner_at_cell : content.content ≡ free → IsAtCell h.now m.team owner.work
      owner_at_cell is_free = (within, own, λ i. record { serial = content.serial; content = is_free i })

      owner_after : content.content ≡ free
          → AtWork a (keeping.left key_of Stands a s id v kept at alone ++ owner ∷ keeping.right key_of Stands a s id v kept at alone) h
      owner_after is_free =
          rests_on a (keeping.left key_of Stands a s id v kept at alone) (keeping.right key_of Stands a s id v kept at alone) m owner h h
          (keeping.at_work_was key_of Stands a s id v kept at alone)
          (record { same = refl; becomes = refl; at_cell = owner_at_cell is_free })

      -- No other pass has the slot of a cell of this team.
      slot_is_there : content.content ≡ free → get_elem? s.homes cell ≡ some (some None)
      slot_is_there is_free =
          let left = keeping.left key_of Stands a s id v kept at alone in
          let right = keeping.right key_of Stands a s id v kept at alone in
          let was = keeping.at_work_was key_of Stands a s id v kept at alone in
          let slot = subst (IsSlotOf key_of Stands a.limit (left ++ m ∷ right) s cell) is_free (slot_at cell below) in
          ⊎_elim (λ (home : get_elem? s.homes cell ≡ some (some None)). home)
          (λ (o : IsOpening (left ++ m ∷ right) cell).
          let its : Works a h o.0 = All-contains (Works a h) (left ++ m ∷ right) o.0 was.each o.2 in
          let at : IsAtCell h.now o.0.team (opening_cell cell o.1) = subst (IsAtCell h.now o.0.team) o.3 its.at_cell in
          let same : o.0 ≡ m = one_of_team left right m o.0 was.distinct o.2 (same_owner o.0.team m.team cell at.1 own) in
          keeping.rest_opens_none m.work cell o.1 rest (ap (λ (x : Member). x.work) (sym same) ∙ o.3)) slot

      owner_kept : content.content ≡ free
          → Kept key_of Stands a (record {
            words = set s.words (cell + 1) (get_or s.words (cell + 1) 0);
            homes = set s.homes cell none;
            views = set s.views id (with_mine v owner);
          })
      owner_kept is_free =
          let words = set s.words (cell + 1) (get_or s.words (cell + 1) 0) in
          keeping.goes key_of Stands a s id v kept at alone (with_mine v owner) owner h words (set s.homes cell none) refl refl
          (allowed.same_words key_of Stands a s id v kept at alone (cell + 1)) (length-set s.homes cell none ∙ kept.slots) (owner_after is_free)
          (slots_but owner (with_mine v owner) h cell content words none (sym (set-get_or h.now.cells cell blank))
          (λ i k other opens. keeping.rest_opens_none m.work i k rest opens)
          (subst (IsSlotOf key_of Stands a.limit (keeping.left key_of Stands a s id v kept at alone
          ++ owner ∷ keeping.right key_of Stands a s id v kept at alone)
          (record { words = words; homes = set s.homes cell none; views = set s.views id (with_mine v owner) }) cell) (sym is_free)
          (inr (
            owner,
            content.serial,
            contains_middle (keeping.left key_of Stands a s id v kept at alone) owner (keeping.right key_of Stands a s id v kept at alone),
            refl,
          ))))
          (keeping.no_more h) (keeping.told_was key_of Stands a s id v kept at alone)

      free_told : content.content ≡ free → FreeTold cell content v (with_mine v owner)
      free_told is_free =
          let left = keeping.left key_of Stands a s id v kept at alone in
          let right = keeping.right key_of Stands a s id v kept at alone in
          let teams = keeping.about_is key_of Stands a s id v kept at alone in record {
            held = h;
            before = subst (λ b. Amid b m h) (sym teams)
                (record {
                  members = left ++ m ∷ right;
                  at_work = keeping.at_work_was key_of Stands a s id v kept at alone;
                  there = contains_middle left m right;
                });
            after = subst (λ b. Amid b owner h) (sym teams)
                (record { members = left ++ owner ∷ right; at_work = owner_after is_free; there = contains_middle left owner right });
            rests = record { same = refl; becomes = refl; at_cell = owner_at_cell is_free };
            view = refl;
            work = refl;
          }

      pub publishes_so : (c : List (ℕ × Option B)) → c ≡ []
          → (w : Sight) × (b : Act (Option B)) × Valid s.homes c b × Kept key_of Stands a (stepped s (cell + 1) (get_or s.words (cell + 1) 0) id c w b)
          × PublishTold cell key v (get_or s.words (cell + 1) 0) (w, carried_after c b)
      publishes_so c empty = dite (ℕ_discrete content.serial last_serial)
          (λ is. (
            allowed.quiet_view key_of Stands a s id v kept at alone publishing spent h.now (spends is) refl tt refl rest,
            keeps,
            tt,
            allowed.quiet_kept key_of Stands a s id v kept at alone publishing spent h.now (spends is) refl tt refl rest (cell + 1)
                (get_or s.words (cell + 1) 0) c
                (allowed.same_words key_of Stands a s id v kept at alone (cell + 1)),
            publish_told _
                (λ e. (
                  record {
                    held = h;
                    called = allowed.quiet_called key_of Stands a s id v kept at alone publishing spent h.now (spends is) refl tt refl rest;
                    rests = refl;
                  },
                  empty,
                ))
                (λ ne taken_so. absurd (ne is)) (λ ne is_free. absurd (ne is)),
          ))
          (λ ne. ⊎_elim
          (λ (is_free : content.content ≡ free). (
            with_mine v owner,
            takes cell None,
            slot_is_there is_free,
            owner_kept is_free,
            publish_told _ (λ is. absurd (ne is)) (λ other taken_so. absurd (taken_so is_free))
                (λ other e. (free_told is_free, ap (λ l. (cell, None) ∷ l) empty)),
          ))
          (λ (taken_so : content.content ≢ free). (
            allowed.quiet_view key_of Stands a s id v kept at alone publishing (not_free (seen_in content)) h.now (refuses ne taken_so) refl tt refl rest,
            keeps,
            tt,
            allowed.quiet_kept key_of Stands a s id v kept at alone publishing (not_free (seen_in content)) h.now (refuses ne taken_so) refl tt refl rest
                (cell + 1) (get_or s.words (cell + 1) 0) c
                (allowed.same_words key_of Stands a s id v kept at alone (cell + 1)),
            publish_told _ (λ is. absurd (ne is))
                (λ other e. (
                  record {
                    held = h;
                    called = allowed.quiet_called key_of Stands a s id v kept at alone publishing (not_free (seen_in content)) h.now (refuses ne taken_so) refl
                        tt refl rest;
                    rests = refl;
                  },
                  empty,
                ))
                (λ other is_free. absurd (taken_so is_free)),
          )) (free_or content.content))

    -- ---- the cell is opened

    module _ (cell before : ℕ) (branch : B) (below : cell < 8 * a.teams) (works : m.work ≡ opening_cell cell before) (low : before + 1 ≤ last_serial)
        (there : Contains m.hand (key_of branch))
        (stands : Stands a.limit branch) where
      at_cell_now : IsAtCell h.now m.team (opening_cell cell before)
      at_cell_now = subst (IsAtCell h.now m.team) works (keeping.works key_of Stands a s id v kept at alone).at_cell

      abbrev opens_event : Event
      opens_event = publish m.team cell (key_of branch)

      abbrev opened_cell : Cell
      opened_cell = record { serial = suc (cell_of h.now cell).serial; content = opened (key_of branch) }

      abbrev opened_next : plain.State
      opened_next = with_cell (with_keys h.now m.team (key_of branch) []) cell (suc (cell_of h.now cell).serial) (opened (key_of branch))

      serial_is : (cell_of h.now cell).serial ≡ before
      serial_is = ap (λ (c : Cell). c.serial) at_cell_now.2

      opens_does : Does h.now opens_event done opened_next
      opens_does = Does.publishes m.team cell (key_of branch) at_cell_now.0 at_cell_now.1
          (allowed.holds key_of Stands a s id v kept at alone (key_of branch) there)
          (not_last (cell_of h.now cell).serial before serial_is low) (ap (λ (c : Cell). c.content) at_cell_now.2)
        where
          not_last : (n before : ℕ) → n ≡ before → before + 1 ≤ last_serial → n ≢ last_serial
          not_last n before e low is = absurd (omega (arith, e, low, is))

      opened_word : word_with (before + 1) 1 ≡ cell_word opened_cell
      opened_word = ap (λ n. word_with n 1) (next_serial before (cell_of h.now cell).serial serial_is)
        where
          next_serial : (before n : ℕ) → n ≡ before → before + 1 ≡ suc n
          next_serial before n e = omega (arith, e)

      opened_left : left_of opened_next ≡ left_of h.now
      opened_left = let e = left_is_counted h.now opened_next opens_event done opens_does in omega (arith, e)

      abbrev opener : Member
      opener = keeping.then_member key_of Stands a s id v kept at alone opens_event done opened_next at_rest

      opens_kept : Kept key_of Stands a
          (record {
            words = set s.words (cell + 1) (word_with (before + 1) 1);
            homes = set s.homes cell (some (Some branch));
            views = set s.views id (with_mine v opener);
          })
      opens_kept =
          let words = set s.words (cell + 1) (word_with (before + 1) 1) in
          keeping.goes_calling key_of Stands a s id v kept at alone opens_event done opened_next at_rest opens_does refl tt tt words
          (set s.homes cell (some (Some branch)))
          (words_then opens_event done opened_next cell (word_with (before + 1) 1) opened_cell opened_word refl opened_left)
          (length-set s.homes cell (some (Some branch)) ∙ kept.slots)
          (slots_but opener (with_mine v opener) (keeping.then_held key_of Stands a s id v kept at alone opens_event done opened_next at_rest) cell opened_cell
          words (some (Some branch)) refl
          (λ i k other opens. absurd (other (sym (opening_is cell before i k (sym works ∙ opens)))))
          (branch, set_here s.homes cell (some (Some branch)) (slot_within cell below), stands, refl))

      pub opens_so : (w : Sight) × (b : Act (Option B)) × Valid s.homes ((cell, Some branch) ∷ []) b
          × Kept key_of Stands a (stepped s (cell + 1) (word_with (before + 1) 1) id ((cell, Some branch) ∷ []) w b)
          × (CallTold opens_event v (word_with (before + 1) 1) w × (carried_after ((cell, Some branch) ∷ []) b ≡ []))
      opens_so = (
        with_mine v opener,
        gives,
        tt,
        opens_kept,
        (
          record {
            held = h;
            reply = done;
            tells = refl;
            called = keeping.called key_of Stands a s id v kept at alone opens_event done opened_next at_rest opens_does refl tt tt;
            rests = refl;
          },
          refl,
        ),
      )

    -- ---- the cell is cleared

    module _ (cell serial : ℕ) (below : cell < 8 * a.teams) (works : m.work ≡ clearing_cell cell serial) where
      at_taken : IsAtCell h.now m.team (clearing_cell cell serial)
      at_taken = subst (IsAtCell h.now m.team) works (keeping.works key_of Stands a s id v kept at alone).at_cell

      abbrev clears_event : Event
      clears_event = clear m.team cell

      abbrev cleared_next : plain.State
      cleared_next = with_cell h.now cell (cell_of h.now cell).serial free

      clears_does : Does h.now clears_event cleared cleared_next
      clears_does = Does.clears m.team cell (ap (λ (c : Cell). c.content) at_taken.1)

      abbrev cleared_cell : Cell
      cleared_cell = record { serial = (cell_of h.now cell).serial; content = free }

      cleared_left : left_of cleared_next ≡ left_of h.now
      cleared_left = let e = left_is_counted h.now cleared_next clears_event cleared clears_does in omega (arith, e)

      abbrev clearer : Member
      clearer = keeping.then_member key_of Stands a s id v kept at alone clears_event cleared cleared_next at_rest

      clears_kept : Kept key_of Stands a
          (record { words = set s.words (cell + 1) (word_with serial 0); homes = set s.homes cell (some None); views = set s.views id (with_mine v clearer) })
      clears_kept =
          let words = set s.words (cell + 1) (word_with serial 0) in
          keeping.goes_calling key_of Stands a s id v kept at alone clears_event cleared cleared_next at_rest clears_does refl tt tt words
          (set s.homes cell (some None))
          (words_then clears_event cleared cleared_next cell (word_with serial 0) cleared_cell
          (ap (λ (c : Cell). word_with c.serial 0) (sym at_taken.1)) refl cleared_left)
          (length-set s.homes cell (some None) ∙ kept.slots)
          (slots_but clearer (with_mine v clearer) (keeping.then_held key_of Stands a s id v kept at alone clears_event cleared cleared_next at_rest) cell
          cleared_cell words (some None) refl
          (λ i k other opens. keeping.clearing_opens_none m.work i k cell serial works opens)
          (inl (set_here s.homes cell (some None) (slot_within cell below))))

      pub clears_so : (w : Sight) × (b : Act (Option B)) × Valid s.homes ((cell, None) ∷ []) b
          × Kept key_of Stands a (stepped s (cell + 1) (word_with serial 0) id ((cell, None) ∷ []) w b)
          × (CallTold clears_event v (word_with serial 0) w × (carried_after ((cell, None) ∷ []) b ≡ []))
      clears_so = (
        with_mine v clearer,
        gives,
        tt,
        clears_kept,
        (
          record {
            held = h;
            reply = cleared;
            tells = refl;
            called = keeping.called key_of Stands a s id v kept at alone clears_event cleared cleared_next at_rest clears_does refl tt tt;
            rests = refl;
          },
          refl,
        ),
      )

  -- ---- what the table asks of these steps

  pub allows_claim : (a : About) (slots id cell serial : ℕ) (v : Sight) (c : List (ℕ × Option B)) → v.members ≡ mine_of v ∷ [] → c ≡ []
      → (mine_of v).work ≡ at_rest → cell < 8 * a.teams
      → Allows (Kept key_of Stands a) slots id (v, c) (cell + 1) (λ n. either (eqb n (word_with serial 1)) (word_with serial (2 + (mine_of v).team)) n)
      (λ n me. ClaimTold key_of Stands cell serial v n me)
  allows_claim a slots id cell serial v c alone empty rest below s kept homes at small =
      let n = get_or s.words (cell + 1) 0 in
      exchanged n (word_with serial 1) (word_with serial (2 + (mine_of v).team))
      (λ x. (w : Sight) × (b : Act (Option B)) × Valid s.homes c b × Kept key_of Stands a (stepped s (cell + 1) x id c w b)
      × ClaimTold key_of Stands cell serial v n (w, carried_after c b))
      (λ found.
      let so = takes_so a s id v kept at alone cell serial below rest found c empty in
      (so.0, so.1, so.2, so.3, record { if_open = λ is. so.4; if_moved = λ ne. absurd (ne found) }))
      (λ ne.
      let so = allowed.misses_so key_of Stands a slots id v c alone empty rest s kept at cell serial below
      (λ key o. ne (allowed.cell_is key_of Stands a s id v kept at alone cell ∙ ap cell_word o)) in
      (so.0, so.1, so.2, so.3, record { if_open = λ is. absurd (ne is); if_moved = λ other. so.4 }))

  pub allows_publish : (a : About) (slots id cell : ℕ) (key : Key) (v : Sight) (c : List (ℕ × Option B)) → v.members ≡ mine_of v ∷ [] → c ≡ []
      → (mine_of v).work ≡ at_rest
      → Owns (mine_of v).team cell → cell < 8 * a.teams → Contains (mine_of v).hand key
      → Allows (Kept key_of Stands a) slots id (v, c) (cell + 1) (λ n. n) (λ n me. PublishTold cell key v n me)
  allows_publish a slots id cell key v c alone empty rest own below there s kept homes at small =
      publishes_so a s id v kept at alone cell key own below there rest c empty

  pub allows_open : (a : About) (slots id cell before : ℕ) (branch : B) (v : Sight) → v.members ≡ mine_of v ∷ [] → cell < 8 * a.teams
      → (mine_of v).work ≡ opening_cell cell before
      → before + 1 ≤ last_serial → Contains (mine_of v).hand (key_of branch) → Stands a.limit branch
      → Allows (Kept key_of Stands a) slots id (v, (cell, Some branch) ∷ []) (cell + 1) (λ _. word_with (before + 1) 1)
      (λ _ me. CallTold (publish (mine_of v).team cell (key_of branch)) v (word_with (before + 1) 1) me.0 × (me.1 ≡ []))
  allows_open a slots id cell before branch v alone below works low there stands s kept homes at small =
      opens_so a s id v kept at alone cell before branch below works low there stands

  pub allows_clear : (a : About) (slots id cell serial : ℕ) (v : Sight) → v.members ≡ mine_of v ∷ [] → cell < 8 * a.teams
      → (mine_of v).work ≡ clearing_cell cell serial
      → Allows (Kept key_of Stands a) slots id (v, (cell, None) ∷ []) (cell + 1) (λ _. word_with serial 0)
      (λ _ me. CallTold (clear (mine_of v).team cell) v (word_with serial 0) me.0 × (me.1 ≡ []))
  allows_clear a slots id cell serial v alone below works s kept homes at small = clears_so a s id v kept at alone cell serial below works
