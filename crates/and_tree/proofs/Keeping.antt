-- One seat of the table steps, and the rule of the table is kept.
use Rattle.std.proofs.Common.{ℕ, zero, suc, ◌*◌, ◌≡◌, ◌≢◌, ◌≤◌, ◌<◌, inl, inr, List, [], ◌∷◌, ◌++◌, length, get_or, set, refl, sym, ap}
use Rattle.std.proofs.Common.{subst, ◌∙◌, append-nil, append_assoc, arith, Option, All}
use Rattle.std.proofs.lemmas.Grind.{flat_map-append}
use Rattle.std.proofs.lemmas.List.Elements.{All-head, All-tail, All-set, All-weaker}
use mathlib.Core.Option.{some, none, some-injective, some-ne-none}
use lib.ListN.{get_elem?}
use Rattle.atomic_table.specs.Table.{State}
use Rattle.and_model.specs.Prefixes.{IsPrefix}
use Rattle.and_histories.specs.PlainTree as plain
use Rattle.and_histories.specs.PlainTree.{Key, Cell, Content, free, opened, taking, Event, Reply, Does, hand_of, cell_of, IsTeam, left_of}
use Rattle.and_histories.specs.Histories.{HistoryEntry, team_of}
use Rattle.and_tree.specs.Sight.{About, Work, at_rest, opening_cell, clearing_cell, Member, Sight, mine_of, with_mine}
use Rattle.and_tree.specs.AtWork.{Held, AtWork, Works, IsAtCell, IsModestEvent, Acts, all_members}
use Rattle.and_tree.specs.Kept.{Kept, IsSlotOf, IsOpening, words_of}
use Rattle.and_tree.specs.Told.{Amid, Called}
use Rattle.and_tree.proofs.Going.{acts_on, all_middle, contains_middle, turned_over}

pub all_at : {X : Type 0} (Q : X → Type 0) (xs : List X) (i : ℕ) (x : X) → All Q xs → get_elem? xs i ≡ some x → Q x
all_at Q [] i x h e = absurd (some-ne-none x (sym e))
all_at Q (y ∷ xs) zero x h e = subst Q (some-injective y x e) (All-head Q y xs h)
all_at Q (y ∷ xs) (suc i) x h e = all_at Q xs i x (All-tail Q y xs h) e

pub stands_at : {X : Type 0} (xs : List X) (i : ℕ) (d : X) → i < length xs → get_elem? xs i ≡ some (get_or xs i d)
stands_at [] i d below = absurd (omega (arith, below))
stands_at (x ∷ xs) zero d below = refl
stands_at (x ∷ xs) (suc i) d below = stands_at xs i d (omega (arith, below))

pub no_more : (h : Held) → IsPrefix h.history h.history
no_more h = ([], sym (append-nil h.history))

-- a place of a list, and what stands around it
pub record Around {X : Type 0} (xs : List X) (i : ℕ) (x : X) : Type 0 where
  pub front : List X
  pub back : List X
  pub was : xs ≡ front ++ x ∷ back
  pub becomes : (y : X) → set xs i y ≡ front ++ y ∷ back

pub around : {X : Type 0} (xs : List X) (i : ℕ) (x : X) → get_elem? xs i ≡ some x → Around xs i x
around [] i x e = absurd (some-ne-none x (sym e))
around (y ∷ xs) zero x e = record { front = []; back = xs; was = ap (λ z. z ∷ xs) (some-injective y x e); becomes = λ z. refl }
around (y ∷ xs) (suc i) x e = let r =
    around xs i x e in record { front = y ∷ r.front; back = r.back; was = ap (λ l. y ∷ l) r.was; becomes = λ z. ap (λ l. y ∷ l) (r.becomes z) }

pub members_around : (front back : List Sight) (v : Sight) → all_members (front ++ v ∷ back) ≡ all_members front ++ (v.members ++ all_members back)
members_around front back v = flat_map-append (λ (v : Sight). v.members) front (v ∷ back)

-- ---- slots

pub opening_on : (front back : List Member) (m n : Member) (cell : ℕ)
    → ((serial : ℕ) → m.work ≡ opening_cell cell serial → (k : ℕ) × (n.work ≡ opening_cell cell k))
    → IsOpening (front ++ m ∷ back) cell → IsOpening (front ++ n ∷ back) cell
opening_on front back m n cell f (o, serial, there, is) = elim (turned_over front back m n o there) [
  | inl e ↦ (let next = f serial (ap (λ (x : Member). x.work) (sym e) ∙ is) in (n, next.0, contains_middle front n back, next.1))
  | inr c ↦ (o, serial, c, is)
]

abbrev Opens : Work → Type 0
Opens at_rest = ⊥
Opens (opening_cell cell serial) = Unit {0}
Opens (clearing_cell cell serial) = ⊥

pub rest_opens_none : {A : Type 0} (work : Work) (cell serial : ℕ) → work ≡ at_rest → work ≡ opening_cell cell serial → A
rest_opens_none work cell serial rest is = absurd (subst Opens (sym is ∙ rest) tt)

pub clearing_opens_none : {A : Type 0} (work : Work) (cell serial i n : ℕ) → work ≡ clearing_cell i n → work ≡ opening_cell cell serial → A
clearing_opens_none work cell serial i n clears is = absurd (subst Opens (sym is ∙ clears) tt)

module _ {B : Type 0} (key_of : B → Key) (Stands : ℕ → B → Type 0) where
  pub slot_on : (limit : ℕ) (members after : List Member) (s t : State (Option B) Sight) (cell : ℕ) (content : Content)
      → get_elem? t.homes cell ≡ get_elem? s.homes cell → (IsOpening members cell → IsOpening after cell)
      → IsSlotOf key_of Stands limit members s cell content → IsSlotOf key_of Stands limit after t cell content
  slot_on limit members after s t cell free e f (inl x) = inl (e ∙ x)
  slot_on limit members after s t cell free e f (inr o) = inr (f o)
  slot_on limit members after s t cell (opened key) e f (b, x, stands, k) = (b, e ∙ x, stands, k)
  slot_on limit members after s t cell (taking team) e f x = tt

  module _ (a : About) (s : State (Option B) Sight) (id : ℕ) (v : Sight) (kept : Kept key_of Stands a s) (at : get_elem? s.views id ≡ some v)
      (alone : v.members ≡ mine_of v ∷ []) where
    abbrev pub h : Held
    h = kept.held

    abbrev pub m : Member
    m = mine_of v

    abbrev pub left : List Member
    left = all_members (around s.views id v at).front

    abbrev pub right : List Member
    right = all_members (around s.views id v at).back

    pub about_is : v.about ≡ a
    about_is = all_at (λ (v : Sight). v.members ≢ [] → v.about ≡ a) s.views id v kept.about at (λ none. let e = sym alone ∙ none in absurd (cc))

    members_were : all_members s.views ≡ left ++ m ∷ right
    members_were =
        let r = around s.views id v at in
        ap all_members r.was ∙ members_around r.front r.back v ∙ ap (λ l. left ++ (l ++ right)) alone

    pub members_are : (w : Sight) (n : Member) → w.members ≡ n ∷ [] → all_members (set s.views id w) ≡ left ++ n ∷ right
    members_are w n e =
        let r = around s.views id v at in
        ap all_members (r.becomes w) ∙ members_around r.front r.back w ∙ ap (λ l. left ++ (l ++ right)) e

    pub at_work_was : AtWork a (left ++ m ∷ right) h
    at_work_was = subst (λ l. AtWork a l h) members_were kept.at_work

    pub works : Works a h m
    works = all_middle (Works a h) left m right at_work_was.each

    pub slot_was : (cell : ℕ) (c : Cell) → get_elem? h.now.cells cell ≡ some c → IsSlotOf key_of Stands a.limit (left ++ m ∷ right) s cell c.content
    slot_was cell c is = subst (λ l. IsSlotOf key_of Stands a.limit l s cell c.content) members_were (kept.slot cell c is)

    pub is_team : IsTeam h.now m.team
    is_team = let t = works.team in let e = at_work_was.few.teams_are in omega (arith, t, e)

    pub few_teams : a.teams ≤ 16
    few_teams = at_work_was.few.at_most

    -- The words, the slots and the seat change.
    pub goes : (w : Sight) (n : Member) (k : Held) (words : List ℕ) (homes : List (mathlib.Core.Option.Option (Option B)))
        → w.members ≡ n ∷ [] → w.about ≡ v.about → words ≡ words_of k → length homes ≡ 8 * a.teams → AtWork a (left ++ n ∷ right) k
        → ((cell : ℕ) (c : Cell) → get_elem? k.now.cells cell ≡ some c
        → IsSlotOf key_of Stands a.limit (left ++ n ∷ right) (record { words = words; homes = homes; views = set s.views id w }) cell c.content)
        → IsPrefix h.history k.history → IsPrefix w.told k.history
        → Kept key_of Stands a (record { words = words; homes = homes; views = set s.views id w })
    goes w n k words homes is about are long after slots more told = record {
      held = k;
      words = are;
      slots = long;
      at_work = subst (λ l. AtWork a l k) (sym (members_are w n is)) after;
      slot = λ cell c e. subst (λ l. IsSlotOf key_of Stands a.limit l (record { words = words; homes = homes; views = set s.views id w }) cell c.content)
          (sym (members_are w n is)) (slots cell c e);
      about = All-set (λ (u : Sight). u.members ≢ [] → u.about ≡ a) s.views id w (λ some_member. about ∙ about_is) kept.about;
      told = All-set (λ (u : Sight). IsPrefix u.told k.history) s.views id w told
          (All-weaker (λ (u : Sight). IsPrefix u.told h.history) (λ (u : Sight). IsPrefix u.told k.history)
          (λ u p. (p.0 ++ more.0, more.1 ∙ ap (λ l. l ++ more.0) p.1 ∙ append_assoc u.told p.0 more.0)) s.views kept.told);
    }

    pub told_was : IsPrefix v.told h.history
    told_was = all_at (λ (u : Sight). IsPrefix u.told h.history) s.views id v kept.told at

    -- The slots stay as they are, and the pass was not about to open a cell.
    pub slots_stay : (w : Sight) (n : Member) (k : Held) (words : List ℕ) → k.now.cells ≡ h.now.cells → m.work ≡ at_rest
        → (cell : ℕ) (c : Cell) → get_elem? k.now.cells cell ≡ some c
        → IsSlotOf key_of Stands a.limit (left ++ n ∷ right) (record { words = words; homes = s.homes; views = set s.views id w }) cell c.content
    slots_stay w n k words same rest cell c is =
        slot_on a.limit (left ++ m ∷ right) (left ++ n ∷ right) s (record { words = words; homes = s.homes; views = set s.views id w }) cell c.content refl
        (opening_on left right m n cell (λ serial opens. rest_opens_none m.work cell serial rest opens))
        (slot_was cell c (ap (λ l. get_elem? l cell) (sym same) ∙ is))

    -- ---- the pass makes a call

    module _ (event : Event) (reply : Reply) (next : plain.State) (work : Work) where
      abbrev pub entry : HistoryEntry
      entry = record { event = event; reply = reply }

      abbrev pub then_held : Held
      then_held = record { now = next; history = h.history ++ entry ∷ [] }

      abbrev pub then_member : Member
      then_member = record { team = m.team; seen = h.history ++ entry ∷ []; hand = hand_of next m.team; work = work }

      module _ (does : Does h.now event reply next) (of_team : team_of event ≡ m.team) (modest : IsModestEvent h.now event)
          (at_cell : IsAtCell next m.team work) where
        acts : Acts h then_held m then_member entry
        acts = record { of_team = of_team; does = does; modest = modest; history = refl; becomes = refl; at_cell = at_cell }

        pub after_call : AtWork a (left ++ then_member ∷ right) then_held
        after_call = acts_on a left right m then_member entry h then_held at_work_was acts

        pub called : Called event reply v (with_mine v then_member) h
        called = record {
          next = then_held;
          before = subst (λ b. Amid b m h) (sym about_is) (record { members = left ++ m ∷ right; at_work = at_work_was; there = contains_middle left m right });
          after = subst (λ b. Amid b then_member then_held) (sym about_is)
              (record { members = left ++ then_member ∷ right; at_work = after_call; there = contains_middle left then_member right });
          acts = acts;
          view = refl;
        }

        told_on : IsPrefix v.told (h.history ++ entry ∷ [])
        told_on = let p = told_was in (p.0 ++ entry ∷ [], ap (λ l. l ++ entry ∷ []) p.1 ∙ append_assoc v.told p.0 (entry ∷ []))

        pub goes_calling : (words : List ℕ) (homes : List (mathlib.Core.Option.Option (Option B))) → words ≡ words_of then_held
            → length homes ≡ 8 * a.teams
            → ((cell : ℕ) (c : Cell) → get_elem? next.cells cell ≡ some c
            → IsSlotOf key_of Stands a.limit (left ++ then_member ∷ right)
            (record { words = words; homes = homes; views = set s.views id (with_mine v then_member) }) cell c.content)
            → Kept key_of Stands a (record { words = words; homes = homes; views = set s.views id (with_mine v then_member) })
        goes_calling words homes are long slots =
            goes (with_mine v then_member) then_member then_held words homes refl refl are long after_call slots (entry ∷ [], refl) told_on
