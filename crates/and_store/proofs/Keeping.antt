-- One seat of the table steps, and the rule of the table is kept.
use Rattle.std.proofs.Common.{ℕ, zero, suc, ◌*◌, ◌≡◌, ◌≢◌, List, [], ◌∷◌, ◌++◌, map, length, set, refl, sym, ap, subst, ◌∙◌, All, Contains}
use Rattle.std.proofs.lemmas.List.{map-set}
use Rattle.std.proofs.lemmas.List.Elements.{All-set}
use mathlib.Core.Option.{some, some-injective, some-ne-none}
use lib.ListN.{get_elem?}
use Rattle.atomic_table.specs.Table.{State}
use Rattle.atomic_table.proofs.Lists.{at_map}
use Rattle.and_model.specs.Store.{HungGoal, hung_of}
use Rattle.and_model.specs.Words.{HasWord}
use Rattle.and_cells.specs.Ranges.{NamedProgram}
use Rattle.and_store_laws.specs.AtWork.{Opening, Member, Seat, Held, Rule, all_members}
use Rattle.and_store_laws.specs.Steps.{seat, Moves}
use Rattle.and_store_laws.proofs.Lists.{contains_there}
use Rattle.and_store_laws.proofs.Pairwise.{all_first, all_rest}
use Rattle.and_store_laws.proofs.Seats.{flat_middle}
use Rattle.and_store_laws.proofs.Tables.{moves_at}
use Rattle.and_store.specs.Kept.{Kept, AreNoted, HasGoal, words_of}
use Rattle.and_store.specs.Sight.{About, Sight, seat_of, opening_of}
use Rattle.and_store.specs.Told.{mine_of, IsAlone, noting, stepped_to, Amid, Went}

pub all_at : {X : Type 0} (Q : X → Type 0) (xs : List X) (i : ℕ) (x : X) → All Q xs → get_elem? xs i ≡ some x → Q x
all_at Q [] i x h e = absurd (some-ne-none x (sym e))
all_at Q (y ∷ xs) zero x h e = subst Q (some-injective y x e) (all_first Q y xs h)
all_at Q (y ∷ xs) (suc i) x h e = all_at Q xs i x (all_rest Q y xs h) e

amid_middle : (o : Opening) (seats : List Seat) (front back : List Seat) (shares made : ℕ) (m : Member) (others : List Member) (h : Held)
    → seats ≡ front ++ seat shares made (m ∷ others) ∷ back → Rule o seats h → Amid o m h
amid_middle o seats front back shares made m others h e r = record {
  members = all_members seats;
  at_work = r.at_work;
  there = subst (λ l. Contains l m) (sym (ap all_members e ∙ flat_middle front back shares made m others))
      (contains_there (all_members front) (others ++ all_members back) m);
}

module _ (P : NamedProgram) (a : About) (s : State (Unit {0}) Sight) (id : ℕ) (v : Sight) (kept : Kept P a s) (at : get_elem? s.views id ≡ some v)
    (alone : IsAlone v) where
  abbrev o : Opening
  o = opening_of P a

  abbrev m : Member
  m = mine_of v

  abbrev seats : List Seat
  seats = map seat_of s.views

  pub about_is : v.about ≡ a
  about_is = all_at (λ (v : Sight). v.seat.members ≢ [] → v.about ≡ a) s.views id v kept.about at (λ none. let e = sym alone ∙ none in absurd (cc))

  abbrev was : Seat
  was = seat v.seat.shares v.seat.made (m ∷ [])

  seat_at : get_elem? seats id ≡ some was
  seat_at = at_map seat_of s.views id v at ∙ ap (λ l. some (seat v.seat.shares v.seat.made l)) alone

  abbrev pub after : Member → List ℕ → List Seat
  after n ns = map seat_of (set s.views id (noting v n ns))

  pub moved : (n : Member) (ns : List ℕ) → Moves seats (after n ns) m n
  moved n ns =
      subst (λ l. Moves seats l m n) (sym (map-set seat_of s.views id (noting v n ns))) (moves_at seats id v.seat.shares v.seat.made m n [] seat_at)

  pub amid_before : Amid o m kept.held
  amid_before =
      let x = moved m [] in
      amid_middle o seats x.front x.back x.shares x.made m x.others kept.held x.was kept.rule

  pub amid_after : (n : Member) (ns : List ℕ) (k : Held) → Rule o (after n ns) k → Amid o n k
  amid_after n ns k r =
      let x = moved n ns in
      amid_middle o (after n ns) x.front x.back x.shares x.made n x.others k x.becomes r

  -- The words change, and the seat goes on.
  pub goes : (n : Member) (ns : List ℕ) (k : Held) (goals words : List ℕ) → words ≡ words_of k goals
      → length goals ≡ 2 * (a.seats * a.waiters) → All HasWord k.row
      → Rule o (after n ns) k → All (λ (g : HungGoal). HasGoal goals g.waiter g.goal) (hung_of k.journal)
      → All (λ (u : Sight). AreNoted o goals u.seat.members u.noted) (set s.views id (noting v n ns))
      → Kept P a (record { words = words; homes = s.homes; views = set s.views id (noting v n ns) })
  goes n ns k goals words are long named r hung noted = record {
    held = k;
    goals = goals;
    words = are;
    goal_words = long;
    modest = kept.modest;
    named = named;
    rule = r;
    about = All-set (λ (u : Sight). u.seat.members ≢ [] → u.about ≡ a) s.views id (noting v n ns) (λ some. about_is) kept.about;
    hung = hung;
    noted = noted;
  }

  -- The same where no word of a goal changes, and none is noted.
  pub goes_plainly : (n : Member) (k : Held) (words : List ℕ) → words ≡ words_of k kept.goals → All HasWord k.row
      → Rule o (after n []) k → All (λ (g : HungGoal). HasGoal kept.goals g.waiter g.goal) (hung_of k.journal)
      → Kept P a (record { words = words; homes = s.homes; views = set s.views id (stepped_to v n) })
  goes_plainly n k words are named r hung =
      goes n [] k kept.goals words are kept.goal_words named r hung
      (All-set (λ (u : Sight). AreNoted o kept.goals u.seat.members u.noted) s.views id (stepped_to v n) tt kept.noted)

  pub row_long : length kept.held.row ≡ a.words
  row_long = kept.rule.at_work.holds.words

  pub places_long : length kept.held.places ≡ a.words
  places_long = kept.rule.at_work.holds.places

  pub went : (n : Member) (k : Held) → Rule o (after n []) k → Went P v (stepped_to v n) kept.held k n
  went n k r = record {
    before = subst (λ b. Amid (opening_of P b) m kept.held) (sym about_is) amid_before;
    after = subst (λ b. Amid (opening_of P b) n k) (sym about_is) (amid_after n [] k r);
    view = refl;
  }
