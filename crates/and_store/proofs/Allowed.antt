-- Each look and each setting of a word is allowed by the table's rule.
use Rattle.std.proofs.Common.{ℕ, ◌≡◌, ◌<◌, eqb, List, [], ◌∷◌, ◌++◌, map, set, get_or, None, refl, sym, ap, subst, ◌∙◌, arith, All}
use Rattle.std.proofs.lemmas.List.{set-get_or}
use Rattle.std.proofs.lemmas.List.Elements.{All-set, All-get_or}
use prog.Atomic.{either}
use mathlib.Core.Option.{some}
use lib.ListN.{get_elem?}
use Rattle.atomic_table.specs.Table.{State, Allows, Act, Valid, keeps, stepped, carried_after}
use Rattle.atomic_table.proofs.Lists.{exchanged}
use Rattle.and_model.specs.Store.{HungGoal}
use Rattle.and_model.specs.Words.{HasWord, word_of}
use Rattle.and_model.specs.declared.reference.Ref.{Ref}
use Rattle.and_model.specs.declared.reference.Ref.TheVariants.{Free, Cell, Node, Number, Half}
use Rattle.and_cells.specs.Ranges.{NamedProgram}
use Rattle.and_cells.proofs.PlainRows.{ref_of_word}
use Rattle.and_cells.specs.Rows.{ref_of}
use Rattle.and_store_laws.specs.AtWork.{Member, Held, Rule, word_at}
use Rattle.and_store_laws.specs.Steps.{looked, own_entry, set_as}
use Rattle.and_store_laws.proofs.Journal.{made_hung}
use Rattle.and_store_laws.proofs.Quiet.{looks_keep}
use Rattle.and_store_laws.proofs.Setting.{sets_keep, nothing_more}
use Rattle.and_store.specs.Kept.{Kept, HasGoal}
use Rattle.and_store.specs.Passes.{CanSet}
use Rattle.and_store.specs.Sight.{About, Sight, opening_of, seat_of}
use Rattle.and_store.specs.Told.{mine_of, IsAlone, stepped_to, LookTold, SetTold, BindTold}
use Rattle.and_store.proofs.Words.{row_at, row_set}
use Rattle.and_store.proofs.Keeping.{after, moved, goes_plainly, went, row_long, places_long}

pub same_ref : (r t : Ref) → HasWord r → HasWord t → word_of r ≡ word_of t → r ≡ t
same_ref r t h k e = sym (ref_of_word r h) ∙ ap ref_of e ∙ ref_of_word t k

word_free : (r : Ref) → word_of r ≡ 0 → r ≡ Free
word_free Free e = refl
word_free (Cell cell) e = absurd (omega arith)
word_free (Node node base) e = absurd (omega arith)
word_free (Number pair) e = absurd (omega arith)
word_free (Half bits) e = absurd (omega arith)

module _ (P : NamedProgram) (a : About) (s : State (Unit {0}) Sight) (id : ℕ) (v : Sight) (kept : Kept P a s) (at : get_elem? s.views id ≡ some v)
    (alone : IsAlone v) where
  module _ (cell : ℕ) (within : cell < a.words) where
    abbrev r : Ref
    r = word_at kept.held.row cell

    abbrev looking : Member
    looking = looked cell r kept.held.journal (mine_of v)

    pub cell_found : get_or s.words cell 0 ≡ word_of r
    cell_found = ap (λ l. get_or l cell 0) kept.words
        ∙ row_at kept.held kept.goals a.words (row_long P a s id v kept at alone) (places_long P a s id v kept at alone) cell within

    look_rule : Rule (opening_of P a) (after P a s id v kept at alone looking []) kept.held
    look_rule =
        looks_keep (opening_of P a) cell (map seat_of s.views) kept.held (after P a s id v kept at alone looking []) kept.held kept.rule
        (record { m = mine_of v; moves = moved P a s id v kept at alone looking []; held = refl })

    pub look_kept : Kept P a (stepped s cell (get_or s.words cell 0) id [] (stepped_to v looking) keeps)
    look_kept = goes_plainly P a s id v kept at alone looking kept.held (set s.words cell (get_or s.words cell 0)) (set-get_or s.words cell 0 ∙ kept.words)
        kept.named look_rule kept.hung

    pub look_told : LookTold P cell v (get_or s.words cell 0) (stepped_to v looking)
    look_told = record {
      held = kept.held;
      went = went P a s id v kept at alone looking kept.held look_rule;
      found_is = cell_found;
      named = let long = row_long P a s id v kept at alone in All-get_or HasWord kept.held.row cell Free (omega arith) kept.named;
    }

    abbrev setting : Ref → Member
    setting to = set_as cell to kept.held.journal (mine_of v)

    abbrev set_held : Ref → Held
    set_held to = record kept.held { row = set kept.held.row cell to; journal = kept.held.journal ++ own_entry cell to (mine_of v) ∷ [] }

    set_rule : (to : Ref) → CanSet P a.words cell to (mine_of v).pass.known → (mine_of v).pending ≡ None → r ≡ Free
        → Rule (opening_of P a) (after P a s id v kept at alone (setting to) []) (set_held to)
    set_rule to can rest free =
        sets_keep (opening_of P a) cell to (map seat_of s.views) kept.held (after P a s id v kept at alone (setting to) []) (set_held to) kept.rule (record {
          m = mine_of v;
          within = within;
          is_set = can.is_set;
          fits = can.fits;
          written = can.written;
          at_rest = rest;
          free = free;
          moves = moved P a s id v kept at alone (setting to) [];
          held = refl;
        })

    pub set_kept : (to : Ref) → CanSet P a.words cell to (mine_of v).pass.known → (mine_of v).pending ≡ None → r ≡ Free
        → Kept P a (stepped s cell (word_of to) id [] (stepped_to v (setting to)) keeps)
    set_kept to can rest free =
        goes_plainly P a s id v kept at alone (setting to) (set_held to) (set s.words cell (word_of to))
        (ap (λ l. set l cell (word_of to)) kept.words
        ∙ row_set kept.held kept.goals a.words (row_long P a s id v kept at alone) (places_long P a s id v kept at alone) cell to within)
        (All-set HasWord kept.held.row cell to can.named kept.named) (set_rule to can rest free)
        (subst (All (λ (g : HungGoal). HasGoal kept.goals g.waiter g.goal))
        (sym (nothing_more made_hung kept.held.journal (own_entry cell to (mine_of v) ∷ []) refl)) kept.hung)

    pub set_told : (to : Ref) → CanSet P a.words cell to (mine_of v).pass.known → (mine_of v).pending ≡ None → r ≡ Free
        → SetTold P cell to v (stepped_to v (setting to))
    set_told to can rest free = record {
      held = kept.held;
      went = went P a s id v kept at alone (setting to) (set_held to) (set_rule to can rest free);
      free = free;
    }

pub looks : (P : NamedProgram) (a : About) (slots id cell : ℕ) (v : Sight) (c : List (ℕ × Unit {0})) → IsAlone v → c ≡ [] → cell < a.words
    → Allows (Kept P a) slots id (v, c) cell (λ n. n) (λ n me. LookTold P cell v n me.0 × (me.1 ≡ []))
looks P a slots id cell v c alone none within s kept homes at small = (
  stepped_to v (looking P a s id v kept at alone cell within),
  keeps,
  tt,
  look_kept P a s id v kept at alone cell within,
  (look_told P a s id v kept at alone cell within, none),
)

pub sets_word : (P : NamedProgram) (a : About) (slots id cell : ℕ) (v : Sight) (c : List (ℕ × Unit {0})) (to : Ref) → IsAlone v → c ≡ [] → cell < a.words
    → CanSet P a.words cell to (mine_of v).pass.known → (mine_of v).pending ≡ None
    → Allows (Kept P a) slots id (v, c) cell (λ n. either (eqb n 0) (word_of to) n)
    (λ n me. ((t : Ref) → HasWord t → word_of t ≡ word_of to → BindTold P cell t v n me.0) × (me.1 ≡ []))
sets_word P a slots id cell v c to alone none within can rest s kept homes at small =
    let n = get_or s.words cell 0 in
    let is = cell_found P a s id v kept at alone cell within in
    exchanged n 0 (word_of to)
    (λ x. (w : Sight) × (b : Act (Unit {0})) × Valid s.homes c b × Kept P a (stepped s cell x id c w b)
    × (((t : Ref) → HasWord t → word_of t ≡ word_of to → BindTold P cell t v n w) × (carried_after c b ≡ [])))
    (λ zero_found. let free = word_free (word_at kept.held.row cell) (sym is ∙ zero_found) in (
      stepped_to v (setting P a s id v kept at alone cell within to),
      keeps,
      tt,
      set_kept P a s id v kept at alone cell within to can rest free,
      (
        (λ t has e. (
          (λ found. subst (λ t. SetTold P cell t v (stepped_to v (setting P a s id v kept at alone cell within to))) (sym (same_ref t to has can.named e))
              (set_told P a s id v kept at alone cell within to can rest free)),
          (λ ne. absurd (ne zero_found)),
        )),
        none,
      ),
    ))
    (λ taken. (
      stepped_to v (looking P a s id v kept at alone cell within),
      keeps,
      tt,
      look_kept P a s id v kept at alone cell within,
      ((λ t has e. ((λ zero_found. absurd (taken zero_found)), (λ ne. look_told P a s id v kept at alone cell within))), none),
    ))
