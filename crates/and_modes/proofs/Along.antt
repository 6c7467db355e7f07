-- Looking along a body, where places fall on the way.
use Rattle.std.proofs.Common.{ℕ, ◌+◌, ◌≡◌, ◌<◌, ◌≤◌, List, ◌∷◌, length, get_or, drop, refl, sym, ap, arith, subst}
use Rattle.std.proofs.Common.{Bool, true, false}
use Rattle.std.proofs.lemmas.List.{drop_more, take_all}
use Rattle.and_model.specs.Programs.{Program, Clause, Item, call, equal, arithmetic, fail, clause_at}
use Rattle.and_modes.specs.Modes.{Assignment, Environment, CallsHaveLevels, WellModed, arguments_of}
use Rattle.and_modes.specs.Modes.{at_entry, after_item, after_items, before_item}
use Rattle.and_modes.specs.Asked.{asked_of, asked_by_item, AllMet, IsAtOrAbove}
use Rattle.and_modes.specs.Looked.{StaysAbove, FellOr}
use Rattle.and_modes.specs.Totals.{height}
use Rattle.and_modes.specs.declared.demands.Demand.{Demand}
use Rattle.and_modes.specs.declared.level.Side.TheVariants.{Called, Succeeded}
use Rattle.and_modes.proofs.Rising.{IsOver, after_item_over, entry_over}
use Rattle.and_modes.proofs.Asking.{have_met}
use Rattle.and_modes.proofs.Firsts.{before_next}
use Rattle.and_modes.proofs.Looking.{fell_further, stays}

-- What an item asks is met by an assignment under which the calls have their levels.
item_met : (o : Assignment) (e f : Environment) (item : Item) (items : List Item) → IsOver e f → CallsHaveLevels o f (item ∷ items)
    → AllMet o (asked_by_item e item)
item_met o e f (call g) items over have = have_met o e f g Called 0 (arguments_of g) over have.0
item_met o e f (equal a b) items over have = tt
item_met o e f (arithmetic a) items over have = tt
item_met o e f fail items over have = tt

-- the calls from an item on have their levels
calls_next : (o : Assignment) (f : Environment) (item : Item) (items : List Item) → CallsHaveLevels o f (item ∷ items)
    → CallsHaveLevels o (after_item o f item) items
calls_next o f (call g) items have = have.1
calls_next o f (equal a b) items have = have
calls_next o f (arithmetic a) items have = have
calls_next o f fail items have = have

-- After i items of the clause's body: what was at or above a well-moded assignment is so still, and so is what is known of the variables.
pub record Along (P : Program) (c : ℕ) (old now : Assignment) (known : Environment) (fell : Bool) (i : ℕ) : Type 0 where
  pub above : (other : Assignment) → WellModed P other → IsAtOrAbove old other → IsAtOrAbove now other
  pub over : (other : Assignment) → WellModed P other → IsAtOrAbove old other → IsOver known (before_item P other c i)
  pub calls : (other : Assignment) → WellModed P other → CallsHaveLevels other (before_item P other c i) (drop i (clause_at P c).body)
  pub fell_or : FellOr fell old now (Unit {0})

pub along_none : (P : Program) (c : ℕ) (m : Assignment) (known : Environment) → c ≤ length P.clauses → known ≡ at_entry m (clause_at P c)
    → Along P c m m known false 0
along_none P c m known there is = record {
  above = λ other well above. above;
  over = λ other well above. let P1 : Environment → Type 0 = λ e. IsOver e (at_entry other (clause_at P c)) in
      subst P1 (sym is) (entry_over m other (clause_at P c) above);
  calls = λ other well. (well c there).0;
  fell_or = (refl, tt);
}

-- What one item does: an assignment that has what it asks stays at or below.
abbrev pub AtItem : Program → Environment → Item → (old new : Assignment) → Type 0
AtItem P known item old new =
    (other : Assignment) → WellModed P other → AllMet other (asked_by_item known item) → IsAtOrAbove old other → IsAtOrAbove new other

further : (fell : Bool) (lowered : Bool) (old now new : Assignment) → FellOr fell old now (Unit {0}) → FellOr lowered now new (Unit {0})
    → (both : Bool) → (lowered ≡ true → both ≡ true) → (lowered ≡ false → both ≡ fell) → FellOr both old new (Unit {0})
further fell true old now new f g both if_true if_false =
    let P : Bool → Type 0 = λ b. FellOr b old new (Unit {0}) in
    subst P (sym (if_true refl)) (fell_further fell old now new (Unit {0}) (Unit {0}) f g)
further fell false old now new f g both if_true if_false =
    let P : Bool → Type 0 = λ b. FellOr b old new (Unit {0}) in
    subst P (sym (if_false refl)) (stays fell old now new (Unit {0}) (Unit {0}) f g.0 (λ u. u))

pub along_next : (P : Program) (c i : ℕ) (old now new : Assignment) (known more : Environment) (fell lowered both : Bool)
    → i < length (clause_at P c).body → Along P c old now known fell i
    → AtItem P known (get_or (clause_at P c).body i fail) now new → FellOr lowered now new (Unit {0})
    → (lowered ≡ true → both ≡ true) → (lowered ≡ false → both ≡ fell)
    → more ≡ after_item new known (get_or (clause_at P c).body i fail) → Along P c old new more both (i + 1)
along_next P c i old now new known more fell lowered both lt a here fell_here if_true if_false is =
    let body : List Item = (clause_at P c).body in
    let item : Item = get_or body i fail in
    let from : (other : Assignment) → WellModed P other → CallsHaveLevels other (before_item P other c i) (item ∷ drop (i + 1) body) =
    λ other well. subst (λ (items : List Item). CallsHaveLevels other (before_item P other c i) items) (drop_more body i fail lt)
    (a.calls other well) in
    let above : (other : Assignment) → WellModed P other → IsAtOrAbove old other → IsAtOrAbove new other =
    λ other well high. here other well
    (item_met other known (before_item P other c i) item (drop (i + 1) body) (a.over other well high) (from other well))
    (a.above other well high) in
    record {
      above = above;
      over = λ other well high.
          let next : IsOver (after_item new known item) (after_item other (before_item P other c i) item) =
          after_item_over new other known (before_item P other c i) item (above other well high) (a.over other well high) in
          subst (λ (f : Environment). IsOver more f) (sym (before_next P other c i lt))
          (subst (λ (e : Environment). IsOver e (after_item other (before_item P other c i) item)) (sym is) next);
      calls = λ other well.
          subst (λ (f : Environment). CallsHaveLevels other f (drop (i + 1) body)) (sym (before_next P other c i lt))
          (calls_next other (before_item P other c i) item (drop (i + 1) body) (from other well));
      fell_or = further fell lowered old now new a.fell_or fell_here both if_true if_false;
    }

-- At the end the places of the head fall.
pub along_all : (P : Program) (c i : ℕ) (old now new : Assignment) (known : Environment) (ds : List Demand) (fell lowered both : Bool)
    → c ≤ length P.clauses → length (clause_at P c).body ≤ i → Along P c old now known fell i
    → ds ≡ asked_of known Succeeded (clause_at P c).head
    → ((other : Assignment) → AllMet other ds → IsAtOrAbove now other → IsAtOrAbove new other) → FellOr lowered now new (Unit {0})
    → (lowered ≡ true → both ≡ true) → (lowered ≡ false → both ≡ fell)
    → StaysAbove P old new × FellOr both old new (Unit {0})
along_all P c i old now new known ds fell lowered both there past a is here fell_here if_true if_false =
    let k : Clause = clause_at P c in (
      λ other well high.
          let last : before_item P other c i ≡ after_items other (at_entry other k) k.body =
          ap (λ (items : List Item). after_items other (at_entry other k) items) (take_all i k.body past) in
          let over : IsOver known (after_items other (at_entry other k) k.body) =
          subst (λ (f : Environment). IsOver known f) last (a.over other well high) in
          here other (subst (λ (es : List Demand). AllMet other es) (sym is)
          (have_met other known (after_items other (at_entry other k) k.body) k.head Succeeded 0 (arguments_of k.head) over
          (well c there).1))
          (a.above other well high),
      further fell lowered old now new a.fell_or fell_here both if_true if_false,
    )

-- what is said of the assignment where something fell is no more than that
pub fell_alone : (fell : Bool) (old new : Assignment) (A : Type 0) → FellOr fell old new A → FellOr fell old new (Unit {0})
fell_alone fell old new A f = stays fell old new new A (Unit {0}) f refl (λ x. tt)

-- where a place fell, settling makes the assignment lower still
pub fell_and_settled : (old now new : Assignment) (A : Type 0) → FellOr true old now A → height new ≤ height now
    → FellOr true old new (Unit {0})
fell_and_settled old now new A f le = let low : height new < height old = omega arith in low
