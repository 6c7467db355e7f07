-- What a clause asks is what makes it well-moded.
use Rattle.std.proofs.Common.{ℕ, suc, List, [], ◌∷◌, ◌++◌, arith}
use Rattle.and_model.specs.Terms.{Term, Terms, none, more}
use Rattle.and_model.specs.Programs.{Clause, Item, call, equal, arithmetic, fail}
use Rattle.and_modes.specs.Modes.{Assignment, Environment, HaveLevels, CallsHaveLevels, IsWellModed, levels_of, name_of, arguments_of, count_of, at_entry}
use Rattle.and_modes.specs.Modes.{after_item, after_items}
use Rattle.and_modes.specs.Asked.{asked_by, asked_of, asked_along, asked_in, AllMet, IsAtOrAbove}
use Rattle.and_modes.specs.declared.demands.Demand.{Demand}
use Rattle.and_modes.specs.declared.level.Side.{Side}
use Rattle.and_modes.specs.declared.level.Side.TheVariants.{Called, Succeeded}
use Rattle.and_modes.proofs.Rising.{IsOver, level_over, after_item_over, after_items_over, entry_over}

pub met-append : (m : Assignment) (ds es : List Demand) → AllMet m ds → AllMet m es → AllMet m (ds ++ es)
met-append m [] es a b = b
met-append m (d ∷ ds) es a b = (a.0, met-append m ds es a.1 b)

pub met_front : (m : Assignment) (ds es : List Demand) → AllMet m (ds ++ es) → AllMet m ds
met_front m [] es a = tt
met_front m (d ∷ ds) es a = (a.0, met_front m ds es a.1)

pub met_back : (m : Assignment) (ds es : List Demand) → AllMet m (ds ++ es) → AllMet m es
met_back m [] es a = a
met_back m (d ∷ ds) es a = met_back m ds es a.1

-- What a lower environment has, a higher one has.
pub have_met : (o : Assignment) (e f : Environment) (goal : Term) (side : Side) (i : ℕ) (ts : Terms)
    → IsOver e f → HaveLevels f (levels_of o goal side) i ts → AllMet o (asked_by e (name_of goal) (count_of (arguments_of goal)) side i ts)
have_met o e f goal side i none over have = tt
have_met o e f goal side i (more t ts) over have =
    let high = level_over e f t over in
    let low = have.0 in
    (omega arith, have_met o e f goal side (suc i) ts over have.1)

calls_met : (m o : Assignment) (e f : Environment) (items : List Item) → IsAtOrAbove m o → IsOver e f → CallsHaveLevels o f items
    → AllMet o (asked_along m e items)
calls_met m o e f [] above over have = tt
calls_met m o e f (call g ∷ items) above over have =
    met-append o (asked_of e Called g) (asked_along m (after_item m e (call g)) items)
    (have_met o e f g Called 0 (arguments_of g) over have.0)
    (calls_met m o (after_item m e (call g)) (after_item o f (call g)) items above (after_item_over m o e f (call g) above over) have.1)
calls_met m o e f (equal a b ∷ items) above over have =
    calls_met m o (after_item m e (equal a b)) (after_item o f (equal a b)) items above (after_item_over m o e f (equal a b) above over) have
calls_met m o e f (arithmetic a ∷ items) above over have =
    calls_met m o (after_item m e (arithmetic a)) (after_item o f (arithmetic a)) items above (after_item_over m o e f (arithmetic a) above over) have
calls_met m o e f (fail ∷ items) above over have =
    calls_met m o (after_item m e fail) (after_item o f fail) items above (after_item_over m o e f fail above over) have

-- An assignment under which the clause is well-moded meets what the clause asks of one at or above it.
pub well_moded_meets : (m o : Assignment) (k : Clause) → IsAtOrAbove m o → IsWellModed o k → AllMet o (asked_in m k)
well_moded_meets m o k above well =
    met-append o (asked_along m (at_entry m k) k.body) (asked_of (after_items m (at_entry m k) k.body) Succeeded k.head)
    (calls_met m o (at_entry m k) (at_entry o k) k.body above (entry_over m o k above) well.0)
    (have_met o (after_items m (at_entry m k) k.body) (after_items o (at_entry o k) k.body) k.head Succeeded 0 (arguments_of k.head)
    (after_items_over m o (at_entry m k) (at_entry o k) k.body above (entry_over m o k above)) well.1)

met_have : (m : Assignment) (e : Environment) (goal : Term) (side : Side) (i : ℕ) (ts : Terms)
    → AllMet m (asked_by e (name_of goal) (count_of (arguments_of goal)) side i ts) → HaveLevels e (levels_of m goal side) i ts
met_have m e goal side i none met = tt
met_have m e goal side i (more t ts) met = (met.0, met_have m e goal side (suc i) ts met.1)

met_calls : (m : Assignment) (e : Environment) (items : List Item) → AllMet m (asked_along m e items) → CallsHaveLevels m e items
met_calls m e [] met = tt
met_calls m e (call g ∷ items) met =
    let rest : List Demand = asked_along m (after_item m e (call g)) items in (
      met_have m e g Called 0 (arguments_of g) (met_front m (asked_of e Called g) rest met),
      met_calls m (after_item m e (call g)) items (met_back m (asked_of e Called g) rest met),
    )
met_calls m e (equal a b ∷ items) met = met_calls m (after_item m e (equal a b)) items met
met_calls m e (arithmetic a ∷ items) met = met_calls m (after_item m e (arithmetic a)) items met
met_calls m e (fail ∷ items) met = met_calls m (after_item m e fail) items met

-- A clause whose demands are met is well-moded.
pub met_is_well_moded : (m : Assignment) (k : Clause) → AllMet m (asked_in m k) → IsWellModed m k
met_is_well_moded m k met =
    let calls : List Demand = asked_along m (at_entry m k) k.body in
    let head : List Demand = asked_of (after_items m (at_entry m k) k.body) Succeeded k.head in (
      met_calls m (at_entry m k) k.body (met_front m calls head met),
      met_have m (after_items m (at_entry m k) k.body) k.head Succeeded 0 (arguments_of k.head) (met_back m calls head met),
    )
