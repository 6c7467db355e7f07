-- What looking at a clause, and then at others, does to an assignment.
use Rattle.std.proofs.Common.{ℕ, zero, suc, ◌+◌, ◌^◌, ◌≡◌, ◌<◌, ◌≤◌, List, [], ◌∷◌, length, get_or, take, refl, sym, ap, ◌∙◌, arith, subst, Bool, true, false}
use Rattle.std.proofs.Common.{⊎_elim}
use Rattle.std.proofs.lemmas.Bool.{cases_Bool, cases_eq, cond-true, cond-false}
use Rattle.std.proofs.lemmas.List.{take_more, take_all}
use Rattle.and_model.specs.Programs.{Program, clause_at}
use Rattle.and_modes.specs.Modes.{IsAtLeast, Assignment, IsWellModed, WellModed, Greatest}
use Rattle.and_modes.specs.Totals.{height}
use Rattle.and_modes.specs.Asked.{level_asked, is_asked, Lowers, AllMet, IsAtOrAbove, asked_in}
use Rattle.and_modes.specs.Looked.{StaysAbove, FellOr}
use Rattle.and_modes.specs.declared.demands.Demand.{Demand}
use Rattle.and_modes.specs.declared.level.Level.TheVariants.{Integer}
use Rattle.and_modes.proofs.Rising.{at_most_integer}
use Rattle.and_modes.proofs.Asking.{met-append, well_moded_meets, met_is_well_moded}
use Rattle.and_modes.proofs.Heights.{asked_there, lowers_height}

-- after the first i of the demands
pub record Lowered (ds : List Demand) (old new : Assignment) (fell : Bool) (i : ℕ) : Type 0 where
  pub above : (other : Assignment) → AllMet other ds → IsAtOrAbove old other → IsAtOrAbove new other
  pub fell_or : FellOr fell old new (AllMet new (take i ds))

pub lowered_none : (ds : List Demand) (m : Assignment) → Lowered ds m m false 0
lowered_none ds m = record { above = λ other met above. above; fell_or = (refl, tt) }

met_at : (m : Assignment) (ds : List Demand) (i : ℕ) (d : Demand) → AllMet m ds → i < length ds
    → IsAtLeast (get_or ds i d).level (level_asked m (get_or ds i d))
met_at m [] i d met lt = absurd (omega arith)
met_at m (e ∷ ds) zero d met lt = met.0
met_at m (e ∷ ds) (suc i) d met lt = met_at m ds i d met.1 (omega arith)

pub height_at_most : (fell : Bool) (old new : Assignment) (A : Type 0) → FellOr fell old new A → height new ≤ height old
height_at_most true old new A f = omega arith
height_at_most false old new A f = let e : height new ≡ height old = ap height f.0 in omega arith

pub fell_further : (fell : Bool) (old now new : Assignment) (A B : Type 0) → FellOr fell old now A → height new < height now → FellOr true old new B
fell_further fell old now new A B f lt = let most = height_at_most fell old now A f in let low : height new < height old = omega arith in low

pub stays : (fell : Bool) (old now new : Assignment) (A B : Type 0) → FellOr fell old now A → new ≡ now → (A → B) → FellOr fell old new B
stays true old now new A B f e h = let same : height new ≡ height now = ap height e in let low : height new < height old = omega arith in low
stays false old now new A B f e h = (e ∙ f.0, h f.1)

pub lowered_same : (ds : List Demand) (old now new : Assignment) (fell : Bool) (i : ℕ) (d : Demand)
    → Lowered ds old now fell i → i < length ds → d ≡ get_or ds i d → new ≡ now → IsAtLeast d.level (level_asked now d) → Lowered ds old new fell (i + 1)
lowered_same ds old now new fell i d l lt is same met = record {
  above = λ other all above. rw same (l.above other all above);
  fell_or = stays fell old now new (AllMet now (take i ds)) (AllMet new (take (i + 1) ds)) l.fell_or same
      (λ front. rw (same, take_more ds i d lt) (met-append now (take i ds) (get_or ds i d ∷ []) front (let here = met in (rw (← is) here, tt))));
}

pub lowered_more : (ds : List Demand) (old now new : Assignment) (fell : Bool) (i : ℕ) (d : Demand)
    → Lowered ds old now fell i → i < length ds → d ≡ get_or ds i d → Lowers d now new → d.place.name.0 < 2 ^ 32 → d.place.arity < 256 → d.place.number < 256
    → Lowered ds old new true (i + 1)
lowered_more ds old now new fell i d l lt is low is_name is_count is_place = record {
  above = λ other all above name count place side.
      let before = l.above other all above name count place side in
      let asked : IsAtLeast d.level (level_asked other d) = rw is (met_at other ds i d all lt) in
      let new_is = low.1 name count place side in
      ⊎_elim
      (λ (e : is_asked d name count place side ≡ true).
      let at : new name count place side ≡ d.level = new_is ∙ cond-true (is_asked d name count place side) d.level (now name count place side) e in
      let there = asked_there d name count place side other e in
      rw (at, there) asked)
      (λ (e : is_asked d name count place side ≡ false).
      let at : new name count place side ≡ now name count place side =
      new_is ∙ cond-false (is_asked d name count place side) d.level (now name count place side) e in
      rw at before)
      (cases_Bool (is_asked d name count place side));
  fell_or = fell_further fell old now new (AllMet now (take i ds)) (AllMet new (take (i + 1) ds)) l.fell_or
      (lowers_height d now new low is_name is_count is_place);
}

pub lowered_all : (ds : List Demand) (old new : Assignment) (fell : Bool) (i : ℕ) → Lowered ds old new fell i → length ds ≤ i
    → FellOr fell old new (AllMet new ds)
lowered_all ds old new fell i l le = stays fell old new new (AllMet new (take i ds)) (AllMet new ds) l.fell_or refl (λ met. rw (← take_all i ds le) met)

looked_or : (P : Program) (c : ℕ) (ds : List Demand) (old new : Assignment) (fell : Bool) → ds ≡ asked_in old (clause_at P c)
    → FellOr fell old new (AllMet new ds) → FellOr fell old new (IsWellModed new (clause_at P c))
looked_or P c ds old new true is f = f
looked_or P c ds old new false is f = (
  f.0,
  met_is_well_moded new (clause_at P c)
      (subst (λ (m : Assignment). AllMet new (asked_in m (clause_at P c))) (sym f.0) (subst (λ (es : List Demand). AllMet new es) is f.1)),
)

-- A clause was looked at.
pub looked : (P : Program) (c : ℕ) (ds : List Demand) (old new : Assignment) (fell : Bool) → c ≤ length P.clauses → ds ≡ asked_in old (clause_at P c)
    → ((other : Assignment) → AllMet other ds → IsAtOrAbove old other → IsAtOrAbove new other) × FellOr fell old new (AllMet new ds)
    → StaysAbove P old new × FellOr fell old new (IsWellModed new (clause_at P c))
looked P c ds old new fell le is both = (
  λ other well above. both.0 other (rw is (well_moded_meets old other (clause_at P c) above (well c le))) above,
  looked_or P c ds old new fell is both.1,
)

-- the clauses before number c, and the query
abbrev pub WellModedBelow : Program → Assignment → ℕ → Type 0
WellModedBelow P m c = (k : ℕ) → k < c → IsWellModed m (clause_at P k)

pub looked_none : (P : Program) (m : Assignment) → StaysAbove P m m × FellOr false m m (WellModedBelow P m 0)
looked_none P m = (λ other well above. above, (refl, λ k lt. absurd (omega arith)))

below_next : (P : Program) (m : Assignment) (c : ℕ) → WellModedBelow P m c → IsWellModed m (clause_at P c) → WellModedBelow P m (c + 1)
below_next P m c below here k lt =
    ⊎_elim (λ (e : k ≡ c). rw e here) (λ (ne : k ≡ c → ⊥). below k (omega arith)) (cases_eq k c)

-- one more clause was looked at, and a place fell
pub looked_fell : (P : Program) (c : ℕ) (old now new : Assignment) (fell : Bool)
    → StaysAbove P old now × FellOr fell old now (WellModedBelow P now c)
    → StaysAbove P now new × FellOr true now new (IsWellModed new (clause_at P c))
    → StaysAbove P old new × FellOr true old new (WellModedBelow P new (c + 1))
looked_fell P c old now new fell before here = (
  λ other well above. here.0 other well (before.0 other well above),
  fell_further fell old now new (WellModedBelow P now c) (WellModedBelow P new (c + 1)) before.1 here.1,
)

-- one more clause was looked at, and none fell
pub looked_same : (P : Program) (c : ℕ) (old now new : Assignment) (fell : Bool)
    → StaysAbove P old now × FellOr fell old now (WellModedBelow P now c)
    → StaysAbove P now new × FellOr false now new (IsWellModed new (clause_at P c))
    → StaysAbove P old new × FellOr fell old new (WellModedBelow P new (c + 1))
looked_same P c old now new fell before here = (
  λ other well above. here.0 other well (before.0 other well above),
  stays fell old now new (WellModedBelow P now c) (WellModedBelow P new (c + 1)) before.1 here.1.0
      (λ below. below_next P new c (rw here.1.0 below) here.1.1),
)

pub looked_all : (P : Program) (c : ℕ) (old new : Assignment) (fell : Bool) → length P.clauses + 1 ≤ c
    → StaysAbove P old new × FellOr fell old new (WellModedBelow P new c) → StaysAbove P old new × FellOr fell old new (WellModed P new)
looked_all P c old new fell all both =
    (both.0, stays fell old new new (WellModedBelow P new c) (WellModed P new) both.1 refl (λ below k le. below k (omega arith)))

pub highest_is_above : (m : Assignment) → m ≡ (λ name count place side. Integer) → (other : Assignment) → IsAtOrAbove m other
highest_is_above m e other name count place side = rw e (at_most_integer (other name count place side))

pub is_greatest : (P : Program) (m : Assignment) → ((other : Assignment) → WellModed P other → IsAtOrAbove m other) → WellModed P m → Greatest P m
is_greatest P m above well = (well, λ other is name count place side there. above other is name count place side)

-- one more clause was looked at again
pub again_fell : (P : Program) (old now new : Assignment) (fell : Bool) (A B : Type 0) → StaysAbove P old now × FellOr fell old now B
    → StaysAbove P now new × FellOr true now new A → StaysAbove P old new × FellOr true old new B
again_fell P old now new fell A B before here =
    (λ other well above. here.0 other well (before.0 other well above), fell_further fell old now new B B before.1 here.1)

pub again_same : (P : Program) (old now new : Assignment) (fell : Bool) (A : Type 0) → StaysAbove P old now × FellOr fell old now (Unit {0})
    → StaysAbove P now new × FellOr false now new A → StaysAbove P old new × FellOr fell old new (Unit {0})
again_same P old now new fell A before here =
    (λ other well above. here.0 other well (before.0 other well above), stays fell old now new (Unit {0}) (Unit {0}) before.1 here.1.0 (λ u. u))
