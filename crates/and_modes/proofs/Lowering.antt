-- What is noted of a place.
use Rattle.std.proofs.Common.{ℕ, ◌≡◌, refl, ap, ◌∙◌, Bool, true, false, ◌&&◌, cond, Option, Some}
use Rattle.std.specs.HashMap.{get}
use Rattle.and_modes.specs.Kept.{same_place, noted, assignment_of}
use Rattle.and_modes.specs.Asked.{same_side, is_asked}
use Rattle.and_modes.specs.declared.assignment.Modes.{Modes}
use Rattle.and_modes.specs.declared.assignment.Place.{Place}
use Rattle.and_modes.specs.declared.demands.Demand.{Demand}
use Rattle.and_modes.specs.declared.level.Level.{Level}
use Rattle.and_modes.specs.declared.level.Side.{Side}
use Rattle.and_modes.specs.declared.level.Side.TheVariants.{Called, Succeeded}

fell_at : (b s : Bool) (o : Option Level) (l : Level) → s ≡ true → noted (cond b (Some l) o) ≡ cond (b && s) l (noted o)
fell_at true true o l e = refl
fell_at true false o l e = absurd (cc)
fell_at false s o l e = refl

stays_at : (b s : Bool) (l x : Level) → s ≡ false → x ≡ cond (b && s) l x
stays_at true true l x e = absurd (cc)
stays_at true false l x e = refl
stays_at false s l x e = refl

abbrev place_at : (name count place : ℕ) → Place
place_at name count place = record { name = record { 0 = name }; arity = count; number = place }

pub lowers_called : (old new : Modes) (d : Demand) → d.side ≡ Called → new.succeeded ≡ old.succeeded
    → ((q : Place) → get same_place new.called q ≡ cond (same_place d.place q) (Some d.level) (get same_place old.called q))
    → (name count place : ℕ) (side : Side) → assignment_of new name count place side
    ≡ cond (is_asked d name count place side) d.level (assignment_of old name count place side)
lowers_called old new d is same updates name count place Called =
    let q : Place = place_at name count place in
    ap noted (updates q) ∙ fell_at (same_place d.place q) (same_side d.side Called) (get same_place old.called q) d.level
    (ap (λ (s : Side). same_side s Called) is)
lowers_called old new d is same updates name count place Succeeded =
    let q : Place = place_at name count place in
    ap (λ h. noted (get same_place h q)) same
    ∙ stays_at (same_place d.place q) (same_side d.side Succeeded) d.level (noted (get same_place old.succeeded q))
    (ap (λ (s : Side). same_side s Succeeded) is)

pub lowers_succeeded : (old new : Modes) (d : Demand) → d.side ≡ Succeeded → new.called ≡ old.called
    → ((q : Place) → get same_place new.succeeded q ≡ cond (same_place d.place q) (Some d.level) (get same_place old.succeeded q))
    → (name count place : ℕ) (side : Side) → assignment_of new name count place side
    ≡ cond (is_asked d name count place side) d.level (assignment_of old name count place side)
lowers_succeeded old new d is same updates name count place Succeeded =
    let q : Place = place_at name count place in
    ap noted (updates q) ∙ fell_at (same_place d.place q) (same_side d.side Succeeded) (get same_place old.succeeded q) d.level
    (ap (λ (s : Side). same_side s Succeeded) is)
lowers_succeeded old new d is same updates name count place Called =
    let q : Place = place_at name count place in
    ap (λ h. noted (get same_place h q)) same
    ∙ stays_at (same_place d.place q) (same_side d.side Called) d.level (noted (get same_place old.called q)) (ap (λ (s : Side). same_side s Called) is)
