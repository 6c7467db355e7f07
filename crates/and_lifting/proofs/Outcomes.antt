-- Unfoldings and trees that say the same have the same outcomes.
use Rattle.std.proofs.Common.{ℕ, ◌≡◌, List, [], ◌∷◌, map, refl, ap, sym, ◌∙◌, subst, inl, inr}
use Rattle.and_model.specs.Terms.{Term, variable, Substitution, apply}
use Rattle.and_model.specs.Programs.{Program, Arithmetic, is, compare}
use Rattle.and_model.specs.Trees.{QueryTree, IsWhole, HasOutcome, equations, arithmetics}
use Rattle.and_model.specs.Lines.{Bytes, goal_term, line_of, line}
use Rattle.and_model.specs.Listing.{Outcome, outcome_of, Ends}
use Rattle.and_laws.proofs.Substitutions.{then, apply_then}
use Rattle.and_laws.proofs.Deciding.{closes_total}
use Rattle.and_laws.proofs.Unifying.{unify}
use Rattle.and_laws.proofs.Listings.{closed_alike, one_outcome, ends_outcome}
use Rattle.and_source.specs.Source.{SourceProgram}
use Rattle.and_source.specs.Unfolding.{Unfolding}
use Rattle.and_source.specs.SourceListing.{written_program, SourceEnds, HasSourceOutcome}
use Rattle.and_source.specs.Lifted.{lift}
use Rattle.and_lifting.proofs.Fronts.{read_whole}
use Rattle.and_lifting.proofs.Renaming.{applied}
use Rattle.and_lifting.proofs.Closures.{Extends, GoalsStand, ClosesDown, closes_down, general_down}
use Rattle.and_lifting.proofs.Stages.{Stage, whole_down, whole_up}

applied_term : (up : Substitution) (a : Arithmetic) → goal_term (applied up a) ≡ apply up (goal_term a)
applied_term up (is l r) = refl
applied_term up (compare m a b) = refl

goals_written : (up s : Substitution) (hs : List Arithmetic)
    → map (λ g. apply s (goal_term g)) (map (applied up) hs) ≡ map (λ g. apply (then up s) (goal_term g)) hs
goals_written up s [] = refl
goals_written up s (h ∷ hs) =
    ap (λ (x : Term). x ∷ map (λ g. apply s (goal_term g)) (map (applied up) hs)) (ap (apply s) (applied_term up h) ∙ apply_then up s (goal_term h))
    ∙ ap (λ (xs : List Term). apply (then up s) (goal_term h) ∷ xs) (goals_written up s hs)

-- A line speaks of the query's variables and of the goals alone.
line_same : (P : Program) (s r : Substitution) (goals : List Term) → ((k : ℕ) → s [] k ≡ r [] k) → line_of P s goals ≡ line_of P r goals
line_same P s r goals e =
    let values : (λ (k : ℕ). s [] k) ≡ (λ (k : ℕ). r [] k) = λ i k. e k i in
    ap (λ (f : ℕ → Term). line_of P (λ q k. f k) goals) values

outcome_written : (up : Substitution) (hs : List Arithmetic) (text : Bytes) → outcome_of (map (applied up) hs) text ≡ outcome_of hs text
outcome_written up [] text = refl
outcome_written up (h ∷ hs) text = refl

same_line : (P : SourceProgram) (up s : Substitution) (hs : List Arithmetic) → ((k : ℕ) → up [] k ≡ variable [] k)
    → line (written_program P) s (map (applied up) hs) ≡ line (lift P) (then up s) hs
same_line P up s hs own =
    line_same (lift P) s (then up s) (map (λ g. apply s (goal_term g)) (map (applied up) hs)) (λ k. sym (ap (apply s) (own k)))
    ∙ ap (line_of (lift P) (then up s)) (goals_written up s hs)

-- the equations and the goals of a whole tree
extends_whole : (P : SourceProgram) (u : Unfolding) (t : QueryTree (lift P)) (s : Stage P u t) → IsWhole t → Extends s.up u.equations (equations t)
extends_whole P u t s w = subst (λ l. Extends s.up u.equations l) (read_whole t w).0 s.base.extends

goals_whole : (P : SourceProgram) (u : Unfolding) (t : QueryTree (lift P)) (s : Stage P u t) → IsWhole t → GoalsStand s.up u.arithmetics (arithmetics t)
goals_whole P u t s w = subst (λ l. GoalsStand s.up u.arithmetics l) (read_whole t w).1 s.base.goals

-- What the unfolding ends with the tree ends with,
pub ends_down : (P : SourceProgram) (u : Unfolding) (t : QueryTree (lift P)) → Stage P u t → (o : Outcome) → SourceEnds P u o → Ends t o
ends_down P u t stage o x =
    let (whole, es, gs, closes, s, m, e) = x in
    let w : IsWhole t = whole_down P u t stage whole in
    let up : Substitution = stage.up in
    let r : ClosesDown up es gs (equations t) (arithmetics t) = closes_down up u.equations u.arithmetics es gs closes (equations t) (arithmetics t)
    (extends_whole P u t stage w) (goals_whole P u t stage w) in
    let written : outcome_of gs (line (written_program P) s gs) ≡ outcome_of r.waits (line (lift P) (then up s) r.waits) =
    ap (λ l. outcome_of l (line (written_program P) s l)) r.waits_stand ∙ outcome_written up r.waits (line (written_program P) s (map (applied up) r.waits))
    ∙ ap (outcome_of r.waits) (same_line P up s r.waits stage.base.own) in
    (w, r.closed, r.waits, r.closes, then up s, general_down up es r.closed s r.extends m, e ∙ written)

-- and has an outcome where the tree has one.
pub outcome_up : (P : SourceProgram) (u : Unfolding) (t : QueryTree (lift P)) → Stage P u t → HasOutcome t → HasSourceOutcome u
outcome_up P u t stage out =
    let (ds, hs, w, closed, so) = out in
    let up : Substitution = stage.up in
    let (es, gs, closes) = closes_total u.equations u.arithmetics in
    let r : ClosesDown up es gs (equations t) (arithmetics t) = closes_down up u.equations u.arithmetics es gs closes (equations t) (arithmetics t)
    (extends_whole P u t stage w) (goals_whole P u t stage w) in
    let alike = closed_alike t ds r.closed hs r.waits closed r.closes in
    (es, gs, whole_up P u t stage w, closes, (so.0, r.extends.entails so.0 (alike.0 so.0 so.1)))

source_outcome_ends : (P : SourceProgram) (u : Unfolding) → HasSourceOutcome u → (o : Outcome) × SourceEnds P u o
source_outcome_ends P u out =
    let (es, gs, whole, x, so) = out in
    elim (unify es) [ inl m ↦ (outcome_of gs (line (written_program P) m.0 gs), (whole, es, gs, x, m.0, m.1, refl)) | inr n ↦ absurd (n so) ]

pub outcome_down : (P : SourceProgram) (u : Unfolding) (t : QueryTree (lift P)) → Stage P u t → HasSourceOutcome u → HasOutcome t
outcome_down P u t stage out = let r = source_outcome_ends P u out in ends_outcome t r.0 (ends_down P u t stage r.0 r.1)

-- So what the tree ends with the unfolding ends with.
pub ends_up : (P : SourceProgram) (u : Unfolding) (t : QueryTree (lift P)) → Stage P u t → (o : Outcome) → Ends t o → SourceEnds P u o
ends_up P u t stage o x =
    let r = source_outcome_ends P u (outcome_up P u t stage (ends_outcome t o x)) in
    subst (λ z. SourceEnds P u z) (one_outcome t r.0 o (ends_down P u t stage r.0 r.1) x) r.1
