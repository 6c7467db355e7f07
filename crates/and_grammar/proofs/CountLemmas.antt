-- Tasks and what they make of the states of a body.
use Rattle.std.proofs.Common.{ℕ, suc, ◌≡◌, Bool, true, false, cond, List, [], ◌∷◌, refl, sym, ap, ◌∙◌, arith, subst}
use Rattle.and_syntax.specs.Written.{Written}
use Rattle.and_translation.specs.Bodies.{Body, Alternatives, nothing, terminals, either, or, behind_first, alternatives}
use Rattle.and_translation.specs.Translation.{walk}
use Rattle.and_drafts.specs.declared.draft.ClauseDraft.{ClauseDraft}
use Rattle.and_grammar.specs.declared.bodies.BodyPart.TheVariants.{Both, Either}
use Rattle.and_grammar.specs.declared.counting.Counted.{Counted}
use Rattle.and_grammar.specs.declared.threading.Task.{Task}
use Rattle.and_grammar.specs.declared.threading.Task.TheVariants as tasks
use Rattle.and_grammar.specs.Views.{body_at, IsBody}
use Rattle.and_grammar.specs.Acts.{Act, body, others, ends, join, resume, act_of, acts_of, Stand, done, all_done, Splits}
use Rattle.and_grammar.specs.Counts.{counted, all_counted, Counts}
use Rattle.and_grammar.proofs.Standing.{stand}
use Rattle.and_grammar.proofs.ThreadLemmas.{effort_some, first_same, first_both}
use Rattle.and_grammar.proofs.Looking.{nodes_some}

-- acts count as they are done
pub counted_done : (todo : List Act) (s : Stand) → all_counted todo s.state s.next ≡ ((all_done todo s).state, (all_done todo s).next)
counted_done [] s = refl
counted_done (body b ∷ todo) s = counted_done todo (done (body b) s)
counted_done (others b from into ∷ todo) s = counted_done todo (done (others b from into) s)
counted_done (ends into ∷ todo) s = counted_done todo (done (ends into) s)
counted_done (join ∷ todo) s = counted_done todo (done join s)
counted_done (resume k ∷ todo) s = counted_done todo (done (resume k) s)

-- a task is counted at once
pub task_counted : (d : ClauseDraft) (t at : Task) (todo : List Task) (old new : Counted) → t ≡ at
    → (new.state, new.next) ≡ counted (act_of d at) old.state old.next → Counts d (t ∷ todo) todo old new
task_counted d t at todo old new is made =
    subst (λ (x : Task). Counts d (x ∷ todo) todo old new) (sym is) (record {
      same = ap (λ (p : ℕ × ℕ). all_counted (acts_of d todo) p.0 p.1) made;
      within = λ h. h.1;
      less = omega (arith, effort_some d at);
    })

-- others were split
pub others_counted : (d : ClauseDraft) (t : Task) (place from into : ℕ) (todo after : List Task) (old new : Counted) → t ≡ tasks.Others place from into
    → Splits d (tasks.Others place from into ∷ todo) after from → new.state ≡ from → new.next ≡ old.next → Counts d (t ∷ todo) after old new
others_counted d t place from into todo after old new is p at next =
    let s : Stand = stand [] [] old.state old.next in
    let before : List Act = acts_of d (tasks.Others place from into ∷ todo) in
    let same : all_counted (acts_of d after) from old.next ≡ all_counted before old.state old.next =
    counted_done (acts_of d after) (stand [] [] from old.next) ∙ ap (λ (x : Stand). (x.state, x.next)) (p.same s) ∙ sym (counted_done before s) in
    subst (λ (x : Task). Counts d (x ∷ todo) after old new) (sym is) (record {
      same = ap (λ (k : ℕ). all_counted (acts_of d after) k new.next) at ∙ ap (all_counted (acts_of d after) from) next ∙ same;
      within = p.within;
      less = p.less;
    })

-- terminals that stand first are left out
pub first_list : (first : Bool) (b : Body) (ts : List Written) → b ≡ terminals ts → cond first (behind_first b) b ≡ cond first nothing (terminals ts)
first_list true b ts is = ap behind_first is
first_list false b ts is = is

module _ (d : ClauseDraft) (place : ℕ) (first : Bool) (todo after : List Task) (old new : Counted) where
  -- a body that is not taken apart
  pub body_counted : (b : Body) → cond first (behind_first (body_at d place)) (body_at d place) ≡ b → after ≡ todo
      → new.state ≡ (walk b old.state old.next).behind → new.next ≡ (walk b old.state old.next).next
      → Counts d (tasks.Body place first ∷ todo) after old new
  body_counted b is left at next =
      let rest : List Act = acts_of d todo in
      subst (λ (ts : List Task). Counts d (tasks.Body place first ∷ todo) ts old new) (sym left) (record {
        same = ap (λ (k : ℕ). all_counted rest k new.next) at ∙ ap (all_counted rest (walk b old.state old.next).behind) next
            ∙ ap (λ (c : Body). all_counted (body c ∷ rest) old.state old.next) (sym is);
        within = λ h. h.1;
        less = omega (arith, nodes_some d place);
      })

  pub both_counted : (l r : ℕ) → IsBody d place (Both l r) (body_at d place) → after ≡ tasks.Body l first ∷ tasks.Body r false ∷ todo
      → new.state ≡ old.state → new.next ≡ old.next → Counts d (tasks.Body place first ∷ todo) after old new
  both_counted l r is left at next =
      let x : Body = cond first (behind_first (body_at d l)) (body_at d l) in
      let rest : List Act = acts_of d todo in
      let opened : List Act = body x ∷ body (body_at d r) ∷ rest in
      subst (λ (ts : List Task). Counts d (tasks.Body place first ∷ todo) ts old new) (sym left) (record {
        same = ap (λ (k : ℕ). all_counted opened k new.next) at ∙ ap (all_counted opened old.state) next
            ∙ ap (λ (c : Body). all_counted (body c ∷ rest) old.state old.next) (sym (first_both first (body_at d place) (body_at d l) (body_at d r) is.0));
        within = λ h. (omega (arith, h.0, is.1.left), (omega (arith, h.0, is.1.right), h.1));
        less = omega (arith, is.1.smaller);
      })

  pub either_counted : (l r : ℕ) → IsBody d place (Either l r) (body_at d place)
      → after ≡ tasks.Body l false ∷ tasks.EndAlternative old.next ∷ tasks.Others r old.state old.next ∷ tasks.Join ∷ todo
      → new.state ≡ old.state → new.next ≡ suc old.next → Counts d (tasks.Body place first ∷ todo) after old new
  either_counted l r is left at next =
      let a : Body = body_at d l in
      let b : Alternatives = alternatives (body_at d r) in
      let rest : List Act = acts_of d todo in
      let opened : List Act = body a ∷ ends old.next ∷ others b old.state old.next ∷ join ∷ rest in
      subst (λ (ts : List Task). Counts d (tasks.Body place first ∷ todo) ts old new) (sym left) (record {
        same = ap (λ (k : ℕ). all_counted opened k new.next) at ∙ ap (all_counted opened old.state) next
            ∙ ap (λ (c : Body). all_counted (body c ∷ rest) old.state old.next) (sym (first_same first (body_at d place) (either (or a b)) is.0 refl));
        within = λ h. (omega (arith, h.0, is.1.left), (tt, (omega (arith, h.0, is.1.right), (tt, h.1))));
        less = omega (arith, is.1.smaller);
      })
