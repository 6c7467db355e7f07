-- A comparison whose sides are known was made.
use Rattle.std.proofs.Common.{◌≡◌, Bool, true, false, cond, ◌&&◌, List, [], ◌∷◌, ◌++◌, append-nil, Some, refl, sym, ap, subst, ◌∙◌, All}
use Rattle.std.specs.Prelude.{Result, Ok, Err, OnOk}
use Rattle.std.specs.Result.{is_err}
use Rattle.std.proofs.lemmas.Bool.{false≢true}
use Rattle.std.proofs.lemmas.List.Elements.{All-nil}
use Rattle.and_model.specs.Arithmetic.{Relation, value, related, both_related, holds}
use Rattle.and_model.specs.Programs.{Arithmetic, compare}
use Rattle.and_model.specs.Solutions.{Solves, falsehood}
use Rattle.and_model.specs.Terms.{Term, Terms, Substitution, none, more, is_ground}
use Rattle.and_model.specs.declared.goal.Goal.{Goal}
use Rattle.and_program.specs.Skeletons
use Rattle.and_program.specs.Skeletons.{node_term}
use Rattle.and_cells.specs.Ranges.{NamedProgram, IsInRange}
use Rattle.and_cells.specs.Seen.{IsWrittenIfNumber}
use Rattle.and_unify.specs.declared.pairs.Pair.{Pair}
use Rattle.and_branch_laws.specs.Kept.{item_at}
use Rattle.and_branch_laws.specs.Variables.{placed}
use Rattle.and_workers.specs.Waiting.{Waiting}
use Rattle.and_store.specs.Passes.{PassSeen}
use Rattle.and_store.specs.Worked.{seen_by}
use Rattle.and_workers.specs.AtWork.{IsAtWork}
use Rattle.and_handed.specs.Handed.{HasAll, SolvesAll, HasTerms, HasActed, Kills}
use Rattle.and_workers.specs.Items.{IsItemOver}
use Rattle.and_workers.specs.Running.{MayRun, NotesRun, IsDecided}
use Rattle.and_handed.specs.declared.told.Cause.TheVariants.{NoSolution}
use Rattle.and_handed.specs.declared.told.Ran.{Ran}
use Rattle.and_handed.specs.declared.told.HandedOn.{HandedOn}
use Rattle.and_workers.proofs.Runs.{solves_run, noting_is, is_there, by_now, was_run, acted_noted, work_noted}

-- what holds where a result is no error holds of one that is none
pub of_no_error : {A E : Type 0} (r : Result A E) (X : Type 0) → OnOk r X → is_err r ≡ false → X
of_no_error (Ok a) X h e = h
of_no_error (Err x) X h e = absurd (false≢true (sym e))

both_true : (a b : Bool) → a ≡ true → b ≡ true → (a && (b && true)) ≡ true
both_true a b e f = ap (λ x. x && (b && true)) e ∙ ap (λ y. y && true) f

-- the comparison of two terms with values is that of the values
holds_as_values : (r : Relation) (x y : Term) (a b : _) → value x ≡ Some a → value y ≡ Some b → holds r x y ≡ related r a b
unfolding holds
holds_as_values r x y a b e f = ap (λ v. both_related r v (value y)) e ∙ ap (λ v. both_related r (Some a) v) f

-- no substitution makes two numbers one
unsolved : (t : Substitution) → Solves t (falsehood ∷ []) → ⊥
unsolved t s = let e = s.0 in absurd (cc)

module _ (P : NamedProgram) (words : _) (p : PassSeen) (goal : Goal) (relation : Relation) (left right : _) (is_so : Bool)
    (item : IsItemOver P words goal (Skeletons.compare relation left right))
    (decided : IsDecided P p.store.about.first p.pass.seen goal.base relation left right is_so) where
  abbrev what : Arithmetic
  what = compare relation (node_term P.skeleton.nodes left) (node_term P.skeleton.nodes right)

  abbrev one_term : Term
  one_term = decided.one_is.0

  abbrev other_term : Term
  other_term = decided.other_is.0

  abbrev terms : Terms
  terms = more one_term (more other_term none)

  has_terms : (one : Ran) → one.goal ≡ goal → one.judged.value ≡ p → HasTerms P p.store.about.first one what terms
  has_terms one goal_is judged = record {
    is_arithmetic = ap (λ (g : Goal). item_at P.program g) goal_is ∙ sym item.is_item;
    ground = both_true (is_ground one_term) (is_ground other_term) decided.one_is.1.ground decided.other_is.1.ground;
    terms = λ w has u solves.
        let has_now : HasAll w p.store.about.first p.pass.seen = subst (λ (q : PassSeen). HasAll w p.store.about.first q.pass.seen) judged has in
        let solves_now : SolvesAll P w p.store.about.first p.pass.seen u = subst (λ
        (q : PassSeen). SolvesAll P w p.store.about.first q.pass.seen u) judged solves in
        let one_is = ap (λ (g : Goal). Rattle.and_model.specs.Terms.apply u (placed g.base (node_term P.skeleton.nodes left))) goal_is
        ∙ decided.one_is.1.term w has_now u solves_now in
        let other_is = ap (λ (g : Goal). Rattle.and_model.specs.Terms.apply u (placed g.base (node_term P.skeleton.nodes right))) goal_is
        ∙ decided.other_is.1.term w has_now u solves_now in
        ap (λ (x : Term). more x (more (Rattle.and_model.specs.Terms.apply u (placed one.goal.base (node_term P.skeleton.nodes right))) none)) one_is
        ∙ ap (λ (y : Term). more one_term (more y none)) other_is;
  }

  verdict : holds relation one_term other_term ≡ is_so
  verdict = holds_as_values relation one_term other_term decided.one decided.other decided.one_is.2 decided.other_is.2 ∙ sym decided.decides

  module _ (told new : HandedOn) (n : NotesRun goal p told new) (may : MayRun (Rattle.std.proofs.Common.length p.store.about.first) told.made.items goal) where
    known : HasTerms P p.store.about.first n.one what terms
    known = has_terms n.one n.goal_is n.judged_is

    -- It was made, and holds: the worker goes on.
    pub work_compared : (waiting : List Waiting) → is_so ≡ true → IsAtWork P told [] waiting p → IsAtWork P new [] waiting p
    work_compared waiting so work =
        let run = was_run P told new n.one n.ran p goal n.goal_is n.judged_is may work.done.acted (what, terms, known) in
        subst (λ (t : HandedOn). IsAtWork P t [] waiting p) (noting_is goal p told new n)
        (work_noted P told new n.one n.ran p n.judged_is [] (λ w fits t solves run. tt)
        (λ w fits t solves solved. solves_run P p.store.about.first n.one what terms w t
        (subst (λ (q : PassSeen). HasAll w p.store.about.first q.pass.seen) (sym n.judged_is) fits.has)
        (subst (λ (q : PassSeen). SolvesAll P w p.store.about.first q.pass.seen t) (sym n.judged_is) solves) known
        (subst (λ (b : Bool). Solves t (cond b [] (falsehood ∷ []))) (sym (verdict ∙ so)) tt))
        waiting work run (All-nil (λ (e : Pair). IsInRange P p.store.about.words e.left × IsInRange P p.store.about.words e.right))
        (All-nil (λ (e : Pair). IsWrittenIfNumber (seen_by p) e.left × IsWrittenIfNumber (seen_by p) e.right)))

    -- Where it does not hold, what was asked has no solution.
    pub acted_compared : (waiting : List Waiting) → IsAtWork P told [] waiting p → HasActed P new p
    acted_compared waiting work =
        subst (λ (t : HandedOn). HasActed P t p) (noting_is goal p told new n)
        (acted_noted P told new n.one n.ran p work.done.acted (was_run P told new n.one n.ran p goal n.goal_is n.judged_is may work.done.acted
        (what, terms, known)))

    pub kills_compared : is_so ≡ false → Kills P new p NoSolution
    kills_compared so = subst (λ (t : HandedOn). Kills P t p NoSolution) (noting_is goal p told new n)
        (λ w fits t solves asked.
        let run = asked.ran n.one (is_there P told new n.one n.ran p) (by_now P told new n.one n.ran p n.judged_is) in
        unsolved t (subst (λ (b : Bool). Solves t (cond b [] (falsehood ∷ []))) (verdict ∙ so) (run what terms known)))
