use Rattle.std.proofs.Common.{rules, ℕ, List, [], ◌∷◌, ◌||◌, ◌≡◌, reverse, ap, sym, ◌∙◌, arith, subst}
use Rattle.and_program.specs.Skeletons.{Falls}
use Rattle.and_translation.specs.Bodies.{has_impure, has_wide}
use Rattle.and_drafts.specs.Drafts.{draft_of}
use Rattle.and_grammar.specs.Views.{body_at}
use Rattle.and_grammar.specs.Checked.{are_impure, are_wide, sizes}
use Rattle.and_grammar.proofs.CopyLemmas.{no_more}
use Rattle.and_grammar.proofs.Looking.{one_place, last_place, or_nothing}
use Rattle.and_grammar.proofs.checking.look_over.Goals as goal

pub loop-place-init : goal.loop-place-init
loop-place-init c =
    let e : reverse c.push.new.self.items ≡ c.args.body ∷ [] =
    one_place c.args.body c.new-pending.result.items c.push.new.self.items c.new-pending.ensures.items c.in_ok-push.ensures.items in
    record {
      impure = ap (are_impure c.args.rule.now) e ∙ or_nothing (has_impure (body_at c.args.rule.now c.args.body));
      wide = ap (are_wide c.args.rule.now) e ∙ or_nothing (has_wide (body_at c.args.rule.now c.args.body));
      within = subst (Falls (draft_of c.args.rule.now).parts) (sym e) (c.requires, tt);
    }

pub look_at-requires : goal.look_at-requires
look_at-requires c =
    let e : reverse c.loop-place.pending.items ≡ c.in-Some.place ∷ reverse c.pop.new.self.items =
    last_place c.loop-place.pending.items c.pop.new.self.items c.in-Some.place c.in-Some.ensures.items in
    (subst (Falls (draft_of c.args.rule.now).parts) e c.loop-place.invariant.within).0

pub loop-place-smaller : goal.loop-place-smaller
loop-place-smaller c =
    let e : reverse c.loop-place.pending.items ≡ c.in-Some.place ∷ reverse c.pop.new.self.items =
    last_place c.loop-place.pending.items c.pop.new.self.items c.in-Some.place c.in-Some.ensures.items in
    omega (arith, c.in_ok-look_at.ensures.less, ap (sizes c.args.rule.now) e)

pub loop-place-preserved : goal.loop-place-preserved
loop-place-preserved c =
    let e : reverse c.loop-place.pending.items ≡ c.in-Some.place ∷ reverse c.pop.new.self.items =
    last_place c.loop-place.pending.items c.pop.new.self.items c.in-Some.place c.in-Some.ensures.items in
    record {
      impure = c.in_ok-look_at.ensures.impure ∙ ap (λ (ns : List ℕ). c.loop-place.found.impure || are_impure c.args.rule.now ns) (sym e)
          ∙ c.loop-place.invariant.impure;
      wide = c.in_ok-look_at.ensures.wide ∙ ap (λ (ns : List ℕ). c.loop-place.found.wide || are_wide c.args.rule.now ns) (sym e) ∙ c.loop-place.invariant.wide;
      within = c.in_ok-look_at.ensures.within (subst (Falls (draft_of c.args.rule.now).parts) e c.loop-place.invariant.within);
    }

pub returns-clause-impure : goal.returns-clause-impure
returns-clause-impure c =
    let none : c.loop-place.pending.items ≡ [] = no_more c.loop-place.pending.items (let h : c.loop-place.pending.len ≡ 0 = search rules in omega arith) in
    sym (ap (λ (ns : List ℕ). c.loop-place.found.impure || are_impure c.args.rule.now (reverse ns)) none ∙ or_nothing c.loop-place.found.impure)
    ∙ c.loop-place.invariant.impure

pub returns-clause-wide : goal.returns-clause-wide
returns-clause-wide c =
    let none : c.loop-place.pending.items ≡ [] = no_more c.loop-place.pending.items (let h : c.loop-place.pending.len ≡ 0 = search rules in omega arith) in
    sym (ap (λ (ns : List ℕ). c.loop-place.found.wide || are_wide c.args.rule.now (reverse ns)) none ∙ or_nothing c.loop-place.found.wide)
    ∙ c.loop-place.invariant.wide
