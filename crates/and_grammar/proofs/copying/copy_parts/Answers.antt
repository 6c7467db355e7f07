use Rattle.std.proofs.Common.{rules, ◌≡◌, List, [], ◌∷◌, length, reverse, refl, sym, ap, ◌∙◌, arith, subst}
use Rattle.and_drafts.specs.Drafts.{draft_of}
use Rattle.and_grammar.specs.declared.copying.Copy.{Copy}
use Rattle.and_grammar.specs.declared.copying.Copy.TheVariants.{Term}
use Rattle.and_grammar.specs.Copies.{copied, AreEnough, AreWithin, work}
use Rattle.and_grammar.proofs.CopyLemmas.{copy_begun, last_first, no_more}
use Rattle.and_grammar.proofs.copying.copy_parts.Goals as goal

pub loop-copy-init : goal.loop-copy-init
loop-copy-init c =
    let e : reverse c.push.new.self.items ≡ Term c.args.place ∷ [] =
    copy_begun c.args.rule.now (draft_of c.args.out.now).finished c.args.place _ c.push.new.self.items c.new-pending.ensures.items
    c.in_ok-push.ensures.items in
    record {
      line = refl;
      same = ap (λ (todo : List Copy). copied c.args.rule.now todo (draft_of c.args.out.now).finished) e;
      enough = subst (λ (todo : List Copy). AreEnough c.args.rule.now todo (length (draft_of c.args.out.now).finished)) (sym e) tt;
      within = subst (AreWithin c.args.rule.now) (sym e) (c.requires, tt);
    }

pub copy_one-requires : goal.copy_one-requires
copy_one-requires c =
    let e : reverse c.loop-copy.pending.items ≡ c.in-Some.copy ∷ reverse c.pop.new.self.items =
    last_first c.loop-copy.pending.items c.pop.new.self.items c.in-Some.copy c.in-Some.ensures.items in
    record {
      there = (subst (AreWithin c.args.rule.now) e c.loop-copy.invariant.within).0;
      enough = subst (λ (todo : List Copy). AreEnough c.args.rule.now todo (length (draft_of c.loop-copy.out).finished)) e c.loop-copy.invariant.enough;
    }

pub loop-copy-smaller : goal.loop-copy-smaller
loop-copy-smaller c =
    let e : reverse c.loop-copy.pending.items ≡ c.in-Some.copy ∷ reverse c.pop.new.self.items =
    last_first c.loop-copy.pending.items c.pop.new.self.items c.in-Some.copy c.in-Some.ensures.items in
    omega (arith, c.in_ok-copy_one.ensures.less, ap (work c.args.rule.now) e)

pub loop-copy-preserved : goal.loop-copy-preserved
loop-copy-preserved c =
    let e : reverse c.loop-copy.pending.items ≡ c.in-Some.copy ∷ reverse c.pop.new.self.items =
    last_first c.loop-copy.pending.items c.pop.new.self.items c.in-Some.copy c.in-Some.ensures.items in
    record {
      line = c.in_ok-copy_one.ensures.line ∙ c.loop-copy.invariant.line;
      same = c.in_ok-copy_one.ensures.same ∙ ap (λ (todo : List Copy). copied c.args.rule.now todo (draft_of c.loop-copy.out).finished) (sym e)
          ∙ c.loop-copy.invariant.same;
      enough = c.in_ok-copy_one.ensures.enough;
      within = c.in_ok-copy_one.ensures.within (subst (AreWithin c.args.rule.now) e c.loop-copy.invariant.within);
    }

pub returns : goal.returns
returns c =
    let none : c.loop-copy.pending.items ≡ [] = no_more c.loop-copy.pending.items (let h : c.loop-copy.pending.len ≡ 0 = search rules in omega arith) in
    record {
      line = c.loop-copy.invariant.line;
      finished = sym (ap (λ (todo : List Copy). copied c.args.rule.now (reverse todo) (draft_of c.loop-copy.out).finished) none) ∙ c.loop-copy.invariant.same;
    }
