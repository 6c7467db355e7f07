use Rattle.std.proofs.Common.{[], ◌∙◌, List, ℕ, sym, subst, take}
use Rattle.and_model.specs.Prefixes.{IsPrefix}
use Rattle.and_code.specs.Telling.{IsTold}
use Rattle.and_code.specs.declared.telling.CodeSoFar.{CodeSoFar}
use Rattle.and_answers.specs.Kept.{last_code_or, listed}
use Rattle.and_answers.specs.Tails.{BeginAlike}
use Rattle.and_answers.proofs.AlikeLemmas.{longer_alike, last_is_added}
use Rattle.and_tasks.proofs.Judging.{told_entry}
use Rattle.and_tasks.proofs.Ready.{none_shares}
use Rattle.and_tasks.proofs.team.Team.add.Goals as goal

pub tell_code-requires-clause-told : goal.tell_code-requires-clause-told
tell_code-requires-clause-told g c =
    let b = c.args.hand.now.branch in
    subst (λ (t : CodeSoFar). IsTold g.N.Naming.program.program b.reductions t b.key) (sym c.replace-told.ensures.value) c.requires.told

pub add-requires : goal.add-requires
add-requires g c =
    let s = c.args.self.now in
    let h = c.args.hand.now in
    let begins = subst (λ (t : CodeSoFar). IsPrefix (take t.length h.branch.key) c.tell_code.new.self.key) c.replace-told.ensures.value
    c.in_ok-tell_code.ensures.begins in
    subst (λ (code : List ℕ). BeginAlike (last_code_or [] (listed s.found)) code h.common) (sym c.key.ensures)
    (longer_alike _ (take h.told.length h.branch.key) c.tell_code.new.self.key h.common begins c.requires.shares)

pub returns-clause-entries : goal.returns-clause-entries
returns-clause-entries g c =
    told_entry g.N.Naming.program c.args.hand.now.branch c.args.floundered c.key.result.now c.in_ok-line.line
    (listed c.args.self.now.found) (listed c.add.new.self) (λ t branch whole. c.key.ensures ∙ c.in_ok-tell_code.ensures.code t branch whole)
    c.in_ok-line.ensures c.in_ok-add.ensures.ok

pub returns-clause-last : goal.returns-clause-last
returns-clause-last g c = last_is_added [] (listed c.args.self.now.found) (listed c.add.new.self) _ c.in_ok-add.ensures.ok ∙ c.key.ensures

pub returns-clause-left : goal.returns-clause-left
returns-clause-left g c =
    let h = c.args.hand.now in (
      c.in_ok-tell_code.ensures.same,
      subst (λ (t : CodeSoFar). IsPrefix (take t.length h.branch.key) c.tell_code.new.self.key) c.replace-told.ensures.value
          c.in_ok-tell_code.ensures.begins,
    )

pub invariant_of-self : goal.invariant_of-self
invariant_of-self g c =
    let s = c.args.self.now in
    record { number_is = s.number_is; left_shares = none_shares c.add.new.self s.common s.left c.requires.none }
