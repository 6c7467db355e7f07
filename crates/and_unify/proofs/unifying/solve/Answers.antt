use Rattle.std.proofs.Common.{◌≡◌, ◌≢◌, ◌⊎◌, ap, subst, sym, ◌∙◌, refl, inl, inr}
use Rattle.and_program.specs.Skeletons.{AllFall}
use Rattle.and_cells.specs.Ranges.{NamedProgram}
use Rattle.and_cells.specs.Parts.{named}
use Rattle.and_model.specs.declared.reference.Ref.{Ref}
use Rattle.and_unify.specs.declared.turning.Turn.{Turn}
use Rattle.and_unify.specs.declared.turning.Turn.TheVariants.{Again, Over}
use Rattle.and_unify.specs.declared.unifying.Unified.{Unified}
use Rattle.and_unify.specs.declared.unifying.Unified.TheVariants as unified
use Rattle.and_unify.specs.Unifying.{HasSpent}
use Rattle.and_unify.proofs.TurnStands.{stands_begun, stands_turns}
use Rattle.and_unify.proofs.TurnAnswers.{kept_end, among_end, todo_end, follows_end, left_end, suffice_end, equal_end, range_end, sets_end, apart_end}
use Rattle.and_unify.proofs.TurnAnswers.{apart_at_end, spent_done, spent_broken, put_off_end}
use Rattle.and_unify.proofs.unifying.solve.Goals as goal

falls : (P Q : NamedProgram) → P ≡ Q → AllFall 0 Q.skeleton.nodes → AllFall 0 P.skeleton.nodes
falls P Q same fall = subst (λ (p : NamedProgram). AllFall 0 p.skeleton.nodes) (sym same) fall

not_again : (r : Turn) (u : Unified) → r ≡ Over u → r ≢ Again
not_again r u is e = let both : Over u ≡ Again = sym is ∙ e in absurd (cc)

is_over : (r : Turn) (u v : Unified) → r ≡ Over u → u ≡ v → r ≡ Over v
is_over r u v is same = is ∙ ap Over same

-- a turn that finishes or puts off
ends_with : (r : Turn) (u : Unified) (A B : Type 0) → r ≡ Over u → (r ≡ Over unified.Same → A) → (r ≡ Over unified.PutOff → B)
    → (u ≡ unified.Same) ⊎ (u ≡ unified.PutOff) → A ⊎ B
ends_with r u A B is same off (inl e) = inl (same (is_over r u unified.Same is e))
ends_with r u A B is same off (inr e) = inr (off (is_over r u unified.PutOff is e))

-- what is spent, whatever ended unification but want of memory
spent_by : (r : Turn) (u v : Unified) (A B : Type 0) → r ≡ Over u → u ≡ v → (r ≡ Over unified.Same → A) → (r ≡ Over unified.PutOff → B) → (C : Type 0)
    → ((one other : Ref) → r ≡ Over (unified.Apart one other) → C) → (A ⊎ B → C) → v ≢ unified.Memory → C
spent_by r u unified.Same A B is e same off C apart done some = done (inl (same (is_over r u unified.Same is e)))
spent_by r u (unified.Apart one other) A B is e same off C apart done some = apart one other (is_over r u (unified.Apart one other) is e)
spent_by r u unified.PutOff A B is e same off C apart done some = done (inr (off (is_over r u unified.PutOff is e)))
spent_by r u unified.Memory A B is e same off C apart done some = absurd (some refl)

pub loop-unified-init : goal.loop-unified-init
loop-unified-init g c = record {
  over = refl;
  grew = g.met.C.Cells.grew_nothing c.args.cells.now;
  stands = stands_begun g.C.Cells.program (g.C.Cells.seen c.args.cells.now) c.args.pairs.now c.args.fuel.now c.args.bound.now.items c.new-work.result.rights
      c.new-work.result.taken.keys c.new-work.result.classes
      c.new-work.ensures c.requires.in_range c.requires.written;
}

pub take_turn-requires-clause-pairs : goal.take_turn-requires-clause-pairs
take_turn-requires-clause-pairs g c = range_end g.C.Cells.program _ _ _ _ _ _ _ c.loop-unified.pairs c.loop-unified.invariant.stands.kept (λ p at. inl at)

pub take_turn-requires-clause-rights : goal.take_turn-requires-clause-rights
take_turn-requires-clause-rights g c =
    range_end g.C.Cells.program _ _ _ _ _ _ _ c.loop-unified.work.rights c.loop-unified.invariant.stands.kept (λ p at. inr at)

pub loop-unified-preserved : goal.loop-unified-preserved
loop-unified-preserved g c =
    let fall = falls g.C.Cells.program (named c.args.loaded.now) c.requires.program c.skeleton_is_of_the_program.ensures.skeleton.0 in record {
      over = c.take_turn.ensures.over ∙ c.loop-unified.invariant.over;
      grew = g.met.C.Cells.grew_on c.args.cells.now c.loop-unified.cells c.take_turn.new.cells c.loop-unified.invariant.grew c.take_turn.ensures.grew;
      stands = stands_turns g.C.Cells.program _ _ _ _ _ _ _ _ fall (c.take_turn.ensures.again c.in-Again.is) c.loop-unified.invariant.stands;
    }

pub returns-in-Over-clause-keeps : goal.returns-in-Over-clause-keeps
returns-in-Over-clause-keeps g c =
    let stopped = c.take_turn.ensures.stopped (not_again c.take_turn.result c.in-Over.unified c.in-Over.is) in
    let kept = kept_end g.C.Cells.program _ _ _ _ _ _ _ _ stopped c.loop-unified.invariant.stands in
    kept.keeps

pub returns-in-Over-clause-unifies : goal.returns-in-Over-clause-unifies
returns-in-Over-clause-unifies g c =
    let P = g.C.Cells.program in
    let left = c.take_turn.new.pairs in
    let says = c.take_turn.ensures in
    let over = is_over c.take_turn.result c.in-Over.unified in
    let begun = c.loop-unified.invariant.stands in
    let stopped = says.stopped (not_again c.take_turn.result c.in-Over.unified c.in-Over.is) in
    let kept = kept_end P _ _ _ _ _ _ _ _ stopped begun in
    let fall = falls P (named c.args.loaded.now) c.requires.program c.skeleton_is_of_the_program.ensures.skeleton.0 in record {
      follows = follows_end P _ _ _ _ _ _ _ kept;
      same = λ ended. (says.same (over unified.Same c.in-Over.is ended)).done.2;
      equal = λ ended. equal_end P _ _ _ _ _ _ _ left fall c.requires.in_range kept
          (among_end _ _ (ends_with c.take_turn.result c.in-Over.unified _ _ c.in-Over.is says.same says.put_off ended));
      still_asked = λ ended. left_end P _ _ _ _ _ _ _ left kept (todo_end _ _ (says.put_off (over unified.PutOff c.in-Over.is ended)));
      in_range = λ ended. range_end P _ _ _ _ _ _ _ left kept (todo_end _ _ (says.put_off (over unified.PutOff c.in-Over.is ended)));
      apart = λ one other ended. apart_end P _ _ _ _ _ _ _ one other begun
          (says.apart one other (over (unified.Apart one other) c.in-Over.is ended));
      apart_at = λ one other ended. apart_at_end P _ _ _ _ _ _ _ one other begun
          (says.apart one other (over (unified.Apart one other) c.in-Over.is ended));
    }

pub returns-in-Over-clause-spends : goal.returns-in-Over-clause-spends
returns-in-Over-clause-spends g c =
    let P = g.C.Cells.program in
    let says = c.take_turn.ensures in
    let begun = c.loop-unified.invariant.stands in record {
      spent = spent_by c.take_turn.result c.in-Over.unified c.in-Over.unified _ _ c.in-Over.is refl says.same says.put_off
          (HasSpent P c.args.pairs.now (g.C.Cells.seen c.take_turn.new.cells) c.args.fuel.now c.take_turn.new.fuel)
          (λ one other is. spent_broken P _ _ _ _ _ _ _ one other begun (says.apart one other is))
          (λ ends. spent_done P _ _ _ _ _ _ _ begun ends);
      put_off = λ ended.
          put_off_end P _ _ _ _ (says.put_off (is_over c.take_turn.result c.in-Over.unified unified.PutOff c.in-Over.is ended)) begun.paid;
    }

pub returns-in-Over-clause-sets : goal.returns-in-Over-clause-sets
returns-in-Over-clause-sets g c =
    let stopped = c.take_turn.ensures.stopped (not_again c.take_turn.result c.in-Over.unified c.in-Over.is) in
    let kept = kept_end g.C.Cells.program _ _ _ _ _ _ _ _ stopped c.loop-unified.invariant.stands in
    sets_end g.C.Cells.program _ _ _ _ _ _ _ kept

pub returns-in-Over-clause-bound : goal.returns-in-Over-clause-bound
returns-in-Over-clause-bound g c =
    let stopped = c.take_turn.ensures.stopped (not_again c.take_turn.result c.in-Over.unified c.in-Over.is) in
    let kept = kept_end g.C.Cells.program _ _ _ _ _ _ _ _ stopped c.loop-unified.invariant.stands in
    kept.lists

pub returns-in-Over-clause-suffice : goal.returns-in-Over-clause-suffice
returns-in-Over-clause-suffice g c = λ ended.
    let P = g.C.Cells.program in
    let says = c.take_turn.ensures in
    let stopped = says.stopped (not_again c.take_turn.result c.in-Over.unified c.in-Over.is) in
    let kept = kept_end P _ _ _ _ _ _ _ _ stopped c.loop-unified.invariant.stands in
    let fall = falls P (named c.args.loaded.now) c.requires.program c.skeleton_is_of_the_program.ensures.skeleton.0 in
    suffice_end P _ _ _ _ _ _ _ c.take_turn.new.pairs fall kept
    (among_end _ _ (ends_with c.take_turn.result c.in-Over.unified _ _ c.in-Over.is says.same says.put_off ended))
