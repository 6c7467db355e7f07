use Rattle.std.proofs.Common.{◌++◌, ◌∙◌, [], ◌∷◌, ap, refl, subst, arith}
use Rattle.std.proofs.lemmas.Result.{IfOk-weaker}
use Rattle.std.specs.Prelude.{Some, List}
use Rattle.and_model.specs.Terms.{variables_of}
use Rattle.and_model.specs.Lines.{shown, shown_tail}
use Rattle.and_cells.specs.Parts.{named}
use Rattle.and_print.specs.Tasks.{tail, in_hand, tasks_left, Does}
use Rattle.and_print.specs.declared.tasks.Task.{Task}
use Rattle.and_print.specs.declared.tasks.Task.TheVariants.{Tail}
use Rattle.and_print.proofs.Owing.{leaves_all, leaves_on, leaves_does}
use Rattle.and_print.proofs.Doing.{element_begun, element_left, nothing_left, shorter_before}
use Rattle.and_print.proofs.printer.Printer.write_tail.Goals as goal

pub loop-head-init : goal.loop-head-init
loop-head-init g c = record {
  left = λ t m. (
    t,
    c.root-ahead.ensures t m,
    leaves_all (named c.args.self.now.loaded.now).program.names (tail t) c.args.names.now c.args.out.now,
  );
  stays = refl;
}

pub list_cell-requires : goal.list_cell-requires
list_cell-requires g c =
    let (t, m) = c.requires.means in
    let (u, r, l) = c.loop-head.invariant.left t m in
    (u, r)

pub write_flat-requires-clause-means : goal.write_flat-requires-clause-means
write_flat-requires-clause-means g c =
    let (t, m) = c.requires.means in
    let (u, r, l) = c.loop-head.invariant.left t m in
    let i = c.in-Some.ensures u r in
    (i.pair.one, i.pair.left_means)

pub returns-in-Some-2 : goal.returns-in-Some-2
returns-in-Some-2 g c = λ t m.
    let P = named c.args.self.now.loaded.now in
    let row = c.args.self.now.cells.now in
    let (u, r, l) = c.loop-head.invariant.left t m in
    let i = c.in-Some.ensures u r in
    let told = c.in_ok-begun.ensures i.pair.one i.pair.left_means in
    let b = rw c.in-Some-2.is at told in
    let pushed = c.in_ok-push.ensures.items ∙ ap (λ (ks : List Task). ks ++ Tail c.in-Some.rest ∷ []) c.loop-head.invariant.stays in
    IfOk-weaker c.hand_over.result _ _
    (λ hand e. leaves_does P row (tail u) (variables_of t) (λ vs. shown_tail P.program.names vs t ++ 93 ∷ []) c.args.names.now c.loop-head.names
    c.write_flat.new.names c.args.out.now c.loop-head.out c.write_flat.new.out c.args.work.now.items (c.hand_over.new.work.items ++ in_hand hand) l
    (element_begun P row c.in-Some.head c.in-Some.rest u i c.loop-head.names c.write_flat.new.names c.loop-head.out c.append.new.self c.write_flat.new.out
    (tasks_left (Some c.in-Some-2.begun)) c.args.work.now.items c.push.new.self.items (c.hand_over.new.work.items ++ in_hand hand) c.in_ok-append.ensures
    pushed e b))
    c.hand_over.ensures

pub root-ahead-requires-in-Some-clause-means : goal.root-ahead-requires-in-Some-clause-means
root-ahead-requires-in-Some-clause-means g c =
    let (t, m) = c.requires.means in
    let (u, r, l) = c.loop-head.invariant.left t m in
    let i = c.in-Some.ensures u r in
    (i.pair.other, i.pair.right_means)

pub loop-head-smaller : goal.loop-head-smaller
loop-head-smaller g c =
    let P = named c.args.self.now.loaded.now in
    let row = c.args.self.now.cells.now in
    let (t, m) = c.requires.means in
    let (u, r, l) = c.loop-head.invariant.left t m in
    let i = c.in-Some.ensures u r in
    let told = c.in_ok-begun.ensures i.pair.one i.pair.left_means in
    let b = rw c.in_default-2.is at told in
    let w = nothing_left P row (variables_of i.pair.one) (λ vs. shown P.program.names vs i.pair.one) c.loop-head.names c.write_flat.new.names
    c.append.new.self c.write_flat.new.out 1 b in
    let longer = shorter_before P row (variables_of i.pair.one) (λ vs. shown P.program.names vs i.pair.one) c.loop-head.names c.write_flat.new.names
    c.loop-head.out c.append.new.self c.write_flat.new.out 44 c.in_ok-append.ensures w in
    let e = c.len-length.ensures in
    omega (arith, longer)

pub loop-head-preserved : goal.loop-head-preserved
loop-head-preserved g c = record {
  left = λ t m.
      let P = named c.args.self.now.loaded.now in
      let row = c.args.self.now.cells.now in
      let (u, r, l) = c.loop-head.invariant.left t m in
      let i = c.in-Some.ensures u r in
      let told = c.in_ok-begun.ensures i.pair.one i.pair.left_means in
      let b = rw c.in_default-2.is at told in (
        i.pair.other,
        c.root-ahead-in-Some.ensures i.pair.other i.pair.right_means,
        leaves_on P.program.names (tail u) (tail i.pair.other) (variables_of t) (λ vs. shown_tail P.program.names vs t ++ 93 ∷ []) c.args.names.now
            c.loop-head.names c.write_flat.new.names c.args.out.now c.loop-head.out c.write_flat.new.out l
            (element_left P row c.in-Some.head c.in-Some.rest u i c.loop-head.names c.write_flat.new.names c.loop-head.out c.append.new.self
            c.write_flat.new.out c.in_ok-append.ensures b),
      );
  stays = c.loop-head.invariant.stays;
}

pub write_end-requires-clause-means : goal.write_end-requires-clause-means
write_end-requires-clause-means g c =
    let (t, m) = c.requires.means in
    let (u, r, l) = c.loop-head.invariant.left t m in
    (u, r)

pub returns : goal.returns
returns g c = λ t m.
    let P = named c.args.self.now.loaded.now in
    let row = c.args.self.now.cells.now in
    let (u, r, l) = c.loop-head.invariant.left t m in
    let cell = c.in_default.ensures u r in
    let done = c.write_end.ensures u r cell in
    IfOk-weaker c.write_end.result _ _
    (λ hand d. leaves_does P row (tail u) (variables_of t) (λ vs. shown_tail P.program.names vs t ++ 93 ∷ []) c.args.names.now c.loop-head.names
    c.write_end.new.names c.args.out.now c.loop-head.out c.write_end.new.out c.args.work.now.items (c.write_end.new.work.items ++ in_hand hand) l
    (subst (λ (ks : List Task). Does P row (variables_of u) (λ vs. shown_tail P.program.names vs u ++ 93 ∷ []) c.loop-head.names c.write_end.new.names
    c.loop-head.out c.write_end.new.out ks (c.write_end.new.work.items ++ in_hand hand)) c.loop-head.invariant.stays d))
    done
