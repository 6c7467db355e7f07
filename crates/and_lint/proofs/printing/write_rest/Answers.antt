use Rattle.std.proofs.Common.{◌≡◌, ◌∙◌, ◌+◌, ◌<◌, ◌≤◌, ◌++◌, ◌∷◌, [], List, ap, arith, append_assoc}
use Rattle.std.proofs.lemmas.Result.{on_ok_weaker}
use Rattle.and_model.specs.Terms.{Term, width}
use Rattle.and_model.specs.Lines.{Bytes}
use Rattle.and_program.specs.Loaded.{program_of, skeleton_of}
use Rattle.and_program.specs.Skeletons.{Shape, node_term}
use Rattle.and_lint.specs.Printed.{arguments_in}
use Rattle.and_lint.specs.declared.printing.Task.{Task}
use Rattle.and_lint.specs.declared.printing.Task.TheVariants.{Whole, Rest}
use Rattle.and_program.specs.Shown.{count_of}
use Rattle.and_lint.proofs.Tasks.{count_in, does_argument, does_bracket}
use Rattle.and_lint.proofs.printing.write_rest.Goals as goal

pub returns : goal.returns
returns c = λ vs.
    let ss : List Shape = (skeleton_of c.args.loaded.now).nodes in
    let names : List Bytes = (program_of c.args.loaded.now).names in
    let t : Term = node_term ss c.args.node.0 in
    let wide : c.count.result ≡ width (arguments_in t) = c.count.ensures ∙ ap count_of c.kind.ensures.term ∙ count_in t in
    let some : c.args.place < width (arguments_in t) = omega arith in
    let below = c.argument.ensures.below in
    let there = c.requires in
    does_argument names vs ss c.args.node c.argument.result c.args.place c.args.work.now.items c.push-2.new.self.items
    c.args.text.now c.append-2.new.self some c.requires (omega arith) c.argument.ensures.term
    (c.in_ok-push-2.ensures.items ∙ ap (λ (ks : List Task). ks ++ Whole c.argument.result ∷ []) c.in_ok-push.ensures.items
    ∙ append_assoc c.args.work.now.items (Rest c.args.node (c.args.place + 1) ∷ []) (Whole c.argument.result ∷ []))
    c.in_ok-append.ensures

pub returns-then-place-count : goal.returns-then-place-count
returns-then-place-count c = λ vs.
    let ss : List Shape = (skeleton_of c.args.loaded.now).nodes in
    let names : List Bytes = (program_of c.args.loaded.now).names in
    let t : Term = node_term ss c.args.node.0 in
    let wide : c.count.result ≡ width (arguments_in t) = c.count.ensures ∙ ap count_of c.kind.ensures.term ∙ count_in t in
    let few : width (arguments_in t) ≤ c.args.place = let over = c.if-place-count.true in omega arith in
    on_ok_weaker c.append.result
    (λ e. does_bracket names vs ss c.args.node c.args.place c.args.work.now.items c.args.text.now c.append.new.self few e) c.append.ensures
