use Rattle.std.proofs.Common.{◌≡◌, ◌∙◌, ◌<◌, ◌++◌, ◌∷◌, [], List, ap, arith, append_assoc}
use Rattle.std.proofs.Common.{get_or}
use Rattle.and_model.specs.Terms.{Term, width}
use Rattle.and_model.specs.Lines.{Bytes, shown_name}
use Rattle.and_program.specs.Loaded.{program_of, skeleton_of}
use Rattle.and_program.specs.Skeletons.{Shape, node_term}
use Rattle.and_lint.specs.Printed.{arguments_in}
use Rattle.and_lint.specs.declared.printing.Task.{Task}
use Rattle.and_lint.specs.declared.printing.Task.TheVariants.{Whole, Rest}
use Rattle.and_lint.proofs.Tasks.{does_atom, does_structure, width_of}
use Rattle.and_lint.proofs.printing.write_structure.Goals as goal

pub returns : goal.returns
returns c = λ vs.
    let ss : List Shape = (skeleton_of c.args.loaded.now).nodes in
    let names : List Bytes = (program_of c.args.loaded.now).names in
    let t : Term = node_term ss c.args.node.0 in
    let wide = width_of t c.args.name c.args.count c.requires.kind in
    let some : 0 < width (arguments_in t) = omega arith in
    let below = c.argument.ensures.below in
    let there = c.requires.there in
    does_structure names vs ss (shown_name (get_or names c.args.name.0 [])) c.args.node c.argument.result c.args.work.now.items c.push-2.new.self.items
    c.args.text.now c.append.new.self some c.requires.there (omega arith) c.argument.ensures.term
    (c.in_ok-push-2.ensures.items ∙ ap (λ (ks : List Task). ks ++ Whole c.argument.result ∷ []) c.in_ok-push.ensures.items
    ∙ append_assoc c.args.work.now.items (Rest c.args.node 1 ∷ []) (Whole c.argument.result ∷ []))
    (c.in_ok-append.ensures
    ∙ ap (λ (x : Bytes). x ++ 40 ∷ []) (c.in_ok-write_name.ensures ∙ ap (λ (n : Bytes). c.args.text.now ++ shown_name n) c.name.ensures)
    ∙ append_assoc c.args.text.now (shown_name (get_or names c.args.name.0 [])) (40 ∷ []))

pub returns-then-count-eq0 : goal.returns-then-count-eq0
returns-then-count-eq0 c = λ vs.
    let ss : List Shape = (skeleton_of c.args.loaded.now).nodes in
    let names : List Bytes = (program_of c.args.loaded.now).names in
    let t : Term = node_term ss c.args.node.0 in
    let wide = width_of t c.args.name c.args.count c.requires.kind in
    let none_there : width (arguments_in t) ≡ 0 = let no_count = c.if-count-eq0.true in omega arith in
    does_atom names vs ss (shown_name (get_or names c.args.name.0 [])) (arguments_in t) c.args.work.now.items c.args.text.now c.write_name.new.text none_there
    (c.in_ok-write_name.ensures ∙ ap (λ (n : Bytes). c.args.text.now ++ shown_name n) c.name.ensures)
