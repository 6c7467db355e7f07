use Rattle.std.proofs.Common.{◌≡◌, ◌+◌, ◌-◌, ◌∙◌, ◌++◌, ◌∷◌, [], List, length, set, ap, sym, subst, arith}
use Rattle.std.proofs.lemmas.List.{length_push}
use Rattle.and_cells.specs.Ranges.{NamedProgram}
use Rattle.and_tree.specs.Passes.{TreeId}
use Rattle.and_tasks.specs.Working.{Has}
use Rattle.and_tasks.specs.declared.stack.Task.{Task}
use Rattle.and_tasks.specs.declared.stack.Task.TheVariants.{Children}
use Rattle.and_tasks.proofs.Topped.{comes_on_top, next_ready, read_on_top, serves_top, set_on_top}
use Rattle.and_tasks.proofs.team.Team.next_on_top.Goals as goal

pub next_in_hand-next-requires-clause-fork : goal.next_in_hand-next-requires-clause-fork
next_in_hand-next-requires-clause-fork g c =
    let P : NamedProgram = g.N.Naming.program in
    let tree : TreeId = c.args.shared.now.tree.now in
    let s = c.args.self.now in
    let xs : List (Task g.row.N.Denot) = s.stack.items in
    let h = c.args.hand.now in
    let w = c.requires.left in
    let (l, below, is, many) = c.requires.fork in
    let i = c.len-last.result - 1 in
    let all = ap length is in
    let more = length_push below (Children l) in
    let long : i + 1 ≡ length xs = omega (arith, c.len-last.ensures, all, more, s.stack.ok.0) in
    let comes = comes_on_top P tree s.pass s.found xs below l h is w in (
      l,
      read_on_top xs below l i is long c.index_mut.result.now c.index_mut.ensures.value,
      comes.some,
      serves_top P tree s.pass s.found xs below l h is w,
      comes.tree,
      comes.children,
    )

pub returns-in-Ok-clause-ready : goal.returns-in-Ok-clause-ready
returns-in-Ok-clause-ready g c =
    let P : NamedProgram = g.N.Naming.program in
    let tree : TreeId = c.args.shared.now.tree.now in
    let s = c.args.self.now in
    let xs : List (Task g.row.N.Denot) = s.stack.items in
    let h = c.args.hand.now in
    let w = c.requires.left in
    let (l, below, is, many) = c.requires.fork in
    let i = c.len-last.result - 1 in
    let all = ap length is in
    let more = length_push below (Children l) in
    let long : i + 1 ≡ length xs = omega (arith, c.len-last.ensures, all, more, s.stack.ok.0) in
    let new = c.next_in_hand-next.new.self in
    let was = read_on_top xs below l i is long c.index_mut.result.now c.index_mut.ensures.value in
    let (m, now, next) = c.in-Ok.ensures.next l was in
    next_ready P tree s.pass s.found xs below l h is w many m c.next_in_hand-next.new.hand (set xs i new) next
    (set_on_top xs below l i is long new ∙ ap (λ (x : Task g.row.N.Denot). below ++ x ∷ []) now)

pub give_up_top-requires-clause-has : goal.give_up_top-requires-clause-has
give_up_top-requires-clause-has g c κs within =
    let P : NamedProgram = g.N.Naming.program in
    let tree : TreeId = c.args.shared.now.tree.now in
    let s = c.args.self.now in
    let xs : List (Task g.row.N.Denot) = s.stack.items in
    let (l, below, is, many) = c.requires.fork in
    let i = c.len-last.result - 1 in
    let all = ap length is in
    let more = length_push below (Children l) in
    let long : i + 1 ≡ length xs = omega (arith, c.len-last.ensures, all, more, s.stack.ok.0) in
    let new = c.next_in_hand-next.new.self in
    let was = read_on_top xs below l i is long c.index_mut.result.now c.index_mut.ensures.value in
    subst (λ (ts : List (Task g.row.N.Denot)). Has P tree s.pass ts)
    (is ∙ ap (λ (x : Task g.row.N.Denot). below ++ x ∷ []) (sym (c.in-Err.ensures.unchanged ∙ was)) ∙ sym (set_on_top xs below l i is long new))
    c.requires.left.at_work.works.has
