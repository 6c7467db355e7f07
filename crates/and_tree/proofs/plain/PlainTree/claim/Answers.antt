use Rattle.std.proofs.Common.{rules, ◌≡◌, ap, sym, subst, refl, ◌∙◌}
use Rattle.and_histories.specs.PlainTree.{Event, Reply, cell_of, opened}
use Rattle.and_tree.specs.Counted.{tally}
use Rattle.and_tree.specs.Plain.{Turns, Placed}
use Rattle.and_tree.specs.Replies.{seen_of}
use Rattle.and_tree.specs.declared.replies.CellSeen.TheVariants.{Open}
use Rattle.and_tree.proofs.Turning.{turn_miss, turn_take, taken_left, open_or_not, same_limit}
use Rattle.and_tree.proofs.plain.PlainTree.claim.Goals as goal

pub returns-then-ne-clause-moved : goal.returns-then-ne-clause-moved
returns-then-ne-clause-moved g c = λ seen e.
    let p = c.self.inside in
    let found = c.seen-seen.result in
    let other : found ≡ Open c.args.serial → ⊥ = search rules in
    let same : seen ≡ found = cc in
    subst (λ s. Turns (Event.claim c.args.team c.args.cell c.args.serial) (Reply.moved (seen_of s)) c.args.self.now c.args.self.now) (sym same)
    (turn_miss c.args.self.now p.places (tally p.counts) c.args.team c.args.cell c.args.serial (seen_of found) c.self.view_is c.requires.team
    c.requires.cell c.seen-seen.ensures (λ is. other (open_or_not found c.args.serial is)))

pub returns-clause-taken : goal.returns-clause-taken
returns-clause-taken g c = λ branch e.
    let p = c.self.inside in
    let found = c.seen-seen.result in
    let is_open : found ≡ Open c.args.serial = search rules in
    let same : c.clear-branch.result ≡ branch = cc in
    let limit : c.add.new.self.limit ≡ c.args.self.now.limit = ap (λ (x : Placed). x.limit) c.in_ok-add.ensures.ok
    ∙ same_limit c.args.self.now p.places (tally p.counts) c.self.view_is in
    let found_cell = cell_of c.add.new.self.state c.args.cell in
    let there = subst (λ b. found_cell.content ≡ opened (g.B.Keyed.key_of b)) same c.clear-branch.ensures.branch.1 in (
      subst (λ b. g.B.Keyed.Stands c.args.self.now.limit b) same
          (subst (λ n. g.B.Keyed.Stands n c.clear-branch.result) limit c.clear-branch.ensures.branch.0),
      turn_take c.args.self.now p.places c.add.new.self c.clear-branch.new.self (tally p.counts) c.args.team c.args.cell c.args.serial
          (g.B.Keyed.key_of branch) c.in_ok-key.key (seen_of found) c.self.view_is c.requires.team c.requires.cell c.seen-seen.ensures
          (ap seen_of is_open) c.in_ok-key.ensures c.in_ok-add.ensures.ok there c.clear-branch.ensures.cleared,
    )

pub invariant_of-self-2 : goal.invariant_of-self-2
invariant_of-self-2 g c =
    let p = c.self.inside in
    taken_left c.args.self.now p.places c.clear-branch.new.self (tally p.counts) (tally p.counts) p.left c.args.team c.args.cell c.args.serial
    (g.B.Keyed.key_of c.clear-branch.result) c.self.view_is c.self.invariant (returns-clause-taken g c c.clear-branch.result refl).1
