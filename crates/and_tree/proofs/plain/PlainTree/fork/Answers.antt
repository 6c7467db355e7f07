use Rattle.std.proofs.Common.{◌≡◌, List, ℕ, refl, arith}
use Rattle.and_model.specs.Codes.{numbers_of}
use Rattle.and_histories.specs.PlainTree.{children}
use Rattle.and_tree.specs.Counted.{tally}
use Rattle.and_tree.proofs.Turning.{turn_fork, forked_left, holds_found, one_less}
use Rattle.and_tree.proofs.plain.PlainTree.fork.Goals as goal

pub overflow_sub-self : goal.overflow_sub-self
overflow_sub-self g c =
    let p = c.self.inside in
    let key = c.args.key.now in
    let holds = holds_found c.args.self.now p.places (tally p.counts) c.args.team key key c.self.view_is refl c.requires.hand in
    omega (arith, c.self.invariant, c.in-Some.ensures, one_less p.places.state c.args.team key holds)

pub returns-clause-ok : goal.returns-clause-ok
returns-clause-ok g c =
    let p = c.self.inside in
    let clauses : List ℕ = numbers_of c.args.clauses.now in
    turn_fork c.args.self.now p.places c.put_in_place.new.self (tally p.counts) (tally c.count_fork.new.self) c.args.team c.args.key.now
    c.args.longer.now c.args.key.now clauses c.in_ok-children.children.items c.self.view_is c.requires.hand c.requires.longer refl
    c.in_ok-children.ensures c.in_ok-put_in_place.ensures.ok c.count_fork.ensures

pub invariant_of-self-2 : goal.invariant_of-self-2
invariant_of-self-2 g c =
    let p = c.self.inside in
    let clauses : List ℕ = numbers_of c.args.clauses.now in
    let many = forked_left c.args.self.now p.places c.put_in_place.new.self (tally p.counts) (tally c.count_fork.new.self) p.left c.in-Some.left
    c.args.team c.args.key.now c.args.longer.now clauses c.in_ok-children.children.items c.self.view_is c.self.invariant
    (omega (arith, c.in-Some.ensures, c.len.ensures, c.in_ok-children.children.ok.0)) c.in_ok-children.ensures (returns-clause-ok g c) in
    omega (arith, many)
