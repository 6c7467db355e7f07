use Rattle.std.proofs.Common.{ℕ, ◌≡◌, List, Ok, Some, sym, ap, ◌∙◌, subst, rules}
use Rattle.and_program.specs.Skeletons.{node_term}
use Rattle.and_determinacy.specs.declared.seeing.Sight.TheVariants.{Fits}
use Rattle.and_determinacy.specs.Watching.{AreAllListed, HadBefore, StaysWhile, told_if}
use Rattle.and_determinacy.proofs.Told.{where_told, all_had, stays_with_more}
use Rattle.and_determinacy.proofs.rests.Rests.add_seen.Goals as goal

pub returns-then-not-self-clause-fits : goal.returns-then-not-self-clause-fits
returns-then-not-self-clause-fits g c = λ e.
    let seen : c.in_ok-seen.seen ≡ Fits = search rules in c.in_ok-seen.ensures.fits (ap (λ b. Ok b) seen)

pub returns-clause-fits : goal.returns-clause-fits
returns-clause-fits g c = λ e.
    let seen : c.in_ok-seen.seen ≡ Fits = search rules in c.in_ok-seen.ensures.fits (ap (λ b. Ok b) seen)

pub returns-clause-before : goal.returns-clause-before
returns-clause-before g c = λ e.
    let was = c.self.inside.cells.items in
    let told : c.args.self.now ≡ Some was = sym c.self.view_is ∙ ap (λ b. told_if b was) c.if-not-self.false in
    where_told (HadBefore c.args.self.now) c.self.inside.are_told c.list_all.new.out.items (λ is.
    all_had c.deref.result.now was c.list_all.new.out.items c.in_ok-list_all.ensures c.args.self.now told)

pub returns-clause-stays : goal.returns-clause-stays
returns-clause-stays g c = λ e.
    let P = g.N.Naming.program in
    let row = c.args.cells.now in
    let call = node_term P.skeleton.nodes c.args.node.0 in
    let seen : c.in_ok-seen.seen ≡ Fits = search rules in
    let few = c.is_seen.new.held.items in
    let many = c.list_all.new.out.items in
    let listed = subst (λ (cs : List ℕ). AreAllListed cs c.self.inside.cells.items many) c.deref.ensures.value c.in_ok-list_all.ensures in
    where_told (λ has. StaysWhile P row c.args.base call has c.args.clause.0) c.self.inside.are_told many (λ is.
    stays_with_more P row c.args.base call few many c.args.clause.0 listed.there (c.in_ok-seen.ensures.stays (ap (λ b. Ok b) seen)))

pub returns-then-not-is_fit-clause-apart : goal.returns-then-not-is_fit-clause-apart
returns-then-not-is_fit-clause-apart g c = λ e. c.in_ok-seen.ensures.apart e
