use Rattle.std.proofs.Common.{◌∙◌, ap, sym, subst, refl, inl, inr, suc, ◌+◌, ◌≡◌, arith, w64}
use Rattle.std.proofs.lemmas.Int.{to_z-of_z}
use Rattle.and_store_laws.specs.Steps.{KnowsWritten}
use Rattle.and_store.specs.Calls.{LooksAt}
use Rattle.and_store.proofs.Knowing.{knows_learnt}
use Rattle.and_store.proofs.store.Store.number.Goals as goal

pub overflow_add-pair : goal.overflow_add-pair
overflow_add-pair g c =
    let m = c.self.invariant.modest.words in
    let e = ap (λ z. z.about.words) c.self.view_is in
    let within = c.requires.pair in
    omega (arith, m, e, within)

pub returns-clause-read : goal.returns-clause-read
returns-clause-read g c =
    let first = c.look-high.ensures.looks in
    let next : c.args.pair + 1 ≡ suc c.args.pair = omega arith in
    let second = subst (λ n. LooksAt g.N.Naming.program c.args.self.now.about n c.look-low.result c.look-high.new.pass.pass c.look-low.new.pass.pass) next
    c.look-low.ensures.looks in
    let knows = subst (λ l. KnowsWritten l c.args.pair) (sym (ap (λ q. q.known) first.becomes))
    (knows_learnt c.args.pair c.look-high.result c.args.pass.now.pass.known c.args.pair c.requires.written) in record {
      high = c.look-high.result;
      low = c.look-low.result;
      between = c.look-high.new.pass.pass;
      first = first;
      second = second;
      both = (first.written c.args.pair c.requires.written (inl refl), second.written c.args.pair knows (inr refl));
      holds = to_z-of_z w64 c.joined.result (record { sfits = c.joined.type_inv }) ∙ c.joined.ensures;
    }
