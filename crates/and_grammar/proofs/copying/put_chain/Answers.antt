use Rattle.std.proofs.Common.{◌≡◌, ◌-◌, List, [], ◌∷◌, ◌++◌, length, refl, ◌∙◌, arith}
use Rattle.and_syntax.specs.Written.{Written}
use Rattle.and_drafts.specs.Drafts.{draft_of}
use Rattle.and_grammar.proofs.CopyLemmas.{Back, back, chain_first, chain_two, chain_next, chain_last}
use Rattle.and_grammar.proofs.copying.put_chain.Goals as goal

pub loop-left-init : goal.loop-left-init
loop-left-init c = record {
  few = omega arith;
  line = refl;
  chained = λ ws us last e few. e ∙ chain_first c.args.name.now ws us last c.args.count few;
}

pub put_compound-requires : goal.put_compound-requires
put_compound-requires c =
    let b : Back (draft_of c.args.out.now).finished c.args.count = back (draft_of c.args.out.now).finished c.args.count c.requires in
    chain_two (draft_of c.loop-left.out).finished b.front b.middle _ c.loop-left.left (c.loop-left.invariant.chained b.front b.middle b.last b.split b.few)
    (omega arith) (omega (arith, b.few, c.loop-left.invariant.few))

pub loop-left-preserved : goal.loop-left-preserved
loop-left-preserved c =
    let b : Back (draft_of c.args.out.now).finished c.args.count = back (draft_of c.args.out.now).finished c.args.count c.requires in
    let next = λ (ws us : List Written) (last : Written) (e : (draft_of c.args.out.now).finished ≡ ws ++ (us ++ last ∷ [])) (few : length us ≡ c.args.count).
    chain_next c.loop-left.out c.put_compound.new.out c.args.name.now ws us last c.loop-left.left (c.loop-left.left - 1) (omega arith)
    (omega (arith, few, c.loop-left.invariant.few))
    (c.loop-left.invariant.chained ws us last e few) c.in_ok-put_compound.ensures in
    record {
      few = omega (arith, c.loop-left.invariant.few);
      line = (next b.front b.middle b.last b.split b.few).line ∙ c.loop-left.invariant.line;
      chained = λ ws us last e few. (next ws us last e few).finished;
    }

pub returns : goal.returns
returns c = λ ws us last e few. record {
  line = c.loop-left.invariant.line;
  finished = chain_last (draft_of c.loop-left.out).finished ws us c.args.name.now last c.loop-left.left (omega arith)
      (c.loop-left.invariant.chained ws us last e few);
}
