use Rattle.std.proofs.Common.{ap, arith, length, [], ◌∷◌}
use Rattle.std.proofs.lemmas.List.{length-append}
use Rattle.and_translation.specs.Translation.{state}
use Rattle.and_drafts.specs.Drafts.{draft_of}
use Rattle.and_grammar.proofs.CopyLemmas.{list_put_or}
use Rattle.and_grammar.proofs.copying.put_list_before.Goals as goal

pub put_chain-requires : goal.put_chain-requires
put_chain-requires c =
    omega (
      arith,
      ap length c.in_ok-put_state.ensures.finished,
      length-append (draft_of c.copy_elements.new.out).finished (state c.args.number ∷ []),
      c.in_ok-count.ensures.enough,
    )

pub returns : goal.returns
returns c = λ items e.
    let l = c.in_ok-count.ensures.listed items e in
    list_put_or c.put_chain.result c.args.out.now c.copy_elements.new.out c.put_state.new.out c.put_chain.new.out items (state c.args.number)
    c.in_ok-count.count l.0 l.1 c.in_ok-put_state.ensures c.put_chain.ensures
