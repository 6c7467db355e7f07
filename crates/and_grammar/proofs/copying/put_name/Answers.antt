use Rattle.std.proofs.Common.{ℕ, List, ◌-◌, length, take, drop, ap, sym, ◌∙◌, ◌≡◌, ◌≤◌, arith, subst, OnOk}
use Rattle.and_model.specs.Lines.{Bytes}
use Rattle.and_syntax.specs.Written.{Written}
use Rattle.and_drafts.specs.Drafts.{draft_of, read_part}
use Rattle.and_drafts.proofs.Telling.{compound_read}
use Rattle.and_grammar.specs.Views.{Becomes, arguments_at}
use Rattle.and_grammar.specs.Copies.{taken, name_at, name_of}
use Rattle.and_grammar.proofs.CopyLemmas.{split_there}
use Rattle.and_grammar.proofs.copying.put_name.Goals as goal

pub put_compound-requires : goal.put_compound-requires
put_compound-requires c =
    let read = compound_read c.args.rule.now c.args.place _ c.requires.there c.in-Compound.count c.in-Compound.name.now (ap read_part (sym c.in-Compound.is)
    ∙ c.part.ensures) in
    let few : length (arguments_at c.args.rule.now c.args.place) ≡ c.in-Compound.count = read.2 in
    omega (arith, c.requires.enough)

pub returns-in-Compound : goal.returns-in-Compound
returns-in-Compound c =
    let F : List Written = (draft_of c.args.out.now).finished in
    let read = compound_read c.args.rule.now c.args.place _ c.requires.there c.in-Compound.count c.in-Compound.name.now (ap read_part (sym c.in-Compound.is)
    ∙ c.part.ensures) in
    let few : length (arguments_at c.args.rule.now c.args.place) ≡ c.in-Compound.count = read.2 in
    let named : c.in-Compound.name.now ≡ name_at c.args.rule.now c.args.place = sym (ap name_of read.0) in
    let le : c.in-Compound.count ≤ length F = omega (arith, c.requires.enough) in
    let split = split_there F c.in-Compound.count le in
    subst (λ (k : ℕ). OnOk c.put_compound.result (Becomes c.args.out.now c.put_compound.new.out (taken (name_at c.args.rule.now c.args.place) k F))) (sym few)
    (subst (λ (x : Bytes). OnOk c.put_compound.result (Becomes c.args.out.now c.put_compound.new.out (taken x c.in-Compound.count F))) named
    (c.put_compound.ensures (take (length F - c.in-Compound.count) F) (drop (length F - c.in-Compound.count) F) split.0 split.1))
