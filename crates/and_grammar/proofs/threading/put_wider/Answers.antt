use Rattle.std.proofs.Common.{ℕ, ◌≡◌, ◌+◌, ◌++◌, [], ◌∷◌, List, length, map, rules, sym, ◌∙◌, arith, subst, OnOk}
use Rattle.std.proofs.lemmas.List.{length-map}
use Rattle.and_model.specs.Lines.{Bytes}
use Rattle.and_syntax.specs.Written.{compound}
use Rattle.and_drafts.specs.Parts.{many}
use Rattle.and_drafts.proofs.Telling.{compound_read}
use Rattle.and_grammar.specs.Views.{term_at, arguments_at, Becomes}
use Rattle.and_grammar.proofs.CopyLemmas.{same_count}
use Rattle.and_grammar.proofs.threading.put_wider.Goals as goal

pub put_compound-requires : goal.put_compound-requires
put_compound-requires c =
    let read = compound_read c.args.rule.now c.args.place _ c.requires.place c.in-Compound.count c.in-Compound.name.now c.in-Compound.ensures in
    let few : length (arguments_at c.args.rule.now c.args.place) ≡ c.in-Compound.count = read.2 in
    let wider : c.in-Some.wider ≡ c.in-Compound.count + 2 = search rules in
    omega (arith, c.requires.enough)

pub returns-in-Some : goal.returns-in-Some
returns-in-Some c = λ name arguments ws us is split few.
    let read = compound_read c.args.rule.now c.args.place _ c.requires.place c.in-Compound.count c.in-Compound.name.now c.in-Compound.ensures in
    let args : List ℕ = arguments_at c.args.rule.now c.args.place in
    let wider : c.in-Some.wider ≡ c.in-Compound.count + 2 = search rules in
    let same = same_count c.in-Compound.name.now name (map (term_at c.args.rule.now) args) arguments (sym read.1 ∙ is) in
    let size : length us ≡ c.in-Some.wider = omega (arith, few, same.1, length-map args (term_at c.args.rule.now), read.2) in
    subst (λ (x : Bytes). OnOk c.put_compound.result (Becomes c.args.out.now c.put_compound.new.out (ws ++ compound x (many us) ∷ []))) same.0
    (c.put_compound.ensures ws us split size)
