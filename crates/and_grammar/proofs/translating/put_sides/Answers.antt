use Rattle.std.proofs.Common.{ℕ, [], ◌∷◌, ◌++◌, codes, ap, ◌∙◌, subst}
use Rattle.and_syntax.specs.Written.{compound, more, none}
use Rattle.and_drafts.specs.Drafts.{Draft}
use Rattle.and_translation.specs.Bodies.{first_terminals, behind_first}
use Rattle.and_translation.specs.Translation.{state, list_before, head_between, joined, walk}
use Rattle.and_grammar.specs.Views.{term_at, body_at, Adds}
use Rattle.and_grammar.proofs.CopyLemmas.{two_taken, two_there}
use Rattle.and_grammar.proofs.translating.put_sides.Goals as goal

pub put_compound-requires : goal.put_compound-requires
put_compound-requires c =
    let first = list_before (first_terminals (body_at c.args.rule.now c.args.body)) (state 0) in
    let w = walk (behind_first (body_at c.args.rule.now c.args.body)) 0 1 in
    two_there c.restart.new.self c.put_head.new.out c.in_ok-threaded.threaded.out
    (head_between (term_at c.args.rule.now c.args.head) first (state c.args.behind)) (joined w.goals) c.in_ok-put_head.ensures
    c.in_ok-threaded.ensures

pub returns : goal.returns
returns c =
    let first = list_before (first_terminals (body_at c.args.rule.now c.args.body)) (state 0) in
    let w = walk (behind_first (body_at c.args.rule.now c.args.body)) 0 1 in
    let h = term_at c.args.rule.now c.args.head in
    let head : Adds c.restart.new.self c.put_head.new.out (head_between h first (state w.behind) ∷ []) =
    subst (λ (k : ℕ). Adds c.restart.new.self c.put_head.new.out (head_between h first (state k) ∷ [])) c.requires.behind
    c.in_ok-put_head.ensures in
    let two = two_taken c.restart.new.self c.put_head.new.out c.in_ok-threaded.threaded.out c.put_compound.new.out (codes ":-")
    (head_between h first (state w.behind)) (joined w.goals) head c.in_ok-threaded.ensures c.in_ok-put_compound.ensures in (
      two.line ∙ ap (λ (d : Draft). d.line) c.restart.ensures ∙ c.line.ensures,
      two.finished ∙ ap (λ (d : Draft). d.finished ++ compound (codes ":-") (more (head_between h first (state w.behind)) (more (joined w.goals) none)) ∷ [])
          c.restart.ensures,
    )
