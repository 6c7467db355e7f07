use Rattle.std.proofs.Common.{◌≡◌, [], ◌∷◌, ◌++◌, List, reverse, ◌∙◌, ap, sym, arith, append-nil}
use Rattle.std.proofs.lemmas.List.{nil_from_length}
use Rattle.and_answers.specs.Runs.{entries_of}
use Rattle.and_answers.specs.declared.tail.Tail.{Tail}
use Rattle.and_answers.proofs.CutLemmas.{put_one}
use Rattle.and_answers.proofs.cutting.put_back.Goals as goal

pub returns : goal.returns
returns c =
    let old = c.args.entries.now.items in
    let new = c.putting.entries.items in
    let run : List Tail = c.run.inside.tails.items in
    let none : c.putting.tails.items ≡ [] =
    nil_from_length c.putting.tails.items (omega (arith, c.putting.tails.ok.0, c.in_default-pop.ensures.cases.0)) in
    let put : new ≡ old ++ entries_of (reverse run) =
    sym (append-nil new) ∙ ap (λ (l : List Tail). new ++ entries_of (reverse l)) (sym none) ∙ c.putting.invariant in
    put_one old new c.args.runs.items c.pop.new.self.items run
    (c.in-Some.ensures.items ∙ ap (λ (l : List Tail). c.pop.new.self.items ++ l ∷ []) (sym c.run.view_is)) c.requires put c.run.invariant
