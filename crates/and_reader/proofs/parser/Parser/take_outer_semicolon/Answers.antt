use Rattle.std.proofs.Common.{◌≡◌, suc, [], ◌∷◌, ◌++◌, length, refl, sym, ap, ◌∙◌, arith}
use Rattle.std.proofs.lemmas.List.{length-reverse, length-append}
use Rattle.and_syntax.specs.Written.{Written}
use Rattle.and_automaton.specs.Machine
use Rattle.and_automaton.specs.Machine.{inside, wanted, nothing_pending, conjunction}
use Rattle.and_reader.specs.Standing.{head_in}
use Rattle.and_reader.proofs.TermLemmas.{conjunction_is}
use Rattle.and_reader.proofs.StandLemmas.{count_frames}
use Rattle.and_reader.proofs.parser.Parser.take_outer_semicolon.Goals as goal

pub finish_pairs-requires : goal.finish_pairs-requires
finish_pairs-requires c =
    let q = c.requires in
    let n = q.2.before in
    omega (arith, ap length q.2.finished, length-append q.0.before (q.0.alternatives ++ head_in q.0.part))

pub returns-clause-answer : goal.returns-clause-answer
returns-clause-answer c l a s =
    let v : Written = conjunction l.before a in
    let rest = l.alternatives ++ head_in l.part in
    let m : Machine.Outermost = record { part = l.part; alternatives = v ∷ l.alternatives; before = [] } in
    let more : c.in-Some.more ≡ suc (length l.alternatives) = let n = s.alternatives in omega (arith, c.in-Some.ensures.1) in (
      inside m [] nothing_pending wanted,
      refl,
      refl,
      refl,
      c.begin.ensures.ok m (length-reverse c.args.self.now.frames.items ∙ count_frames c.args.self.now.frames.items [] s.frames) s.part more refl s.opened
          (c.in_ok-finish_pairs.ensures.ok a l.before rest s.finished (sym s.before) ∙ ap (λ (u : Written). u ∷ rest) (conjunction_is l.before a)),
    )
