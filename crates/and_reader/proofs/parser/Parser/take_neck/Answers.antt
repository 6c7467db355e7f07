use Rattle.std.proofs.Common.{◌≡◌, [], ◌∷◌, refl, sym, ap, ◌∙◌, arith}
use Rattle.std.proofs.lemmas.List.{length-reverse}
use Rattle.and_syntax.specs.Written.{Written}
use Rattle.and_automaton.specs.Machine
use Rattle.and_automaton.specs.Machine.{inside, wanted, nothing_pending, at1100}
use Rattle.and_reader.specs.Views.{neck_of}
use Rattle.and_reader.specs.Standing.{head_in}
use Rattle.and_reader.proofs.StandLemmas.{count_frames, is_head, body_kept, some_frames, no_frames, alternatives_there}
use Rattle.and_reader.proofs.parser.Parser.take_neck.Goals as goal

pub returns-then-is_inside-clause-answer : goal.returns-then-is_inside-clause-answer
returns-then-is_inside-clause-answer c l [] a s =
    absurd (some_frames c.args.self.now.frames.items [] (sym c.if-is_inside.true ∙ c.is_inside.ensures) s.frames refl)
returns-then-is_inside-clause-answer c l (f ∷ fs) a s = refl

pub finish_disjunction-requires : goal.finish_disjunction-requires
finish_disjunction-requires c =
    let q = c.requires in
    alternatives_there c.args.self.now q.0 q.1 q.2 q.3 (no_frames c.args.self.now.frames.items q.1 (sym c.if-is_inside.false ∙ c.is_inside.ensures) q.3.frames)

pub returns-in_ok-finish_disjunction-in-Head-clause-answer : goal.returns-in_ok-finish_disjunction-in-Head-clause-answer
returns-in_ok-finish_disjunction-in-Head-clause-answer c l [] a s =
    let e : l.part ≡ Machine.head = is_head l.part (sym c.in-Head.is ∙ s.part) in
    let h : Written = at1100 l.alternatives l.before a in
    let n = neck_of c.args.neck in
    let m : Machine.Outermost = record { part = Machine.body n h; alternatives = []; before = [] } in (
      inside m [] nothing_pending wanted,
      ap (λ (q : Machine.ClausePart). Machine.take_neck (record { part = q; alternatives = l.alternatives; before = l.before }) [] n a) e,
      refl,
      refl,
      c.begin.ensures.ok m (length-reverse c.args.self.now.frames.items ∙ count_frames c.args.self.now.frames.items [] s.frames)
          (body_kept c.args.neck h) refl refl s.opened
          (c.in_ok-finish_disjunction-in-Head.ensures.ok a l.before l.alternatives (head_in l.part) s.finished (sym s.before) (sym s.alternatives)
          ∙ ap (λ (q : Machine.ClausePart). h ∷ head_in q) e),
    )
returns-in_ok-finish_disjunction-in-Head-clause-answer c l (f ∷ fs) a s =
    absurd (omega (arith, no_frames c.args.self.now.frames.items (f ∷ fs) (sym c.if-is_inside.false ∙ c.is_inside.ensures) s.frames))
