use Rattle.std.proofs.Common.{◌≡◌, Some, [], ◌∷◌, length, refl, sym, ap, ◌∙◌, arith}
use Rattle.std.specs.Prelude.{codes}
use Rattle.and_model.specs.Lines.{Bytes}
use Rattle.and_syntax.specs.Written.{Written}
use Rattle.and_language.specs.Grammar.{binary, unary, Sort, symbol_of}
use Rattle.and_automaton.specs.Machine
use Rattle.and_automaton.specs.Machine.{over, at1100}
use Rattle.and_drafts.specs.Drafts.{draft_of}
use Rattle.and_reader.specs.Views.{neck_of}
use Rattle.and_reader.specs.Standing.{terms, head_in}
use Rattle.and_reader.proofs.StandLemmas.{is_head, is_body, is_query, no_query_behind, rule_behind, some_frames, no_frames, whole, ended, alternatives_there}
use Rattle.and_reader.proofs.parser.Parser.take_end.Goals as goal

pub returns-then-is_inside-clause-answer : goal.returns-then-is_inside-clause-answer
returns-then-is_inside-clause-answer c l [] a s =
    absurd (some_frames c.args.self.now.frames.items [] (sym c.if-is_inside.true ∙ c.is_inside.ensures) s.frames refl)
returns-then-is_inside-clause-answer c l (f ∷ fs) a s = refl

pub finish_disjunction-requires : goal.finish_disjunction-requires
finish_disjunction-requires c =
    let q = c.requires in
    alternatives_there c.args.self.now q.0 q.1 q.2 q.3 (no_frames c.args.self.now.frames.items q.1 (sym c.if-is_inside.false ∙ c.is_inside.ensures) q.3.frames)

pub finish-requires : goal.finish-requires
finish-requires c =
    let q = c.requires in
    let t = ended c.args.self.now (terms c.finish_disjunction.new.draft) q.0 q.1 q.2 q.3
    (no_frames c.args.self.now.frames.items q.1 (sym c.if-is_inside.false ∙ c.is_inside.ensures) q.3.frames) c.in_ok-finish_disjunction.ensures.ok in
    let e = is_body q.0.part c.in-Body.neck (sym c.in-Body.is ∙ q.3.part) in
    omega (arith, ap length (t ∙ ap (λ (p : Machine.ClausePart). at1100 q.0.alternatives q.0.before q.2 ∷ head_in p) e.1))

pub finish-requires-in-Query : goal.finish-requires-in-Query
finish-requires-in-Query c =
    let q = c.requires in
    let t = ended c.args.self.now (terms c.finish_disjunction.new.draft) q.0 q.1 q.2 q.3
    (no_frames c.args.self.now.frames.items q.1 (sym c.if-is_inside.false ∙ c.is_inside.ensures) q.3.frames) c.in_ok-finish_disjunction.ensures.ok in
    omega (arith, ap length t)

pub returns-in-Head-clause-answer : goal.returns-in-Head-clause-answer
returns-in-Head-clause-answer c l (f ∷ fs) a s =
    absurd (omega (arith, no_frames c.args.self.now.frames.items (f ∷ fs) (sym c.if-is_inside.false ∙ c.is_inside.ensures) s.frames))
returns-in-Head-clause-answer c l [] a s =
    let e : l.part ≡ Machine.head = is_head l.part (sym c.in-Head.is ∙ s.part) in
    let h : Written = at1100 l.alternatives l.before a in
    let t = ended c.args.self.now (terms c.finish_disjunction.new.draft) l [] a s refl c.in_ok-finish_disjunction.ensures.ok in (
      h,
      ap (λ (q : Machine.ClausePart). Machine.take_end (record { part = q; alternatives = l.alternatives; before = l.before }) [] a) e,
      refl,
      whole (draft_of c.finish_disjunction.new.draft).finished h (t ∙ ap (λ (q : Machine.ClausePart). h ∷ head_in q) e),
      λ q. absurd (cc q),
      λ q. absurd (cc q),
    )

pub returns-in_ok-finish-in-Body-clause-answer : goal.returns-in_ok-finish-in-Body-clause-answer
returns-in_ok-finish-in-Body-clause-answer c l (f ∷ fs) a s =
    absurd (omega (arith, no_frames c.args.self.now.frames.items (f ∷ fs) (sym c.if-is_inside.false ∙ c.is_inside.ensures) s.frames))
returns-in_ok-finish-in-Body-clause-answer c l [] a s =
    let n = neck_of c.in-Body.neck in
    let e = is_body l.part c.in-Body.neck (sym c.in-Body.is ∙ s.part) in
    let b : Written = at1100 l.alternatives l.before a in
    let t = ended c.args.self.now (terms c.finish_disjunction.new.draft) l [] a s refl c.in_ok-finish_disjunction.ensures.ok in
    let w : Written = binary (symbol_of n) e.0 b in
    let made = c.in_ok-finish-in-Body.ensures.ok (b ∷ e.0 ∷ []) [] (t ∙ ap (λ (q : Machine.ClausePart). b ∷ head_in q) e.1) refl
    ∙ ap (λ (c : Bytes). binary c e.0 b ∷ []) c.neck_symbol.ensures in (
      w,
      ap (λ (q : Machine.ClausePart). Machine.take_end (record { part = q; alternatives = l.alternatives; before = l.before }) [] a) e.1
          ∙ ap (λ (s : Sort). Some (over s w)) (sym c.neck_sort.ensures),
      refl,
      whole (draft_of c.finish.new.draft).finished w made,
      λ q. absurd (no_query_behind n (sym c.neck_sort.ensures ∙ q)),
      λ q. rule_behind n e.0 b (sym c.neck_sort.ensures ∙ q),
    )

pub returns-in_ok-finish-in-Query-clause-answer : goal.returns-in_ok-finish-in-Query-clause-answer
returns-in_ok-finish-in-Query-clause-answer c l (f ∷ fs) a s =
    absurd (omega (arith, no_frames c.args.self.now.frames.items (f ∷ fs) (sym c.if-is_inside.false ∙ c.is_inside.ensures) s.frames))
returns-in_ok-finish-in-Query-clause-answer c l [] a s =
    let e : l.part ≡ Machine.query = is_query l.part (sym c.in-Query.is ∙ s.part) in
    let b : Written = at1100 l.alternatives l.before a in
    let t = ended c.args.self.now (terms c.finish_disjunction.new.draft) l [] a s refl c.in_ok-finish_disjunction.ensures.ok in
    let w : Written = unary (codes "?-") b in (
      w,
      ap (λ (q : Machine.ClausePart). Machine.take_end (record { part = q; alternatives = l.alternatives; before = l.before }) [] a) e,
      refl,
      whole (draft_of c.finish-in-Query.new.draft).finished w
          (c.in_ok-finish-in-Query.ensures.ok (b ∷ []) [] (t ∙ ap (λ (q : Machine.ClausePart). b ∷ head_in q) e) refl),
      λ _. refl,
      λ q. absurd (cc q),
    )
