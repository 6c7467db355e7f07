use Rattle.std.proofs.Common.{◌≡◌, ◌≤◌, ◌+◌, List, map, sym, ap, subst, ◌∙◌, arith}
use Rattle.and_model.specs.Programs.{clause_at}
use Rattle.and_program.specs.Items.{node_item}
use Rattle.and_program.specs.Skeletons.{node_term, item_of}
use Rattle.and_unify.specs.declared.pairs.Pair.{Pair}
use Rattle.and_cells.specs.Ranges.{NamedProgram}
use Rattle.and_cells.specs.Seen.{OnlyReads}
use Rattle.and_cells.specs.Parts.{part_at}
use Rattle.and_cells.proofs.Chains.{reads_more, reads_nothing}
use Rattle.and_overlay.specs.Overlaid.{seen_over}
use Rattle.and_overlay.specs.Settings.{own_in}
use Rattle.and_shared_determinacy.specs.Matches.{MatchesAll, NeverMatch}
use Rattle.and_clause_index.proofs.ClauseLists.{clause_there}
use Rattle.and_shared_determinacy.proofs.Looked.{apart_none}
use Rattle.and_guards.proofs.Resolved.{resolved_is, falls_in}
use Rattle.and_shared_determinacy.proofs.TrialRanges.{range_more, frame_range, frame_guard, asked_follow}
use Rattle.and_shared_determinacy.proofs.TrialFalls.{asked_are, apart_falls, guard_falls}
use Rattle.and_shared_determinacy.proofs.selecting.try_clause.Goals as goal

pub is_apart-requires : goal.is_apart-requires
is_apart-requires g c =
    let P = g.C.Cells.program in
    let there = clause_there P.program (node_term P.skeleton.nodes c.args.node.0) c.args.clause.0 c.requires.of in
    omega (arith, there, c.requires.table.prints.many)

pub returns-then-is_apart-clause-falls : goal.returns-then-is_apart-clause-falls
returns-then-is_apart-clause-falls g c = λ is.
    apart_none g.C.Cells.program c.args.table.now c.requires.table (g.C.Cells.seen c.args.overlay.now.cells.now) c.args.node.0 c.args.base c.args.look.now
    c.requires.look c.args.clause (sym c.is_apart.ensures ∙ c.if-is_apart.true)

pub returns-then-not-ask-clause-reads : goal.returns-then-not-ask-clause-reads
returns-then-not-ask-clause-reads g c =
    let old = g.C.Cells.seen c.args.overlay.now.cells.now in
    subst (λ x. OnlyReads old (g.C.Cells.seen x)) (sym c.begin_again.ensures.cells) (reads_nothing old)

pub match_all-requires-clause-pairs : goal.match_all-requires-clause-pairs
match_all-requires-clause-pairs g c =
    let P = g.C.Cells.program in
    let l = c.args.loaded.now in
    let skeleton = c.skeleton_is_of_the_program.ensures in
    let fall = falls_in P l c.requires.program skeleton.skeleton.0 in
    let words = c.args.words in
    let first = c.requires.words ∙ sym c.begin_again.ensures.below ∙ c.begin_again.new.self.words in
    let call_is = resolved_is P l c.args.node c.args.base c.resolve-call.result c.requires.program c.resolve-call.ensures in
    let head_at = resolved_is P l c.head.result words c.resolve-head.result c.requires.program c.resolve-head.ensures in
    let asked = asked_are c.ask.new.pairs c.resolve-call.result c.resolve-head.result (part_at P c.args.base c.args.node.0) (part_at P words c.head.result.0)
    (c.ask.ensures c.if-not-ask.false) call_is head_at in
    let head_is = subst (λ (Q : NamedProgram). node_term Q.skeleton.nodes c.head.result.0 ≡ (clause_at Q.program c.args.clause.0).head)
    (sym c.requires.program) c.head.ensures.term in
    let s = (seen_over (g.C.Cells.seen c.begin_again.new.self.cells.now) c.begin_again.new.self.frame
    (own_in g.C.Cells.seen c.begin_again.new.self.scratch.now.settings.items) c.begin_again.new.self.scratch.now.looked.listed) in
    let most : words ≤ s.words = omega (arith, first) in
    let room : words + 256 ≤ s.words = omega (arith, first, c.begin_again.ensures.frame) in
    let short : s.words ≤ 4194560 = omega (arith, first, c.begin_again.ensures.frame, c.requires.short) in
    asked_follow P fall s c.resolve-call.result c.resolve-head.result c.ask.new.pairs c.args.node.0 c.args.base c.head.result.0 words call_is head_at
    (range_more P words s.words c.args.node.0 c.args.base most c.requires.node)
    (frame_range P l c.requires.program skeleton.within skeleton.few s.words words c.head.result.0 c.head.ensures.there room short)
    (c.ask.ensures c.if-not-ask.false)

pub weigh_guard-weighed-requires-clause-in_range :
    goal.weigh_guard-weighed-requires-clause-in_range
weigh_guard-weighed-requires-clause-in_range g c =
    let P = g.C.Cells.program in
    let l = c.args.loaded.now in
    let skeleton = c.skeleton_is_of_the_program.ensures in
    let words = c.args.words in
    let first = c.requires.words ∙ sym c.begin_again.ensures.below ∙ c.begin_again.new.self.words in
    let grew = c.match_all.ensures.grew in
    let many = (g.C.Cells.seen c.match_all.new.cells.cells.now).words + c.match_all.new.cells.frame in
    let room : words + 256 ≤ many = omega (arith, first, grew.only_reads.words, grew.frame, c.begin_again.ensures.frame) in
    let short : many ≤ 4194560 = omega (arith, first, grew.only_reads.words, grew.frame, c.begin_again.ensures.frame, c.requires.short) in
    frame_guard P l c.requires.program skeleton.within skeleton.few many words room short (map node_item c.items-items.result.now) c.items-items.ensures.there

pub returns-in-Same-clause-reads : goal.returns-in-Same-clause-reads
returns-in-Same-clause-reads g c =
    reads_more (g.C.Cells.seen c.args.overlay.now.cells.now) (g.C.Cells.seen c.match_all.new.cells.cells.now)
    (g.C.Cells.seen c.weigh_guard-weighed.new.cells.cells.now)
    (subst (λ x. OnlyReads (g.C.Cells.seen x) (g.C.Cells.seen c.match_all.new.cells.cells.now)) c.begin_again.ensures.cells c.match_all.ensures.grew.only_reads)
    c.weigh_guard-weighed.ensures.grew.only_reads

pub returns-in-Apart-clause-falls : goal.returns-in-Apart-clause-falls
returns-in-Apart-clause-falls g c = λ is.
    let P = g.C.Cells.program in
    let l = c.args.loaded.now in
    let skeleton = c.skeleton_is_of_the_program.ensures in
    let fall = falls_in P l c.requires.program skeleton.skeleton.0 in
    let words = c.args.words in
    let first = c.requires.words ∙ sym c.begin_again.ensures.below ∙ c.begin_again.new.self.words in
    let call_is = resolved_is P l c.args.node c.args.base c.resolve-call.result c.requires.program c.resolve-call.ensures in
    let head_at = resolved_is P l c.head.result words c.resolve-head.result c.requires.program c.resolve-head.ensures in
    let asked = asked_are c.ask.new.pairs c.resolve-call.result c.resolve-head.result (part_at P c.args.base c.args.node.0) (part_at P words c.head.result.0)
    (c.ask.ensures c.if-not-ask.false) call_is head_at in
    let head_is = subst (λ (Q : NamedProgram). node_term Q.skeleton.nodes c.head.result.0 ≡ (clause_at Q.program c.args.clause.0).head)
    (sym c.requires.program) c.head.ensures.term in
    let long = first ∙ sym c.match_all.ensures.grew.only_reads.words in
    let never = subst (λ (ps : List Pair). NeverMatch P ps
    (seen_over (g.C.Cells.seen c.begin_again.new.self.cells.now) c.begin_again.new.self.frame
    (own_in g.C.Cells.seen c.begin_again.new.self.scratch.now.settings.items) c.begin_again.new.self.scratch.now.looked.listed)
    (seen_over (g.C.Cells.seen c.match_all.new.cells.cells.now) c.match_all.new.cells.frame
    (own_in g.C.Cells.seen c.match_all.new.cells.scratch.now.settings.items) c.match_all.new.cells.scratch.now.looked.listed)) asked
    (c.match_all.ensures.apart c.in-Apart.is) in
    apart_falls P fall (g.C.Cells.seen c.begin_again.new.self.cells.now) (g.C.Cells.seen c.match_all.new.cells.cells.now) c.begin_again.new.self.frame
    c.match_all.new.cells.frame (own_in g.C.Cells.seen c.begin_again.new.self.scratch.now.settings.items)
    (own_in g.C.Cells.seen c.match_all.new.cells.scratch.now.settings.items) c.begin_again.new.self.scratch.now.looked.listed
    c.match_all.new.cells.scratch.now.looked.listed
    (record {
      nothing = ap (own_in g.C.Cells.seen) c.begin_again.ensures.settings;
      begun = c.begin_again.new.self.kept;
      begun_coherent = g.met.C.Cells.coherent c.begin_again.new.self.cells.now;
      over = c.match_all.new.cells.kept;
      coherent = g.met.C.Cells.coherent c.match_all.new.cells.cells.now;
      keeps = c.match_all.ensures.grew.only_reads.keeps;
    })
    words c.args.node.0 c.args.base long c.requires.node c.args.clause c.head.result.0 head_is never

pub returns-in-Same-clause-falls : goal.returns-in-Same-clause-falls
returns-in-Same-clause-falls g c = λ is.
    let P = g.C.Cells.program in
    let l = c.args.loaded.now in
    let skeleton = c.skeleton_is_of_the_program.ensures in
    let fall = falls_in P l c.requires.program skeleton.skeleton.0 in
    let words = c.args.words in
    let first = c.requires.words ∙ sym c.begin_again.ensures.below ∙ c.begin_again.new.self.words in
    let call_is = resolved_is P l c.args.node c.args.base c.resolve-call.result c.requires.program c.resolve-call.ensures in
    let head_at = resolved_is P l c.head.result words c.resolve-head.result c.requires.program c.resolve-head.ensures in
    let asked = asked_are c.ask.new.pairs c.resolve-call.result c.resolve-head.result (part_at P c.args.base c.args.node.0) (part_at P words c.head.result.0)
    (c.ask.ensures c.if-not-ask.false) call_is head_at in
    let head_is = subst (λ (Q : NamedProgram). node_term Q.skeleton.nodes c.head.result.0 ≡ (clause_at Q.program c.args.clause.0).head)
    (sym c.requires.program) c.head.ensures.term in
    let one = c.match_all.ensures.grew.only_reads in
    let two = c.weigh_guard-weighed.ensures.grew.only_reads in
    let long = first ∙ sym one.words ∙ sym two.words in
    let matches = subst (λ (ps : List Pair). MatchesAll P ps
    (seen_over (g.C.Cells.seen c.begin_again.new.self.cells.now) c.begin_again.new.self.frame
    (own_in g.C.Cells.seen c.begin_again.new.self.scratch.now.settings.items) c.begin_again.new.self.scratch.now.looked.listed)
    (seen_over (g.C.Cells.seen c.match_all.new.cells.cells.now) c.match_all.new.cells.frame
    (own_in g.C.Cells.seen c.match_all.new.cells.scratch.now.settings.items) c.match_all.new.cells.scratch.now.looked.listed)) asked
    (c.match_all.ensures.same c.in-Same.is) in
    let items = map node_item c.items-items.result.now in
    let body_is = subst (λ (Q : NamedProgram). map (item_of Q.skeleton.nodes) items ≡ (clause_at Q.program c.args.clause.0).body) (sym c.requires.program)
    c.items-items.ensures.body in
    guard_falls P fall (g.C.Cells.seen c.begin_again.new.self.cells.now) (g.C.Cells.seen c.weigh_guard-weighed.new.cells.cells.now)
    c.begin_again.new.self.frame c.weigh_guard-weighed.new.cells.frame (own_in g.C.Cells.seen c.begin_again.new.self.scratch.now.settings.items)
    (own_in g.C.Cells.seen c.weigh_guard-weighed.new.cells.scratch.now.settings.items) c.begin_again.new.self.scratch.now.looked.listed
    c.weigh_guard-weighed.new.cells.scratch.now.looked.listed
    (record {
      nothing = ap (own_in g.C.Cells.seen) c.begin_again.ensures.settings;
      begun = c.begin_again.new.self.kept;
      begun_coherent = g.met.C.Cells.coherent c.begin_again.new.self.cells.now;
      over = c.weigh_guard-weighed.new.cells.kept;
      coherent = g.met.C.Cells.coherent c.weigh_guard-weighed.new.cells.cells.now;
      keeps = λ p r knows. two.keeps p r (one.keeps p r knows);
    })
    words c.args.node.0 c.args.base long c.requires.node c.args.clause c.head.result.0 head_is
    (seen_over (g.C.Cells.seen c.match_all.new.cells.cells.now) c.match_all.new.cells.frame
    (own_in g.C.Cells.seen c.match_all.new.cells.scratch.now.settings.items) c.match_all.new.cells.scratch.now.looked.listed) items body_is matches
    c.weigh_guard-weighed.ensures.reads
    (c.weigh_guard-weighed.ensures.fails (c.outcome.ensures.falls is))
