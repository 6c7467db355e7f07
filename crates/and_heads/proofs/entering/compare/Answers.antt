use Rattle.std.proofs.Common.{ℕ, Some, ap, refl, ◌∙◌}
use Rattle.and_cells.specs.Rows.{plain}
use Rattle.and_heads.proofs.Comparing.{compared_apart, compared_alike, put_so}
use Rattle.and_unify.proofs.MeetingSteps.{whole_in_range}
use Rattle.and_heads.proofs.entering.compare.Goals as goal

pub returns-in-None : goal.returns-in-None
returns-in-None g c = λ bound.
    let parts = c.args.parts.now.items in
    compared_apart g.N.Naming.program (plain c.args.cells.now) c.args.one c.args.other parts parts bound c.in-Some.first c.in-Some-head_at.second
    c.in-Some.ensures.head c.in-Some-head_at.ensures.head (c.arguments_of_both.ensures.differ c.in-None.is)

pub returns-in-Some-eq0 : goal.returns-in-Some-eq0
returns-in-Some-eq0 g c = λ bound.
    let P = g.N.Naming.program in
    let s = plain c.args.cells.now in
    let parts = c.args.parts.now.items in
    let left = whole_in_range P s.words c.args.one c.in-Some.ensures.whole c.requires.one_in_range in
    let right = whole_in_range P s.words c.args.other c.in-Some-head_at.ensures.whole c.requires.other_in_range in
    let both = c.arguments_of_both.ensures.same 0 (c.in-Some-eq0.is ∙ ap (λ (n : ℕ). Some n) c.in-Some-eq0.field-0-test) in
    compared_alike P s c.args.one c.args.other parts parts bound c.in-Some.first c.in-Some-head_at.second c.in-Some.ensures.head
    c.in-Some-head_at.ensures.head both.0 left right both.1 refl

pub returns-in-Some-arguments_of_both : goal.returns-in-Some-arguments_of_both
returns-in-Some-arguments_of_both g c = λ bound.
    let P = g.N.Naming.program in
    let s = plain c.args.cells.now in
    let count = c.in-Some-arguments_of_both.field-0 in
    let left = whole_in_range P s.words c.args.one c.in-Some.ensures.whole c.requires.one_in_range in
    let right = whole_in_range P s.words c.args.other c.in-Some-head_at.ensures.whole c.requires.other_in_range in
    let both = c.arguments_of_both.ensures.same count c.in-Some-arguments_of_both.is in
    put_so P s c.args.one c.args.other c.args.parts.now.items c.put.new.parts.items bound c.in-Some.first c.in-Some-head_at.second c.in-Some.ensures.head
    c.in-Some-head_at.ensures.head both.0 left right count both.1 c.in-Some-arguments_of_both.field-0-test.1 c.put.result c.put.ensures.done c.put.ensures.apart
