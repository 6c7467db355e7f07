use Rattle.std.proofs.Common.{ℕ, ◌≡◌, arith, length, subst}
use Rattle.std.specs.Option.{IfSome}
use Rattle.and_beginnings.specs.Beginnings.{IsValidTo}
use Rattle.and_reader.specs.Beginning.{IsQueryOf, had_of}
use Rattle.and_reader.proofs.Lifting.{gone_given, line_here}
use Rattle.and_reader.proofs.kept.Beginning.read_on.Goals as goal

pub read_query-requires-clause-line : goal.read_query-requires-clause-line
read_query-requires-clause-line c =
    let front = c.args.self.front in
    let begins = c.begins.ensures c.if-not-begins.false in
    let long : c.len.result ≡ length front.items = omega (arith, c.len.ensures, front.ok.0) in
    line_here c.args.text.now front.items c.len.result c.args.self.line c.args.self.lines begins.0 long

pub returns-in-Some-clause-text : goal.returns-in-Some-clause-text
returns-in-Some-clause-text c = λ begun.
    let text = c.args.text.now in
    let had = had_of c.args.self in
    let front = c.args.self.front in
    let begins = c.begins.ensures c.if-not-begins.false in
    let long : c.len.result ≡ length front.items = omega (arith, c.len.ensures, front.ok.0) in
    let at : (n : ℕ) → n ≡ length had.front → IsValidTo text n → IsValidTo text (length had.front) = λ n same valid. subst (IsValidTo text) same valid in
    let told = c.in_ok-draft.ensures.query begun.whole (λ valid a comes. begun.spelled text (begins.0, at c.len.result long valid) a comes) in
    let asked = subst (λ o. IfSome o (λ d. IsValidTo text c.len.result × IsQueryOf text begun.whole d)) c.in-Some.is told in
    gone_given text had c.in-Some.draft c.put.result (omega (arith, c.if-text-gt-MAX_BYTES.false)) begun (begins.0, at c.len.result long asked.0) asked.1
    c.put.ensures.put
