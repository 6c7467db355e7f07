use Rattle.std.proofs.Common.{ℕ, suc, length, ◌≡◌, ◌↔◌, ◌<◌, ◌≤◌, Bool, true, ◌||◌, nat_eq, arith}
use Rattle.std.specs.Prelude.{ltb, ◌&&◌}
use Rattle.std.proofs.lemmas.Result.{IfOk-weaker}
use Rattle.and_model.specs.Programs.{Program}
use Rattle.and_program.specs.Loaded.{program_of}
use Rattle.and_modes.specs.Modes.{Assignment, Wait, query_last, IsSafe, WaitsFirst}
use Rattle.and_modes.specs.Kept.{assignment_of}
use Rattle.and_modes.specs.Waiting.{told, IsVerdictAmong}
use Rattle.and_modes.specs.declared.verdicts.Verdict.{Verdict}
use Rattle.and_modes.specs.declared.verdicts.Verdict.TheVariants.{Safe}
use Rattle.and_modes.proofs.Telling.{below, told_there, none_seen, one_more_seen, clauses_before, query_behind, all_seen, safe_verdict}
use Rattle.and_modes.proofs.Telling.{waits_verdict}
use Rattle.and_modes.proofs.waiting.verdict.Goals as goal
use Rattle.and_modes.proofs.waiting.verdict.Goals.{After-and_clause-2}

pub loop-number-init : goal.loop-number-init
loop-number-init c = none_seen (program_of c.args.loaded.now) (assignment_of c.args.modes.now)

pub and_clause-requires-clause-told : goal.and_clause-requires-clause-told
and_clause-requires-clause-told c =
    told_there (program_of c.args.loaded.now) (assignment_of c.args.modes.now)
    (λ d. ltb 0 d && ltb d c.loop-number.number) c.loop-number.found c.loop-number.invariant

pub loop-number-preserved : goal.loop-number-preserved
loop-number-preserved c =
    let P : Program = program_of c.args.loaded.now in
    let m : Assignment = assignment_of c.args.modes.now in
    one_more_seen P m c.loop-number.number c.in_ok-found.found c.loop-number.auto.number
    (c.in_ok-found.ensures (λ d. ltb 0 d && ltb d c.loop-number.number) c.loop-number.invariant
    (clauses_before P c.loop-number.number c.loop-number.auto.number))

pub and_clause-requires-2-clause-told : goal.and_clause-requires-2-clause-told
and_clause-requires-2-clause-told c =
    told_there (program_of c.args.loaded.now) (assignment_of c.args.modes.now)
    (λ d. ltb 0 d && ltb d c.loop-number.number) c.loop-number.found c.loop-number.invariant

-- what is said of the last call, the query's
abbrev Last : (P : Program) (m : Assignment) (found : Verdict) → Verdict → Type 0
Last P m found v =
    (seen : ℕ → Bool) → IsVerdictAmong P m seen found → ((d : ℕ) → seen d ≡ true → query_last P d < query_last P 0)
    → IsVerdictAmong P m (λ d. seen d || nat_eq d 0) v

-- All clauses were gone through.
past : (c : After-and_clause-2) → suc (length (program_of c.args.loaded.now).clauses) ≤ c.loop-number.number
past c = let counted = c.clause_count-number-end.ensures.count in let f = c.loop-number-test.false in omega arith

few : (c : After-and_clause-2) → c.loop-number.number ≤ suc (length (program_of c.args.loaded.now).clauses)
few c = let counted = c.clause_count-number-end.ensures.count in let f = c.loop-number.auto.number-end in omega arith

pub returns-clause-safe : goal.returns-clause-safe
returns-clause-safe c =
    let P : Program = program_of c.args.loaded.now in
    let m : Assignment = assignment_of c.args.modes.now in
    let n : ℕ = c.loop-number.number in
    let at = (goal.at.returns-clause-safe c).After-and_clause-2 in
    IfOk-weaker c.and_clause-2.result (λ (v : Verdict). Last P m c.loop-number.found v) (λ (v : Verdict). v ≡ Safe ↔ IsSafe P m)
    (λ v last. safe_verdict P m (λ d. below n d || nat_eq d 0) v (all_seen P n (past at))
    (last (below n) c.loop-number.invariant (λ d seen. query_behind P n d (few at) seen)))
    c.and_clause-2.ensures

pub returns-clause-waits : goal.returns-clause-waits
returns-clause-waits c =
    let P : Program = program_of c.args.loaded.now in
    let m : Assignment = assignment_of c.args.modes.now in
    let n : ℕ = c.loop-number.number in
    let at = (goal.at.returns-clause-waits c).After-and_clause-2 in
    IfOk-weaker c.and_clause-2.result (λ (v : Verdict). Last P m c.loop-number.found v)
    (λ (v : Verdict). (w : Wait) → v ≡ told w ↔ WaitsFirst P m w)
    (λ v last. waits_verdict P m (λ d. below n d || nat_eq d 0) v (all_seen P n (past at))
    (last (below n) c.loop-number.invariant (λ d seen. query_behind P n d (few at) seen)))
    c.and_clause-2.ensures
