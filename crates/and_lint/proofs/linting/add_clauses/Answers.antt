use Rattle.std.proofs.Common.{◌≡◌, ◌+◌, ◌-◌, ◌<◌, ◌≤◌, ℕ, false, List, ap, sym, subst, arith, get_or, length}
use Rattle.std.specs.List.{flat_map, range_with_len}
use Rattle.and_model.specs.Lines.{Bytes}
use Rattle.and_model.specs.Programs.{Program}
use Rattle.and_program.specs.Loaded.{program_of}
use Rattle.and_lint.specs.Findings.{lines_of}
use Rattle.and_lint.specs.Kept.{Comes}
use Rattle.and_lint.proofs.Adding.{comes_end, comes_first, comes_more, range_more, range_none}
use Rattle.and_lint.proofs.linting.add_clauses.Goals as goal

pub loop-number-init : goal.loop-number-init
loop-number-init c =
    let P : Program = program_of c.args.loaded.now in
    let f : ℕ → List Bytes = lines_of P (λ d. get_or c.args.reached.now d false) in
    let n : ℕ = length P.clauses in
    let all : List Bytes = flat_map f (range_with_len 1 n) in
    let same : n + 1 - 1 ≡ n = omega arith in
    subst (λ (m : ℕ). Comes c.args.findings.now all c.args.findings.now (flat_map f (range_with_len 1 m))) (sym same) (comes_first c.args.findings.now all)

pub loop-number-preserved : goal.loop-number-preserved
loop-number-preserved c =
    let P : Program = program_of c.args.loaded.now in
    let f : ℕ → List Bytes = lines_of P (λ d. get_or c.args.reached.now d false) in
    let n : ℕ = length P.clauses in
    let v : ℕ = c.loop-number.number in
    let below : v < n + 1 = let e = c.clause_count-number-end.ensures.count in let t = c.loop-number-test.true in omega arith in
    comes_more c.args.findings.now c.loop-number.findings c.add_clause.new.findings (flat_map f (range_with_len 1 n))
    (flat_map f (range_with_len v (n + 1 - v))) (f v) (flat_map f (range_with_len (v + 1) (n + 1 - (v + 1)))) c.loop-number.invariant
    (ap (λ (vs : List ℕ). flat_map f vs) (range_more v (n + 1) below)) c.in_ok-add_clause.ensures

pub returns : goal.returns
returns c =
    let P : Program = program_of c.args.loaded.now in
    let f : ℕ → List Bytes = lines_of P (λ d. get_or c.args.reached.now d false) in
    let n : ℕ = length P.clauses in
    let v : ℕ = c.loop-number.number in
    let past : n + 1 ≤ v = let e = c.clause_count-number-end.ensures.count in let t = c.loop-number-test.false in omega arith in
    comes_end c.args.findings.now c.loop-number.findings (flat_map f (range_with_len 1 n)) (flat_map f (range_with_len v (n + 1 - v)))
    c.loop-number.invariant (ap (λ (vs : List ℕ). flat_map f vs) (range_none v (n + 1) past))
