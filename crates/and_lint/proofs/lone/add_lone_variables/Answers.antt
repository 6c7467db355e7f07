use Rattle.std.proofs.Common.{◌≡◌, ◌+◌, ◌-◌, ◌<◌, ◌≤◌, ℕ, List, ap, sym, subst, arith, replicate}
use Rattle.std.specs.List.{flat_map, range_with_len}
use Rattle.std.proofs.lemmas.List.{length-replicate}
use Rattle.and_model.specs.Lines.{Bytes}
use Rattle.and_model.specs.Programs.{Clause, clause_at}
use Rattle.and_program.specs.Loaded.{program_of}
use Rattle.and_lint.specs.Findings.{once_lines_of}
use Rattle.and_lint.specs.Kept.{Comes, IsCountOf}
use Rattle.and_lint.proofs.Adding.{comes_end, comes_first, comes_more, range_more, range_none}
use Rattle.and_lint.proofs.Counts.{counts_tell, zeros}
use Rattle.and_lint.proofs.lone.add_lone_variables.Goals as goal

pub loop-variable-init : goal.loop-variable-init
loop-variable-init c =
    let k : Clause = clause_at (program_of c.args.loaded.now) c.args.no.0 in
    let all : List Bytes = flat_map (once_lines_of k c.args.variables.now) (range_with_len 0 k.variables) in
    let same : k.variables - 0 ≡ k.variables = omega arith in
    subst (λ (n : ℕ). Comes c.args.findings.now all c.args.findings.now (flat_map (once_lines_of k c.args.variables.now) (range_with_len 0 n))) (sym same)
    (comes_first c.args.findings.now all)

pub loop-variable-preserved : goal.loop-variable-preserved
loop-variable-preserved c =
    let k : Clause = clause_at (program_of c.args.loaded.now) c.args.no.0 in
    let v : ℕ = c.loop-variable.variable in
    let n : ℕ = k.variables in
    let below : v < n = let e = c.variables-variable-end.ensures in let t = c.loop-variable-test.true in omega arith in
    let f : ℕ → List Bytes = once_lines_of k c.args.variables.now in
    let told : IsCountOf c.count_variables.new.counts c.args.variables.now =
    counts_tell (replicate 256 0) c.count_variables.new.counts c.args.variables.now (length-replicate {A = ℕ} 256 0) (zeros 256) c.count_variables.ensures in
    comes_more c.args.findings.now c.loop-variable.findings c.look_at_variable.new.findings (flat_map f (range_with_len 0 n))
    (flat_map f (range_with_len v (n - v))) (f v) (flat_map f (range_with_len (v + 1) (n - (v + 1)))) c.loop-variable.invariant
    (ap (λ (vs : List ℕ). flat_map f vs) (range_more v n below)) (c.in_ok-look_at_variable.ensures c.args.variables.now told)

pub returns : goal.returns
returns c =
    let k : Clause = clause_at (program_of c.args.loaded.now) c.args.no.0 in
    let v : ℕ = c.loop-variable.variable in
    let n : ℕ = k.variables in
    let past : n ≤ v = let e = c.variables-variable-end.ensures in let t = c.loop-variable-test.false in omega arith in
    let f : ℕ → List Bytes = once_lines_of k c.args.variables.now in
    comes_end c.args.findings.now c.loop-variable.findings (flat_map f (range_with_len 0 n)) (flat_map f (range_with_len v (n - v)))
    c.loop-variable.invariant (ap (λ (vs : List ℕ). flat_map f vs) (range_none v n past))
