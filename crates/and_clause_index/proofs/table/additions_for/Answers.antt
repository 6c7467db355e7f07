use Rattle.std.proofs.Common.{◌≡◌, ◌<◌, ◌++◌, ◌∷◌, [], List, length, get_or, take, sym, ap, ◌∙◌, arith}
use Rattle.and_model.specs.Programs.{clause_at}
use Rattle.and_model.specs.declared.numbers.ClauseNo.{ClauseNo}
use Rattle.and_program.specs.Loaded.{program_of}
use Rattle.and_program.specs.declared.node.NodeKind.{NodeKind}
use Rattle.and_first_argument.specs.declared.first_arguments.Addition.{Addition}
use Rattle.and_clause_index.specs.Tables.{first_of, added, additions_of}
use Rattle.and_clause_index.proofs.Additions.{one_added}
use Rattle.and_clause_index.proofs.table.additions_for.Goals as goal

pub loop-clause-preserved : goal.loop-clause-preserved
loop-clause-preserved c =
    let P = program_of c.args.loaded.now in
    let clauses = c.args.clauses.now in
    let i = c.loop-clause.clause-index in
    let clause : ClauseNo = get_or clauses i (record { 0 = 0 }) in
    let low : i < length clauses = omega arith in
    let made : c.addition_of.result ≡ added (first_of (clause_at P clause.0).head) clause =
    c.addition_of.ensures ∙ ap (λ (k : NodeKind). added k clause) (c.first_kind.ensures ∙ ap first_of c.head.ensures.term) in
    c.in_ok-push.ensures.items
    ∙ ap (λ (all : List Addition). all ++ c.addition_of.result ∷ []) c.loop-clause.invariant
    ∙ ap (λ (one : Addition). additions_of P (take i clauses) ++ one ∷ []) made
    ∙ sym (one_added P clauses i (record { 0 = 0 }) low)
