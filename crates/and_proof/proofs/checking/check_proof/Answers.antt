use Rattle.std.proofs.Common.{ℕ, ◌<◌, ◌^◌, List, length, refl, sym, ◌∙◌, subst, arith}
use Rattle.std.specs.Prelude.{IfSome, IsNone}
use Rattle.and_model.specs.Lines.{Bytes}
use Rattle.and_program.specs.Loaded.{program_of}
use Rattle.and_proof.specs.Proofs.{HasProof, ProofText}
use Rattle.and_proof.proofs.Checked.{text_entries, text_has_proof}
use Rattle.and_proof.proofs.OneText.{one_text}
use Rattle.and_proof.proofs.checking.check_proof.Goals as goal

pub returns-in-Some : goal.returns-in-Some
returns-in-Some c =
    let P = program_of c.args.loaded.now in
    let text : Bytes = c.args.text.now in
    let code = c.in_ok-code.code in
    let few : length P.clauses < 2 ^ 16 =
    (let n = c.clause_count-clauses.ensures.count in let m = c.clause_count-clauses.ensures.few in omega (arith, n, m)) in
    let made = subst (λ o. IfSome o (λ (t : Bytes). ProofText P code t)) c.in-Some.is c.in_ok-proof.ensures.some in (
      (λ t. (code, subst (λ (b : Bytes). ProofText P code b) (sym c.bytes.ensures ∙ c.is_same.ensures.0 t) made)),
      (λ (cs, p).
          let (es, has, clauses) = text_entries P cs text few p in
          let same = c.in_ok-code.ensures es has ∙ clauses in
          c.is_same.ensures.1 (c.bytes.ensures ∙ one_text P cs c.in-Some.made text (subst (λ (l : List ℕ). ProofText P l c.in-Some.made) same made) p)),
    )

pub returns : goal.returns
returns c =
    let P = program_of c.args.loaded.now in
    let text : Bytes = c.args.text.now in
    let few : length P.clauses < 2 ^ 16 =
    (let n = c.clause_count-clauses.ensures.count in let m = c.clause_count-clauses.ensures.few in omega (arith, n, m)) in
    let none_is = subst (λ o. IsNone o → HasProof P c.in_ok-code.code → ⊥) c.in-None.is c.in_ok-proof.ensures.none in (
      (λ e. absurd (cc)),
      (λ (cs, p).
          let (es, has, clauses) = text_entries P cs text few p in
          let same = c.in_ok-code.ensures es has ∙ clauses in
          absurd (none_is refl (subst (λ (l : List ℕ). HasProof P l) (sym same) (text_has_proof P cs text p)))),
    )
