use Rattle.std.proofs.Common.{ℕ, ◌≡◌, ◌<◌, ◌∷◌, [], List, length, get_or, ap, ◌∙◌, inl, inr, arith}
use Rattle.std.proofs.lemmas.Bool.{cases_lt}
use Rattle.std.proofs.lemmas.List.{get_or_append_left, get_or_at, length-append}
use Rattle.and_model.specs.Programs.{clause_at}
use Rattle.and_program.specs.Loaded.{program_of}
use Rattle.and_clause_index.specs.Prints.{print_of, no_print}
use Rattle.and_clause_index.specs.declared.prints.Print.{Print}
use Rattle.and_clause_index.proofs.prints.prints_of.Goals as goal

pub loop-number-preserved : goal.loop-number-preserved
loop-number-preserved c =
    let P = program_of c.args.loaded.now in
    let old = c.loop-number.prints.items in
    let new = c.in_ok-push.ensures.items in
    let number = c.loop-number.number in
    let made = c.node_print.result in
    let is : made ≡ print_of (clause_at P number).head = c.node_print.ensures ∙ ap print_of c.head.ensures.term in
    let many = c.loop-number.invariant.many in
    record {
      many = let e = ap (λ (ps : List Print). length ps) new in let l = length-append old (made ∷ []) in omega arith;
      each = λ k low. ap (λ (ps : List Print). get_or ps k no_print) new ∙ elim (cases_lt k number) [
        | inl before ↦
            let inside : k < length old = omega arith in
            get_or_append_left old (made ∷ []) no_print k inside ∙ c.loop-number.invariant.each k before
        | inr past ↦
            let at : number ≡ k = omega arith in
            get_or_at old made [] no_print k (many ∙ at) ∙ is ∙ ap (λ (n : ℕ). print_of (clause_at P n).head) at
      ];
    }

pub returns : goal.returns
returns c =
    let count = c.clause_count-number-end.ensures.count in
    record {
      many = let m = c.loop-number.invariant.many in omega arith;
      each = λ k low. c.loop-number.invariant.each k (omega arith);
    }
