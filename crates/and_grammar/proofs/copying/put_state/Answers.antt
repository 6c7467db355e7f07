use Rattle.std.proofs.Common.{[], ◌∷◌, ap, sym, subst, OnOk, arith}
use Rattle.std.proofs.lemmas.Fmt.{decimal_digit}
use Rattle.and_model.specs.Lines.{Bytes}
use Rattle.and_syntax.specs.Written.{variable}
use Rattle.and_grammar.specs.Views.{Adds}
use Rattle.and_grammar.proofs.copying.put_state.Goals as goal

pub returns-then-number-lt10 : goal.returns-then-number-lt10
returns-then-number-lt10 c =
    let digit = decimal_digit c.args.number (omega (arith, c.if-number-lt10.true)) in
    subst (λ (x : Bytes). OnOk c.put_variable.result (Adds c.args.out.now c.put_variable.new.out (variable x ∷ [])))
    (sym (ap (λ (ds : Bytes). 255 ∷ ds) digit)) c.put_variable.ensures
