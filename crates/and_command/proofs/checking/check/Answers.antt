use Rattle.std.proofs.Common.{rules, ◌≡◌, Some, None, string_bytes, ap, sym, ◌∙◌, refl}
use Rattle.and_command.specs.Checking as specs
use Rattle.and_command.proofs.CheckingLemmas.{goes_to, stops, reads_all}
use Rattle.and_command.proofs.checking.check.Goals as goal

pub checking-init : goal.checking-init
checking-init c = refl

pub returns-in_err-checked : goal.returns-in_err-checked
returns-in_err-checked c =
    let begins : c.closed-checked.result ≡ specs.closed specs.nothing_seen = c.closed-checked.ensures ∙ ap specs.closed c.nothing.ensures in
    let step : specs.next c.args.form c.checking.checked (string_bytes c.word-item.result) ≡ None = ap (specs.next c.args.form c.checking.checked)
    (sym c.deref.ensures) ∙ sym c.next.ensures ∙ c.in_err-checked.was in
    c.from_residual.ensures
    ∙ sym (stops string_bytes c.args.words.now c.checking.word-index c.word-item.result c.args.form c.closed-checked.result c.checking.checked
    c.checking-test.true c.word-item.is begins c.checking.invariant step)

pub checking-preserved : goal.checking-preserved
checking-preserved c =
    let step : specs.next c.args.form c.checking.checked (string_bytes c.word-item.result) ≡ Some c.in_ok-checked.checked = ap
    (specs.next c.args.form c.checking.checked) (sym c.deref.ensures) ∙ sym c.next.ensures ∙ search rules in
    goes_to string_bytes c.args.words.now c.checking.word-index c.word-item.result c.args.form c.closed-checked.result c.checking.checked
    c.in_ok-checked.checked c.checking-test.true c.word-item.is c.checking.invariant step

pub returns-in-None : goal.returns-in-None
returns-in-None c =
    let begins : c.closed-checked.result ≡ specs.closed specs.nothing_seen = c.closed-checked.ensures ∙ ap specs.closed c.nothing.ensures in
    sym (reads_all string_bytes c.args.words.now c.checking.word-index c.args.form c.closed-checked.result c.checking.checked c.checking-test.false
    begins c.checking.invariant
    ∙ ap (λ o. specs.at_end o c.checking.checked.seen) c.in-None.is)

pub returns-in-Some : goal.returns-in-Some
returns-in-Some c =
    let begins : c.closed-checked.result ≡ specs.closed specs.nothing_seen = c.closed-checked.ensures ∙ ap specs.closed c.nothing.ensures in
    sym (reads_all string_bytes c.args.words.now c.checking.word-index c.args.form c.closed-checked.result c.checking.checked c.checking-test.false
    begins c.checking.invariant
    ∙ ap (λ o. specs.at_end o c.checking.checked.seen) c.in-Some.is)
