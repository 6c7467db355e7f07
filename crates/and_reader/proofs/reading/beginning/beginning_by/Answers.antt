use Rattle.std.proofs.Common.{suc, ◌∙◌, ◌≡◌, ap, sym, subst, arith, length, take, get_or, nat_eq, false}
use Rattle.std.specs.Option.{IfSome}
use Rattle.and_model.specs.Lines.{Bytes}
use Rattle.std.proofs.lemmas.List.{length-take}
use Rattle.and_language.specs.Tokens.{newlines}
use Rattle.and_clauses.specs.Asking.{clauses_table}
use Rattle.and_clauses.specs.Views.{table_of}
use Rattle.and_reader.proofs.Onward.{begins_so}
use Rattle.and_reader.proofs.reading.beginning.beginning_by.Goals as goal

pub invariant_of-result : goal.invariant_of-result
invariant_of-result c = record {
  few = omega (arith, ap length c.in_ok-front.ensures.items, length-take c.args.place c.args.reader.bytes.now, c.requires.few, c.requires.within);
  lines = c.line_at-line.ensures ∙ ap (λ xs. suc (newlines xs)) (sym c.in_ok-front.ensures.items);
}

pub returns-in-Some : goal.returns-in-Some
returns-in-Some c = λ bytes valid read.
    let r = c.args.reader in
    let same = read.read.text in
    let P : Bytes → Type 0 = λ b. nat_eq (get_or b c.args.end 0) 46 ≡ false in
    let table = subst (λ o. IfSome o (λ x. clauses_table x ≡ table_of r.table)) c.in-Some.is c.in_ok-clauses.ensures in
    begins_so bytes r c.args.end c.args.place c.in_ok-front.front.items (clauses_table c.in-Some.clauses) read c.requires.whole
    (omega (arith, ap length same, c.requires.within)) c.requires.before (subst P same c.requires.point) valid
    (c.in_ok-front.ensures.items ∙ ap (take c.args.place) same) table
