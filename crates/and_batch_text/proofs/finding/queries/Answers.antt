use Rattle.std.proofs.Common.{◌≡◌, length, ap, arith, refl, sym, subst, ◌∙◌}
use Rattle.std.specs.Prelude.{IfSome, Ok}
use Rattle.and_language.specs.Tokens.{Comes, no_more, none_for, one}
use Rattle.and_lex.specs.Views.{answer_of, token_of, fault_of, LiesBetween}
use Rattle.and_batch_text.specs.Views.{place_of, spans_of}
use Rattle.and_batch_text.proofs.Owed.{IsOwed, owed_next, found_all}
use Rattle.and_batch_text.proofs.finding.queries.Goals as goal

pub reading-preserved : goal.reading-preserved
reading-preserved c =
    let i = c.reading.invariant in
    let bytes = c.args.bytes.now in
    let t = c.in-Ok-Some.token in
    let at = c.reading.lexer.place in
    let here = c.in-Ok-Some.field-0-is in
    let come : Comes c.reading.lexer.text at (one (token_of t)) =
    subst (λ o. Comes c.reading.lexer.text at (answer_of (Ok o))) here c.in-Ok-Some.ensures.next in
    let comes : Comes bytes at (one (token_of t)) = subst (λ b. Comes b at (one (token_of t))) i.text come in
    let read : c.next.new.self.place ≡ t.end = subst (λ o. IfSome o (λ t. c.next.new.self.place ≡ t.end)) here c.in-Ok-Some.ensures.read in
    let lies : LiesBetween at (length c.reading.lexer.text) t =
    subst (λ o. IfSome o (LiesBetween at (length c.reading.lexer.text))) here c.in-Ok-Some.ensures.within in
    let taken = c.in_ok-place-in-Ok-Some.ensures in
    let owed = owed_next bytes c.reading.lexer.place (place_of c.reading.place) (place_of c.in_ok-place-in-Ok-Some.place) (spans_of c.reading.spans.items)
    (spans_of c.take.new.spans.items) (token_of t) i.owed comes taken.spans taken.place in record {
      text = c.next.ensures.text ∙ i.text;
      within = (let w = lies.2 in let l = ap length i.text in omega (arith, w, read, l));
      owed = subst (λ p. IsOwed bytes p (place_of c.in_ok-place-in-Ok-Some.place) (spans_of c.take.new.spans.items)) (sym read) owed;
    }

pub returns-in-Ok-None : goal.returns-in-Ok-None
returns-in-Ok-None c =
    let i = c.reading.invariant in
    let bytes = c.args.bytes.now in
    let at = c.reading.lexer.place in
    let come : Comes c.reading.lexer.text at no_more =
    subst (λ o. Comes c.reading.lexer.text at (answer_of (Ok o))) c.in-Ok-None.field-0-is c.in-Ok-None.ensures.next in
    let comes : Comes bytes at no_more = subst (λ b. Comes b at no_more) i.text come in
    found_all c.ended.result (λ v. spans_of v.items) bytes c.reading.lexer.place (place_of c.reading.place) (spans_of c.reading.spans.items)
    no_more i.owed comes
    refl c.ended.ensures

pub returns-in-Err : goal.returns-in-Err
returns-in-Err c =
    let i = c.reading.invariant in
    let bytes = c.args.bytes.now in
    let f = none_for (fault_of c.in-Err.field-0) in
    let comes : Comes bytes c.reading.lexer.place f = subst (λ b. Comes b c.reading.lexer.place f) i.text c.in-Err.ensures.next in
    found_all c.ended-in-Err.result (λ v. spans_of v.items) bytes c.reading.lexer.place (place_of c.reading.place)
    (spans_of c.reading.spans.items) f i.owed comes
    refl c.ended-in-Err.ensures
