use Rattle.std.proofs.Common.{refl}
use Rattle.and_clause_index.proofs.looking.asked_marks.Goals as goal

pub returns-then-asked-ne0-clause-tells : goal.returns-then-asked-ne0-clause-tells
returns-then-asked-ne0-clause-tells g c = λ row has s solves. (c.argument_glimpse.ensures.glimpse row has s solves).marks

pub returns-clause-tells : goal.returns-clause-tells
returns-clause-tells g c = λ row has s solves. record {
  own = c.asked_mark-own.ensures.tells row has s solves;
  first = λ some. absurd (some refl);
  second = λ some. absurd (some refl);
}
