use Rattle.std.proofs.Common.{IsTrue, ◌≤◌, ◌∙◌, ap, sym, refl, arith, length, subst}
use Rattle.std.specs.Option.{IfSome}
use Rattle.and_language.specs.Tokens.{line_at}
use Rattle.and_language.specs.Grammar.{Sort, Statement}
use Rattle.and_language.specs.Refusals.{Refusal, IsRefused}
use Rattle.and_clauses.specs.Views.{table_of, is_query}
use Rattle.and_translation.specs.Bodies.{is_rule}
use Rattle.and_reader.specs.declared.refusal.ReadRefusal.{ReadRefusal}
use Rattle.and_reader.specs.Causes.{cause_of, refusal_of, refusal_with}
use Rattle.and_reader.specs.Reading.{first_place, IsFaultOf}
use Rattle.and_model.specs.Lines.{Bytes}
use Rattle.and_reader.specs.declared.state.Next.{Next}
use Rattle.and_reader.specs.Views.{word_of, sort_of}
use Rattle.and_reader.specs.declared.state.Next.TheVariants.{Inside, Over}
use Rattle.and_reader.proofs.TermLemmas.{on_ok}
use Rattle.and_reader.proofs.ReadingLemmas.{read_more, read_over, clause_refused, word_refused}
use Rattle.and_reader.proofs.Told.{answer_told, refusal_told}
use Rattle.and_reader.proofs.reading.Reader.take.Goals as goal
use Rattle.and_model.specs.declared.limits.TheConstants.{MAX_BYTES}

pub take-requires-clause-stands : goal.take-requires-clause-stands
take-requires-clause-stands c = let h = c.begin.ensures.begun c.requires.read.0 c.requires.read.1 c.requires.read.2 in (h.rest.state, h.rest.stands)

pub finish-requires-clause-whole : goal.finish-requires-clause-whole
finish-requires-clause-whole c =
    let h = c.begin.ensures.begun c.requires.read.0 c.requires.read.1 c.requires.read.2 in
    let n : Next = Over c.in-Ok-Over.sort in
    let a = answer_told h.rest.state (word_of c.args.word) c.take.new.self.parser c.in-Ok-Over.field-0 n c.in-Ok-Over.field-0-is
    (c.in-Ok-Over.ensures.answer h.rest.state h.rest.stands) in
    ap length a.2

pub finish-requires-clause-query : goal.finish-requires-clause-query
finish-requires-clause-query c = λ q.
    let h = c.begin.ensures.begun c.requires.read.0 c.requires.read.1 c.requires.read.2 in
    let n : Next = Over c.in-Ok-Over.sort in
    let a = answer_told h.rest.state (word_of c.args.word) c.take.new.self.parser c.in-Ok-Over.field-0 n c.in-Ok-Over.field-0-is
    (c.in-Ok-Over.ensures.answer h.rest.state h.rest.stands) in
    subst (λ ws. IsTrue (is_query ws)) (sym a.2) (a.3 q)

pub finish-requires-clause-rule : goal.finish-requires-clause-rule
finish-requires-clause-rule c = λ q.
    let h = c.begin.ensures.begun c.requires.read.0 c.requires.read.1 c.requires.read.2 in
    let n : Next = Over c.in-Ok-Over.sort in
    let a = answer_told h.rest.state (word_of c.args.word) c.take.new.self.parser c.in-Ok-Over.field-0 n c.in-Ok-Over.field-0-is
    (c.in-Ok-Over.ensures.answer h.rest.state h.rest.stands) in
    subst (λ ws. IsTrue (is_rule ws)) (sym a.2) (a.4 q)

pub at-requires : goal.at-requires
at-requires c =
    let h = c.begin.ensures.begun c.requires.read.0 c.requires.read.1 c.requires.read.2 in
    omega (arith, ap length h.text, ap length c.requires.read.2.text, c.requires.few)

pub returns-in-Ok-Inside-clause-taken : goal.returns-in-Ok-Inside-clause-taken
returns-in-Ok-Inside-clause-taken c = λ bytes words r.
    let h = c.begin.ensures.begun bytes words r in
    let a = answer_told h.rest.state (word_of c.args.word) c.take.new.self.parser c.in-Ok-Inside.field-0 Inside c.in-Ok-Inside.field-0-is
    (c.in-Ok-Inside.ensures.answer h.rest.state h.rest.stands) in
    read_more bytes c.args.place c.begin.new.self c.begin.new.self.clause c.take.new.self words
    (word_of c.args.word) h a.0 a.1 a.2 a.3 c.in-Ok-Inside.ensures.line c.in-Ok-Inside.ensures.drafted

pub returns-in-Ok-Over-clause-taken : goal.returns-in-Ok-Over-clause-taken
returns-in-Ok-Over-clause-taken c = λ bytes words r.
    let h = c.begin.ensures.begun bytes words r in
    let n : Next = Over c.in-Ok-Over.sort in
    let q : Sort = sort_of c.in-Ok-Over.sort in
    let a = answer_told h.rest.state (word_of c.args.word) c.take.new.self.parser c.in-Ok-Over.field-0 n c.in-Ok-Over.field-0-is
    (c.in-Ok-Over.ensures.answer h.rest.state h.rest.stands) in
    let s : Statement = record { sort = q; term = a.0; place = first_place h.begun c.args.place } in
    let drafted = c.in-Ok-Over.ensures.drafted ∙ (h.rest.drafted ∙ h.rest.line) in
    on_ok c.finish.result
    (λ f. read_over bytes c.args.place c.begin.new.self c.finish.new.self c.begin.new.self.clause words (word_of c.args.word) q a.0 h a.1
    c.finish.ensures.text c.finish.ensures.cursor c.finish.ensures.kept f.0 f.1)
    (c.finish.ensures.added bytes s (record { kind = refl; term = a.2; line = drafted }))

pub returns-in-Ok-Over-clause-refused : goal.returns-in-Ok-Over-clause-refused
returns-in-Ok-Over-clause-refused c = λ bytes words next r w.
    let h = c.begin.ensures.begun bytes words r in
    let n : Next = Over c.in-Ok-Over.sort in
    let q : Sort = sort_of c.in-Ok-Over.sort in
    let a = answer_told h.rest.state (word_of c.args.word) c.take.new.self.parser c.in-Ok-Over.field-0 n c.in-Ok-Over.field-0-is
    (c.in-Ok-Over.ensures.answer h.rest.state h.rest.stands) in
    let s : Statement = record { sort = q; term = a.0; place = first_place h.begun c.args.place } in
    let drafted = c.in-Ok-Over.ensures.drafted ∙ (h.rest.drafted ∙ h.rest.line) in
    let P : Refusal → Type 0 = IsRefused bytes in
    let small : length bytes ≤ MAX_BYTES = omega (arith, ap length r.text, c.requires.few) in
    refusal_told (IsFaultOf bytes (table_of c.begin.new.self.table) s) P c.finish.result
    (λ x f. subst P (sym f.2)
    (clause_refused bytes c.args.place c.begin.new.self c.begin.new.self.clause words (word_of c.args.word) next q a.0 h a.1 small w f.0 f.1))
    (c.finish.ensures.refused bytes s (record { kind = refl; term = a.2; line = drafted }) (c.in-Ok-Over.ensures.line ∙ h.rest.line))

pub returns-in-Err-clause-refused : goal.returns-in-Err-clause-refused
returns-in-Err-clause-refused c = λ bytes words next r w.
    let h = c.begin.ensures.begun bytes words r in
    let a = c.in-Err.ensures.answer h.rest.state h.rest.stands in
    let small : length bytes ≤ MAX_BYTES = omega (arith, ap length r.text, c.requires.few) in
    let told = word_refused bytes c.args.place c.begin.new.self c.begin.new.self.clause words (word_of c.args.word) next h c.in-Err.cause a small w in
    let P : ReadRefusal → Type 0 = λ e. IfSome (refusal_of e) (IsRefused bytes) in
    let Q : Bytes → Type 0 = λ bs. IfSome (refusal_with (line_at bs c.args.place) (cause_of c.in-Err.cause)) (IsRefused bytes) in
    subst P (sym c.at.ensures) (subst Q (sym h.text) told)
