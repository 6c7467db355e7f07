use Rattle.std.proofs.Common.{ℕ, ◌≡◌, ◌∙◌, ap, sym, refl}
use Rattle.and_model.specs.Lines.{Bytes}
use Rattle.and_language.specs.Tokens.{line_at}
use Rattle.and_reader.specs.declared.lines.Cursor.{Cursor}
use Rattle.and_reader.proofs.ReadingLemmas.{begun_there, begun_here}
use Rattle.and_reader.proofs.reading.Reader.begin.Goals as goal

pub returns-then-self-clause-begun : goal.returns-then-self-clause-begun
returns-then-self-clause-begun c = λ bytes words h. begun_there bytes c.args.place c.args.self.now words h c.if-self.true

pub returns-clause-begun : goal.returns-clause-begun
returns-clause-begun c = λ bytes words h.
    let at = c.go_to-line.ensures.cursor in
    let here : line_at c.args.self.now.bytes.now c.args.place ≡ line_at bytes c.args.place =
    ap (λ (bs : Bytes). line_at bs c.args.place) h.text in
    begun_here bytes c.args.place c.args.self.now (record c.args.self.now { cursor = c.go_to-line.new.self; clause = c.restart.new.self }) words h
    c.if-self.false refl refl
    (ap (λ (k : Cursor). k.line) at ∙ here ∙ sym (ap (λ (k : Cursor). line_at bytes k.place) at))
    c.restart.ensures.state (c.restart.ensures.line ∙ c.go_to-line.ensures.line ∙ here) (c.restart.ensures.drafted ∙ sym c.restart.ensures.line)
