use Rattle.std.proofs.Common.{◌≡◌, ◌+◌, ap, arith}
use Rattle.and_language.specs.Tokens.{line_at}
use Rattle.and_reader.specs.declared.lines.Cursor.{Cursor}
use Rattle.and_reader.proofs.LineLemmas.{line_at-on, newlines-le}
use Rattle.std.proofs.Common.{take}
use Rattle.std.proofs.lemmas.List.{length-take-le}
use Rattle.and_reader.proofs.lines.Cursor.go_to.Goals as goal

pub overflow_add-self : goal.overflow_add-self
overflow_add-self c =
    let s = c.args.self.now in
    let on = line_at-on c.args.bytes.now s.place c.args.place c.requires.before in
    omega (arith, on, newlines-le (take c.args.place c.args.bytes.now), length-take-le c.args.place c.args.bytes.now, c.requires.line, c.newlines.ensures.count)

pub returns-clause-line : goal.returns-clause-line
returns-clause-line c =
    let s = c.args.self.now in
    let on = line_at-on c.args.bytes.now s.place c.args.place c.requires.before in
    omega (arith, on, c.requires.line, c.newlines.ensures.count)

pub returns-clause-cursor : goal.returns-clause-cursor
returns-clause-cursor c =
    let line : c.args.self.now.line + c.newlines.result ≡ line_at c.args.bytes.now c.args.place = returns-clause-line c in
    ap (λ l. let x : Cursor = record { place = c.args.place; line = l } in x) line
