use Rattle.std.proofs.Common.{◌≡◌, ◌+◌, true, false, [], length, get_or, cond, ap, sym, ◌∙◌, subst}
use Rattle.and_model.specs.Lines.{first_seen, begins_underscore}
use Rattle.and_model.specs.Terms.{variables_of}
use Rattle.and_model.specs.declared.reference.Ref.TheVariants.{Cell}
use Rattle.and_program.specs.Loaded.{program_of}
use Rattle.and_cells.specs.Meaning.{StandsFor}
use Rattle.and_cells.specs.Parts.{named}
use Rattle.and_cells.specs.Ranges.{NamedProgram, IsInRange}
use Rattle.and_print.proofs.Chaining.{query_cell}
use Rattle.and_proof.proofs.explaining.name_value.Goals as goal

pub show_term-requires-clause-in_range : goal.show_term-requires-clause-in_range
show_term-requires-clause-in_range g c =
    let row = c.args.cells.now in
    let (s, gives) = c.requires.gives in
    let means = query_cell (named c.args.loaded.now) row s c.args.number c.from.result gives c.requires.number c.from.ensures in
    subst (λ (Q : NamedProgram). IsInRange Q (length row) (Cell (1 + c.from.result))) (sym c.requires.program) means.in_range

pub show_term-requires-clause-stands : goal.show_term-requires-clause-stands
show_term-requires-clause-stands g c =
    let row = c.args.cells.now in
    let (s, gives) = c.requires.gives in
    let means = query_cell (named c.args.loaded.now) row s c.args.number c.from.result gives c.requires.number c.from.ensures in
    (s [] c.args.number, subst (λ (Q : NamedProgram). StandsFor Q row (Cell (1 + c.from.result)) (s [] c.args.number)) (sym c.requires.program) means.stands)

pub returns-then-begins_underscore : goal.returns-then-begins_underscore
returns-then-begins_underscore g c = λ s gives.
    let name = get_or (program_of c.args.loaded.now).query.written c.args.number [] in
    let begins : begins_underscore name ≡ true =
    ap begins_underscore (sym c.variable_name.ensures) ∙ sym c.begins_underscore.ensures ∙ c.if-begins_underscore.true in
    sym (ap (λ b. cond b c.args.names.now (first_seen c.args.names.now (variables_of (s [] c.args.number)))) begins)

pub returns : goal.returns
returns g c = λ s gives.
    let row = c.args.cells.now in
    let name = get_or (program_of c.args.loaded.now).query.written c.args.number [] in
    let begins : begins_underscore name ≡ false =
    ap begins_underscore (sym c.variable_name.ensures) ∙ sym c.begins_underscore.ensures ∙ c.if-begins_underscore.false in
    let means = query_cell (named c.args.loaded.now) row s c.args.number c.from.result gives c.requires.number c.from.ensures in
    let stands = subst (λ (Q : NamedProgram). StandsFor Q row (Cell (1 + c.from.result)) (s [] c.args.number)) (sym c.requires.program) means.stands in
    (c.in_ok-show_term.ensures (s [] c.args.number) stands).0
    ∙ sym (ap (λ b. cond b c.args.names.now (first_seen c.args.names.now (variables_of (s [] c.args.number)))) begins)
