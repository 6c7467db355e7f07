use Rattle.std.proofs.Common.{Bool, ◌≡◌, ◌++◌, OnOk, refl, sym, ◌∙◌, subst}
use Rattle.and_model.specs.Programs.{Program}
use Rattle.and_program.specs.Loaded.{program_of}
use Rattle.and_proof.specs.Proofs.{goal_text, named_with}
use Rattle.and_proof.proofs.explaining.write_goal.Goals as goal

pub is_alternative-requires : goal.is_alternative-requires
is_alternative-requires g c = let (r, x) = c.requires.call in x.numbered

pub returns-then-is_alternative : goal.returns-then-is_alternative
returns-then-is_alternative g c = λ r x.
    let P : Program = program_of c.args.loaded.now in
    let names = c.args.names.now in
    subst (λ (b : Bool). (names ≡ named_with b names r.call) × (c.append.new.self ≡ c.args.out.now ++ goal_text b P.names names r.call))
    (sym c.if-is_alternative.true ∙ c.is_alternative.ensures) (refl, c.in_ok-append.ensures)

pub returns : goal.returns
returns g c = λ r x.
    let P : Program = program_of c.args.loaded.now in
    let names = c.show_call.new.names in
    subst (λ (b : Bool). OnOk c.show_call.result ((names ≡ named_with b c.args.names.now r.call)
    × (c.show_call.new.out ≡ c.args.out.now ++ goal_text b P.names names r.call)))
    (sym c.if-is_alternative.false ∙ c.is_alternative.ensures) (c.show_call.ensures r x)
