use Rattle.std.proofs.Common.{◌≡◌, false, ◌∷◌, Option, Some, None, refl, sym, ap, ◌∙◌, arith}
use Rattle.std.specs.Option.{is_some}
use Rattle.and_automaton.specs.Machine.{Half, inside, wanted, at500}
use Rattle.and_reader.specs.Standing.{waiting, with_left}
use Rattle.and_reader.proofs.StandLemmas.{none_is, named_none}
use Rattle.and_reader.proofs.parser.Parser.take_relation.Goals as goal

pub returns-clause-answer : goal.returns-clause-answer
returns-clause-answer c l fs p w s =
    let q = c.args.self.now.pending.relation in
    let missing : is_some q ≡ false = sym c.is_some.ensures ∙ c.if-is_some.false in
    let free : p.relation ≡ None = named_none p.relation (none_is q missing ∙ s.pending.relation) in
    let b = c.args.name.now in (
      inside l fs (record { relation = Some (record { left = at500 p w; operator = b }); sum = None; product = None; minuses = 0 }) wanted,
      ap (λ (r : Option Half).
          elim r [
            | None ↦ Some (inside l fs (record { relation = Some (record { left = at500 p w; operator = b }); sum = None; product = None; minuses = 0 })
                wanted)
            | Some h ↦ None
          ]) free,
      refl,
      refl,
      (
        refl,
        record {
          part = s.part;
          alternatives = s.alternatives;
          before = s.before;
          frames = s.frames;
          pending = record { relation = refl; sum = refl; product = refl; minuses = refl };
          opened = s.opened;
          nesting = omega (arith, s.nesting);
          finished = c.in_ok-finish_sum.ensures.ok p w (waiting l fs) s.pending s.finished
              ∙ ap (λ (r : Option Half). at500 p w ∷ with_left r (waiting l fs)) free;
        },
      ),
    )
