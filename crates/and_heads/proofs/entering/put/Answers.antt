use Rattle.std.proofs.Common.{List, [], ◌∷◌, ◌++◌, ap, inr, ◌∙◌}
use Rattle.and_heads.specs.declared.parts.Part.{Part}
use Rattle.and_heads.proofs.entering.put.Goals as goal

pub returns-clause-done : goal.returns-clause-done
returns-clause-done c = λ is.
    let part : Part = record {
      left = record { node = c.in-Node.node; base = c.in-Node.base };
      right = record { node = c.in-Node-other.there; base = c.in-Node-other.by };
    } in
    inr (
      part,
      c.in-Node.is,
      c.in-Node-other.is,
      c.push_reserved.ensures.items ∙ ap (λ (parts : List Part). parts ++ part ∷ []) c.make_room.ensures.items,
    )
