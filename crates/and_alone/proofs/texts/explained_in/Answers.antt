use Rattle.and_alone.proofs.texts.explained_in.Goals as goal

pub explained-requires : goal.explained-requires
explained-requires g c = record {
  place = c.requires.place;
  few = c.in_ok-latest.ensures.few;
  found = (c.args.limit, c.requires.limited, c.in_ok-latest.ensures.first);
}

pub returns : goal.returns
returns g c = λ program lifted.
    c.explained.ensures program c.args.limit c.requires.limited lifted c.in_ok-latest.ensures.first
