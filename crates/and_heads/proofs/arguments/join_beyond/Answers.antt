use Rattle.and_heads.proofs.arguments.join_beyond.Goals as goal

pub is_free-requires : goal.is_free-requires
is_free-requires g c = c.requires.in_range.1
