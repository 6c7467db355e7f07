-- Lists of what is known grow.
use Rattle.std.proofs.Common.{List, [], ◌++◌, map, append-nil, append_assoc, sym, ap, ◌∙◌}
use Rattle.and_term_rows.specs.Late.{Learnt, known_of, Longer}

pub longer_nothing : (ks : List Learnt) → Longer ks ks
longer_nothing ks = ([], sym (append-nil (map known_of ks)))

pub longer_on : (ks ls ms : List Learnt) → Longer ks ls → Longer ls ms → Longer ks ms
longer_on ks ls ms h k = (h.0 ++ k.0, k.1 ∙ ap (λ l. l ++ k.0) h.1 ∙ append_assoc (map known_of ks) h.0 k.0)
