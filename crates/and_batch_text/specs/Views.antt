-- What values of the search for queries stand for.
use Rattle.std.specs.Prelude.{List, map}
use Rattle.and_batch_text.specs.Queries
use Rattle.and_batch_text.specs.Queries.{span}
use Rattle.and_batch_text.specs.declared.span.Span.{Span}
use Rattle.and_batch_text.specs.declared.finding.Place.{Place}
use Rattle.and_batch_text.specs.declared.finding.Place.TheVariants.{Fresh, Inside, Asking}

abbrev pub span_of : Span → Queries.Span
span_of s = span s.start s.end

abbrev pub spans_of : List Span → List Queries.Span
spans_of ss = map span_of ss

abbrev pub place_of : Place → Queries.Place
place_of Fresh = Queries.fresh
place_of Inside = Queries.inside
place_of (Asking start) = Queries.asking start
