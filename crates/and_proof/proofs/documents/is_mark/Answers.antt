use Rattle.std.specs.List.{between}
use Rattle.std.proofs.Common.{length, drop, sym, ◌∙◌, arith, rules, IsTrue}
use Rattle.std.proofs.lemmas.Bool.Decides.{Decides-eqb}
use Rattle.std.proofs.lemmas.Slice.{between_to_end}
use Rattle.std.proofs.lemmas.Slice.Eq.{starts_is}
use Rattle.and_proof.specs.Documents.{mark}
use Rattle.and_proof.proofs.documents.is_mark.Goals as goal

pub returns : goal.returns
returns c =
    let bytes = c.args.bytes.now in
    let place = c.args.place in
    let rest = between_to_end bytes place (length bytes) (omega arith) in
    let tells = starts_is Decides-eqb (between place (length bytes) bytes) mark c.starts_with.result c.starts_with.ensures.value in
    let begun : IsTrue c.begins_line.result = search rules in
    let ended : IsTrue c.ends_line.result = search rules in (
      (λ is. record {
        begins = c.begins_line.ensures.0 begun;
        rest = drop (length mark) (between place (length bytes) bytes);
        reads = sym rest ∙ tells.0 is;
        ends = c.ends_line.ensures.0 ended;
      }),
      (λ m. tells.1 m.rest (rest ∙ m.reads)),
    )
