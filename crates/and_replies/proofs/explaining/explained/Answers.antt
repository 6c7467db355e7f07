use Rattle.std.proofs.Common.{◌≡◌, ◌∙◌, IfOk, false, length, arith, ap, sym, subst}
use Rattle.std.proofs.lemmas.List.{length-map}
use Rattle.and_model.specs.Output.{last_lines}
use Rattle.and_model.specs.Programs.{Program}
use Rattle.and_program.specs.Loaded.{program_of}
use Rattle.and_answers.specs.Kept.{entry_of, finish_of, listed}
use Rattle.and_answers.specs.declared.found.Found.{Found}
use Rattle.and_questions.specs.Explained.{lacking_status}
use Rattle.and_replies.proofs.ExplainLemmas.{has_proof_at, explains, lacks, no_last}
use Rattle.and_replies.proofs.explaining.explained.Goals as goal

pub returns-then-entries-place : goal.returns-then-entries-place
returns-then-entries-place c = λ program limit small lifted finds.
    let P : Program = program_of c.args.loaded.now in
    let same = c.into_parts-found.ensures.found in
    let long : length c.entries.result.now ≡ length (listed c.args.latest) =
    sym (length-map c.entries.result.now entry_of) ∙ ap length (c.entries.ensures ∙ ap listed same) in
    let few = c.if-entries-place.true in
    lacks program P c.args.place limit c.args.bytes.now c.args.latest c.lacking.result lifted finds (omega (arith, long, few))
    (subst (λ (f : Found). IfOk c.lacking.result (λ reply. reply.text ≡ last_lines (finish_of f false))) same c.lacking.ensures.text)
    (subst (λ (f : Found). IfOk c.lacking.result (λ reply. reply.status ≡ lacking_status f.cut)) same c.lacking.ensures.status)

pub document-requires : goal.document-requires
document-requires c =
    let P : Program = program_of c.args.loaded.now in
    let (limit, small, finds) = c.requires.found in
    let long : length c.entries.result.now ≡ length (listed c.args.latest) =
    sym (length-map c.entries.result.now entry_of) ∙ ap length (c.entries.ensures ∙ ap listed c.into_parts-found.ensures.found) in
    let enough = c.if-entries-place.false in
    has_proof_at P c.args.place limit c.args.latest c.in-Some.code c.requires.place c.requires.few (omega (arith, long, enough))
    (sym c.into_parts-found.ensures.code ∙ c.in-Some.is) finds small

pub returns-in-Some : goal.returns-in-Some
returns-in-Some c = λ program limit small lifted finds.
    let P : Program = program_of c.args.loaded.now in
    let long : length c.entries.result.now ≡ length (listed c.args.latest) =
    sym (length-map c.entries.result.now entry_of) ∙ ap length (c.entries.ensures ∙ ap listed c.into_parts-found.ensures.found) in
    let enough = c.if-entries-place.false in
    explains P c.args.place limit c.args.latest c.in-Some.code c.requires.place c.requires.few (omega (arith, long, enough))
    (sym c.into_parts-found.ensures.code ∙ c.in-Some.is) finds program c.args.bytes.now c.in_ok-text-in-Some.text lifted c.in_ok-text-in-Some.ensures

pub returns : goal.returns
returns c = λ program limit small lifted finds.
    let long : length c.entries.result.now ≡ length (listed c.args.latest) =
    sym (length-map c.entries.result.now entry_of) ∙ ap length (c.entries.ensures ∙ ap listed c.into_parts-found.ensures.found) in
    let enough = c.if-entries-place.false in
    let first = c.requires.place in
    no_last (listed c.args.latest) (sym c.into_parts-found.ensures.code ∙ c.in-None.is) (omega (arith, long, enough, first))
