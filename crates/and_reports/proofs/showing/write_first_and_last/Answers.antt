use Rattle.std.proofs.Common.{◌≡◌, ◌++◌, [], List, length, ap, sym, ◌∙◌, append-nil, arith}
use Rattle.std.proofs.lemmas.List.{length-map, nil_from_length}
use Rattle.and_model.specs.Listing.{Entry, line_of}
use Rattle.and_answers.specs.Kept.{entry_of, listed}
use Rattle.and_reports.specs.Shown.{entry_lines, first_and_last}
use Rattle.and_reports.proofs.ShowingLemmas.{found_ends}
use Rattle.and_reports.proofs.showing.write_first_and_last.Goals as goal

pub returns-then-count-eq0 : goal.returns-then-count-eq0
returns-then-count-eq0 c =
    let text = c.args.text.now in
    let same = sym (length-map c.entries-count.result.now entry_of) ∙ ap (λ (es : List Entry). length es) c.entries-count.ensures in
    let none : listed c.args.found.now ≡ [] = nil_from_length (listed c.args.found.now) (omega (arith, same)) in
    sym (ap (λ (es : List Entry). text ++ first_and_last (entry_lines es)) none ∙ append-nil text)

pub write_line-requires : goal.write_line-requires
write_line-requires c =
    let same = sym (length-map c.entries-count.result.now entry_of) ∙ ap (λ (es : List Entry). length es) c.entries-count.ensures in
    omega (arith, same)

pub write_line-requires-2 : goal.write_line-requires-2
write_line-requires-2 c =
    let same = sym (length-map c.entries-count.result.now entry_of) ∙ ap (λ (es : List Entry). length es) c.entries-count.ensures in
    omega (arith, same)

pub returns : goal.returns
returns c =
    let listing = listed c.args.found.now in
    let same = sym (length-map c.entries-count.result.now entry_of) ∙ ap (λ (es : List Entry). length es) c.entries-count.ensures in
    let long = length-map listing (λ (e : Entry). line_of e.outcome) in
    found_ends (entry_lines listing) _ c.args.text.now _ _ _ _ (omega (arith, same, long)) (omega (arith, same, long))
    c.in_ok-append.ensures c.in_ok-write_line.ensures c.in_ok-append-2.ensures c.in_ok-write_line-2.ensures
