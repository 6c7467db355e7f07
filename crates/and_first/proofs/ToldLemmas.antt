-- What is told of entries.
use Rattle.std.proofs.Common.{◌≡◌, Bool, true, false, ◌||◌, ℕ, List, [], ◌∷◌, ◌++◌, length, map, take, refl, sym, ap, ◌∙◌}
use Rattle.std.specs.List.{list_any}
use Rattle.std.proofs.lemmas.List.{length-map, take-map}
use Rattle.and_model.specs.Lines.{Bytes}
use Rattle.and_model.specs.Listing.{Entry}
use Rattle.and_model.specs.Output.{lines_of}
use Rattle.and_answers.specs.Kept.{listed, entry_of, outcome_with}
use Rattle.and_answers.specs.declared.found.Entry as answers
use Rattle.and_answers.specs.declared.found.Found.{Found}
use Rattle.and_first.specs.First.{is_floundered, last_line}
use Rattle.and_first.specs.Steps.{first_entries}
use Rattle.and_first.specs.Telling.{Tells}
use Rattle.and_first.specs.declared.first.End.{End}
use Rattle.and_first.specs.declared.first.First.{First}

floundered_with : (floundered : Bool) (line : Bytes) → is_floundered (outcome_with floundered line) ≡ floundered
floundered_with true line = refl
floundered_with false line = refl

any_floundered : (es : List answers.Entry) → list_any (λ (e : answers.Entry). e.floundered) es
    ≡ list_any (λ (e : Entry). is_floundered e.outcome) (map entry_of es)
any_floundered [] = refl
any_floundered (e ∷ es) =
    ap (λ (b : Bool). b || list_any (λ (e : answers.Entry). e.floundered) es) (sym (floundered_with e.floundered e.line.value))
    ∙ ap (λ (b : Bool). is_floundered (outcome_with e.floundered e.line.value) || b) (any_floundered es)

-- The first of the entries, as they were found.
pub tells : (found : Found) (count : ℕ) (end : End) (all es : List answers.Entry) (first : First) → map entry_of all ≡ listed found
    → es ≡ take count all → first.end ≡ end → first.text ≡ lines_of (first_entries found count) ++ last_line count end → first.lines ≡ length es
    → first.floundered ≡ list_any (λ (e : answers.Entry). e.floundered) es → Tells (first_entries found count) count end first
tells found count end all es first is some end_is text lines floundered =
    let same : map entry_of es ≡ first_entries found count =
    ap (λ (xs : List answers.Entry). map entry_of xs) some ∙ sym (take-map entry_of count all) ∙ ap (λ (xs : List Entry). take count xs) is in
    record {
      end_is = end_is;
      text = text;
      lines = lines ∙ sym (length-map es entry_of) ∙ ap (λ (xs : List Entry). length xs) same;
      floundered = floundered ∙ any_floundered es ∙ ap (λ (xs : List Entry). list_any (λ (e : Entry). is_floundered e.outcome) xs) same;
    }
