-- Lines one after the other.
use Rattle.std.proofs.Common.{◌≡◌, ◌<◌, ◌+◌, ℕ, Bool, true, false, List, [], ◌∷◌, ◌++◌, length, map, get_or, drop, refl, ap, sym, ◌∙◌}
use Rattle.std.proofs.lemmas.List.{append_assoc, drop_more}
use Rattle.and_model.specs.Lines.{Bytes}
use Rattle.and_model.specs.Listing.{line_of}
use Rattle.and_model.specs.Output.{lines_of}
use Rattle.and_answers.specs.Kept.{entry_of, outcome_with}
use Rattle.and_answers.specs.declared.found.Entry.{Entry}

line_of-outcome_with : (floundered : Bool) (line : Bytes) → line_of (outcome_with floundered line) ≡ line
line_of-outcome_with true line = refl
line_of-outcome_with false line = refl

-- one line more
pub lines_step : (entries : List Entry) (i : ℕ) (d : Entry) (text new total : Bytes) → i < length entries
    → new ≡ text ++ (get_or entries i d).line.value ++ 10 ∷ []
    → text ++ lines_of (map entry_of (drop i entries)) ≡ total → new ++ lines_of (map entry_of (drop (i + 1) entries)) ≡ total
lines_step entries i d text new total below is so_far =
    let entry : Entry = get_or entries i d in
    let rest : Bytes = lines_of (map entry_of (drop (i + 1) entries)) in
    let first : lines_of (map entry_of (drop i entries)) ≡ entry.line.value ++ 10 ∷ rest =
    ap (λ (es : List Entry). lines_of (map entry_of es)) (drop_more entries i d below)
    ∙ ap (λ (line : Bytes). line ++ 10 ∷ rest) (line_of-outcome_with entry.floundered entry.line.value) in
    ap (λ (bytes : Bytes). bytes ++ rest) is ∙ append_assoc (text ++ entry.line.value) (10 ∷ []) rest ∙ append_assoc text entry.line.value (10 ∷ rest)
    ∙ ap (λ (bytes : Bytes). text ++ bytes) (sym first) ∙ so_far
