-- The status of what a search found.
use Rattle.std.proofs.Common.{◌≡◌, ◌<◌, Bool, true, false, if◌then◌else◌, List, [], ◌∷◌, length, map, ◌||◌, refl, sym, ap, ◌∙◌, arith, Option, Some, None}
use Rattle.std.proofs.Common.{is_some}
use Rattle.std.specs.List.{list_any}
use Rattle.and_model.specs.Lines.{Bytes}
use Rattle.and_model.specs.Listing.{Entry}
use Rattle.and_model.specs.declared.goal
use Rattle.and_answers.specs.Kept.{entry_of, outcome_with}
use Rattle.and_answers.specs.declared.found.Entry as answers
use Rattle.and_first.specs.First.{is_floundered}
use Rattle.and_status.specs.declared.status.Status.TheVariants.{Answers, Floundered}
use Rattle.and_reports.specs.Statuses.{exhausted, has_floundered, status_for}

-- entries have lines that are no answers where the code says so
floundered_with : (floundered : Bool) (line : Bytes) → is_floundered (outcome_with floundered line) ≡ floundered
floundered_with true line = refl
floundered_with false line = refl

pub floundered_kept : (es : List answers.Entry) → list_any (λ (e : answers.Entry). e.floundered) es ≡ has_floundered (map entry_of es)
floundered_kept [] = refl
floundered_kept (e ∷ es) =
    ap (λ (b : Bool). b || list_any (λ (e : answers.Entry). e.floundered) es) (sym (floundered_with e.floundered e.line.value))
    ∙ ap (λ (b : Bool). is_floundered (outcome_with e.floundered e.line.value) || b) (floundered_kept es)

-- the status of entries, as it is found by looks at them
pub status_is : (cut : Option goal.Cut.Cut) (es : List answers.Entry) (ls : List Entry) (b : Bool) → is_some cut ≡ false → 0 < length es
    → map entry_of es ≡ ls → b ≡ list_any (λ (e : answers.Entry). e.floundered) es → (if b then Floundered else Answers) ≡ status_for cut ls
status_is (Some cut) es ls b none some is said = absurd cc
status_is None [] ls b none some is said = absurd (omega arith)
status_is None (e ∷ es) ls b none some is said =
    ap (λ (b : Bool). if b then Floundered else Answers) (said ∙ floundered_kept (e ∷ es)) ∙ ap exhausted is
