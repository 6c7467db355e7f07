-- What a loop over words checks.
use Rattle.std.proofs.Common.{◌≡◌, ℕ, suc, ◌+◌, ◌<◌, ◌≤◌, Bool, false, cond, List, ◌∷◌, map, drop, find, length, Some, None, ap, sym, ◌∙◌, arith}
use Rattle.std.specs.Prelude.{get_or}
use Rattle.std.proofs.Math.Seq.{drop-cons}
use Rattle.std.proofs.lemmas.List.{drop_all}
use Rattle.std.specs.Option.{option_and_then}
use Rattle.and_model.specs.Lines.{Bytes}
use Rattle.and_command.specs.Checking.{nothing_seen, closed, next, check_from, at_end, check}
use Rattle.and_command.specs.declared.forms.Form.{Form}
use Rattle.and_command.specs.declared.checking.Checked.{Checked}

rest_from : {W : Type 0} (words : List W) (i : ℕ) (w : W) → i < length words → w ≡ get_or words i w
    → drop i words ≡ w ∷ drop (i + 1) words
rest_from words i w below is =
    let more : suc i ≡ i + 1 = omega arith in
    drop-cons words i w below ∙ ap (λ x. x ∷ drop (suc i) words) (sym is) ∙ ap (λ j. w ∷ drop j words) more

-- the check goes on with the next word
goes_on : {W : Type 0} (text : W → Bytes) (words : List W) (i : ℕ) (w : W) (form : Form) (start now : Checked) → i < length words → w ≡ get_or words i w
    → check_from form start (map text words) ≡ check_from form now (map text (drop i words))
    → check_from form start (map text words) ≡ option_and_then (λ s. check_from form s (map text (drop (i + 1) words))) (next form now (text w))
goes_on text words i w form start now below is before = before ∙ ap (λ ws. check_from form now (map text ws)) (rest_from words i w below is)

pub goes_to : {W : Type 0} (text : W → Bytes) (words : List W) (i : ℕ) (w : W) (form : Form) (start now then : Checked) → i < length words
    → w ≡ get_or words i w
    → check_from form start (map text words) ≡ check_from form now (map text (drop i words)) → next form now (text w) ≡ Some then
    → check_from form start (map text words) ≡ check_from form then (map text (drop (i + 1) words))
goes_to text words i w form start now then below is before step =
    goes_on text words i w form start now below is before ∙ ap (option_and_then (λ s. check_from form s (map text (drop (i + 1) words)))) step

pub stops : {W : Type 0} (text : W → Bytes) (words : List W) (i : ℕ) (w : W) (form : Form) (start now : Checked) → i < length words
    → w ≡ get_or words i w → start ≡ closed nothing_seen
    → check_from form start (map text words) ≡ check_from form now (map text (drop i words)) → next form now (text w) ≡ None
    → check form (map text words) ≡ None
stops text words i w form start now below is begins before step =
    ap (option_and_then (λ r. at_end r.owed r.seen))
    (ap (λ s. check_from form s (map text words)) (sym begins)
    ∙ goes_on text words i w form start now below is before
    ∙ ap (option_and_then (λ s. check_from form s (map text (drop (i + 1) words)))) step)

pub reads_all : {W : Type 0} (text : W → Bytes) (words : List W) (i : ℕ) (form : Form) (start now : Checked) → length words ≤ i → start ≡ closed nothing_seen
    → check_from form start (map text words) ≡ check_from form now (map text (drop i words)) → check form (map text words) ≡ at_end now.owed now.seen
reads_all text words i form start now above begins before =
    ap (option_and_then (λ r. at_end r.owed r.seen))
    (ap (λ s. check_from form s (map text words)) (sym begins) ∙ before ∙ ap (λ ws. check_from form now (map text ws)) (drop_all i words above))

-- what is not found at a place is looked for behind it
pub find_skips : {X : Type 0} (p : X → Bool) (xs : List X) (i : ℕ) (d : X) → i < length xs → p (get_or xs i d) ≡ false
    → find p (drop i xs) ≡ find p (drop (i + 1) xs)
find_skips p xs i d below other =
    let more : suc i ≡ i + 1 = omega arith in
    ap (find p) (drop-cons xs i d below) ∙ ap (λ b. cond b (Some (get_or xs i d)) (find p (drop (suc i) xs))) other
    ∙ ap (λ j. find p (drop j xs)) more
