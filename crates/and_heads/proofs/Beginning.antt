-- How pairs begin that are to be made the same: with one part alone, or with the last of a list of parts.
use Rattle.std.proofs.Common.{ℕ, ◌≡◌, List, [], ◌∷◌, ◌++◌, refl, sym, subst}
use Rattle.std.specs.Prelude.{All}
use Rattle.std.proofs.lemmas.List.Elements.{All-nil}
use Rattle.and_cells.specs.Ranges.{NamedProgram}
use Rattle.and_cells.specs.Seen.{Seen}
use Rattle.and_unify.specs.declared.pairs.Pair.{Pair}
use Rattle.and_unify.specs.Running.{Runs, start}
use Rattle.and_heads.specs.declared.parts.Part.{Part}
use Rattle.and_heads.specs.declared.entering.Entered.{Entered}
use Rattle.and_heads.specs.declared.entering.Entered.TheVariants.{Done}
use Rattle.and_heads.specs.declared.entering.Begun.{Begun}
use Rattle.and_heads.specs.declared.entering.Begun.TheVariants.{At, Ended}
use Rattle.and_heads.specs.Parts.{HasShape, both_of, arguments_of_parts}
use Rattle.and_heads.specs.Entering.{Begins, ComesToParts}
use Rattle.and_heads.proofs.Meeting.{first_steps}
use Rattle.and_heads.proofs.Parting.{whole_put, part_turn}

-- One pair alone, which is a part.
pub begins_alone : (P : NamedProgram) (s : Seen) (todo : List Pair) (parts : List Part) (bound : List ℕ) (part : Part) → todo ≡ both_of part ∷ []
    → parts ≡ [] → HasShape P s.words part → Begins P s s todo parts bound bound (At part)
begins_alone P s todo parts bound part is none shape =
    let p : Pair = both_of part in
    let runs : Runs P s (p ∷ []) bound s (arguments_of_parts P (part ∷ [])) bound =
    first_steps P s s s (p ∷ []) bound bound bound p [] [] (part ∷ []) start (whole_put P s p part [] (part ∷ []) bound refl shape refl) in
    let whole : Begins P s s (p ∷ []) [] bound bound (At part) = (shape, All-nil (HasShape P s.words), runs) in
    subst (λ xs. Begins P s s xs parts bound bound (At part)) (sym is)
    (subst (λ (xs : List Part). Begins P s s (p ∷ []) xs bound bound (At part)) (sym none) whole)

-- The last part of those that were put on the list, if there is one.
pub begins_last : (P : NamedProgram) (old new : Seen) (todo : List Pair) (parts rest : List Part) (bound last : List ℕ) (r : Begun)
    → All (HasShape P old.words) parts → Runs P old todo bound new (arguments_of_parts P parts) last
    → ((part : Part) → r ≡ At part → parts ≡ rest ++ part ∷ [])
    → ((entered : Entered) → r ≡ Ended entered → (entered ≡ Done) × (parts ≡ []) × (rest ≡ []))
    → Begins P old new todo rest bound last r
begins_last P old new todo parts rest bound last (At part) shapes runs at ended =
    let t = part_turn P parts rest part (at part refl) old new todo bound last shapes runs in
    (t.shape, t.shapes, t.runs)
begins_last P old new todo parts rest bound last (Ended entered) shapes runs at ended =
    let (done, none, left) = ended entered refl in
    subst (λ (e : Entered). ComesToParts P old new todo [] bound last e) (sym done)
    (subst (λ (xs : List Part). Runs P old todo bound new (arguments_of_parts P xs) last) none runs)
