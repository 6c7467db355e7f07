-- What a trial set is taken back.
use Rattle.std.proofs.Common.{ℕ, ◌≡◌, List, [], length, refl, sym, ap, ◌∙◌, subst, inl, inr, arith}
use Rattle.std.proofs.lemmas.List.Elements.{All-contains}
use Rattle.and_model.specs.declared.reference.Ref.{Ref}
use Rattle.and_model.specs.declared.reference.Ref.TheVariants.{Free}
use Rattle.and_cells.specs.Rows.{OnlySet, taken_back}
use Rattle.and_cells.specs.Seen.{word_at}
use Rattle.and_cells.proofs.TakingBack.{took_back}
use Rattle.and_branch_laws.specs.Settling.{widened}
use Rattle.and_branch_laws.proofs.Rows.{widened_words}
use Rattle.and_unify.specs.Setting.{HaveBeenSet}
use Rattle.and_laws.proofs.Ordered.{contains_none}
use Rattle.and_guards.proofs.Listed.{among_or_not}
use Rattle.and_guards.proofs.Widening.{widened_length}

-- What was set behind and in the row, only that was set.
pub only_these : (row wide new : List Ref) (by : ℕ) (cells : List ℕ) → wide ≡ widened row by → HaveBeenSet wide new cells
    → OnlySet cells row new
only_these row wide new by cells is set =
    let word : (place : ℕ) → word_at wide place ≡ word_at row place =
    λ place. ap (λ (r : List Ref). word_at r place) is ∙ widened_words row by place in record {
      longer = let long = widened_length row by in let words = set.words in let same = ap length is in omega arith;
      free = λ cell c low. sym (word cell) ∙ All-contains (λ (x : ℕ). word_at wide x ≡ Free) cells cell set.were_free c;
      others = λ place low. elim (among_or_not cells place) [
        | inl c ↦ inr c
        | inr none ↦ inl (set.others place none ∙ word place)
      ];
    }

-- Where nothing was, nothing is to be taken back.
pub nothing_set : (row new : List Ref) (cells : List ℕ) → cells ≡ [] → new ≡ row → OnlySet cells row new
nothing_set row new cells none same =
    subst (λ (xs : List ℕ). OnlySet xs row new) (sym none) (subst (OnlySet [] row) (sym same) (record {
      longer = omega arith;
      free = λ cell c low. absurd (contains_none cell c);
      others = λ place low. inl refl;
    }))

-- So the row is what it was.
pub back_is : (row new : List Ref) (cells bound : List ℕ) (floor : ℕ) → floor ≡ length row → bound ≡ cells → OnlySet cells row new
    → taken_back new bound floor ≡ row
back_is row new cells bound floor is same only =
    ap (λ (n : ℕ). taken_back new bound n) is ∙ ap (λ (xs : List ℕ). taken_back new xs (length row)) same ∙ took_back row new cells only
