-- What can be had again of a branch, after steps.
use Rattle.std.proofs.Common.{ℕ, ◌≡◌, ◌≢◌, ◌⊎◌, inl, inr, List, [], ◌∷◌, ◌++◌, length, append-nil, append_assoc}
use Rattle.std.proofs.Common.{refl, ap, sym, ◌∙◌, subst, arith, take, None}
use Rattle.std.specs.Prelude.{Result, OnOk}
use Rattle.std.proofs.lemmas.List.{take-map}
use Rattle.std.proofs.lemmas.Result.{on_ok_weaker}
use Rattle.std.proofs.Math.Seq.{take-append_seam}
use Rattle.and_model.specs.Prefixes.{IsPrefix}
use Rattle.and_model.specs.Reductions.{Reduction}
use Rattle.and_model.specs.declared.goal
use Rattle.and_model.specs.declared.reference.Ref.{Ref}
use Rattle.and_cells.specs.Ranges.{NamedProgram}
use Rattle.and_cells.specs.Rows.{OnlySet, IsSound, taken_back}
use Rattle.and_cells.proofs.TakingBack.{took_back}
use Rattle.and_code.specs.Written.{written, all_written}
use Rattle.and_reduction.specs.Trails.{Noted, IsNoted, KeepsNoted}
use Rattle.and_branch_parts.specs.Branches.{Held}
use Rattle.and_branch_parts.specs.Origins.{GoesBack, KeepsBack, KeepsWhatIsNoted, GoBackFrom}
use Rattle.and_branch_parts.specs.Making.{noted_from}

-- It is kept by two steps,
pub kept_then : (one two three : Held) → KeepsBack one two → KeepsBack two three → KeepsBack one three
kept_then one two three x y =
    record {
      mark = y.mark ∙ x.mark;
      again = λ first h. y.again first (x.again first h);
      made = x.made ++ y.made;
      grows = y.grows ∙ ap (λ (l : List Reduction). l ++ y.made) x.grows ∙ append_assoc one.reductions x.made y.made;
    }

-- by one that noted what it set, and made reductions,
pub kept_noted : (old new : Held) (made : List Reduction) → new.reductions ≡ old.reductions ++ made
    → KeepsNoted old.trail new.trail old.row new.row → KeepsBack old new
kept_noted old new made e noted = record {
  mark = noted.mark;
  again = λ first x. record {
    row = noted.noted first.row x.row;
    made = x.made ++ made;
    reductions = e ∙ ap (λ (l : List Reduction). l ++ made) x.reductions ∙ append_assoc first.reductions x.made made;
  };
  made = made;
  grows = e;
}

pub noted_nothing : (n : Noted) (row : List Ref) → KeepsNoted n n row row
noted_nothing n row = record { mark = refl; noted = λ first x. x }

-- and where nothing that it rests on is different;
pub kept_same : (old new : Held) → new.row ≡ old.row → new.reductions ≡ old.reductions → new.trail ≡ old.trail → KeepsBack old new
kept_same old new row reductions trail = record {
  mark = ap (λ (n : Noted). n.mark) trail;
  again = λ first x. record {
    row = subst (λ (n : Noted). IsNoted first.row n new.row) (sym trail)
        (subst (λ (l : List Ref). IsNoted first.row old.trail l) (sym row) x.row);
    made = x.made;
    reductions = reductions ∙ x.reductions;
  };
  made = [];
  grows = reductions ∙ sym (append-nil old.reductions);
}

pub kept_nowhere : (b : Held) → KeepsBack b b
kept_nowhere b = kept_same b b refl refl refl

-- also after a call that may be wanting memory.
pub on_ok_kept : {A E : Type 0} (first old now : Held) (r : Result A E) → OnOk r (now ≡ old) → KeepsBack first old → OnOk r (KeepsBack first now)
on_ok_kept first old now r same x = on_ok_weaker r (λ e. subst (λ (b : Held). KeepsBack first b) (sym e) x) same

-- A goal was run.
pub ran_back : {A E : Type 0} (b old : Held) → b ≡ old → (row : List Ref) (trail : Noted) (r : Result A E)
    → OnOk r (KeepsNoted b.trail trail b.row row) → OnOk r (KeepsBack old (record b { row = row; trail = trail }))
ran_back b old e row trail r h =
    let new : Held = record b { row = row; trail = trail } in
    on_ok_weaker r (λ noted. subst (λ (d : Held). KeepsBack d new) e (kept_noted b new [] (sym (append-nil b.reductions)) noted)) h

-- A goal was reduced.
pub reduced_back : (b old : Held) → b ≡ old → (new : Held) (made : Reduction) → new.reductions ≡ b.reductions ++ made ∷ []
    → KeepsNoted b.trail new.trail b.row new.row → KeepsBack old new
reduced_back b old e new made is noted = subst (λ (d : Held). KeepsBack d new) e (kept_noted b new (made ∷ []) is noted)

-- What a branch goes back to, it goes back to after steps, unless nothing is noted any longer.
pub goes_back_on : (first old new : Held) → KeepsWhatIsNoted old new → (old.trail.mark ≡ None) ⊎ GoesBack first old
    → (new.trail.mark ≡ None) ⊎ GoesBack first new
goes_back_on first old new (inl e) x = inl e
goes_back_on first old new (inr k) (inl e) = inl (k.mark ∙ e)
goes_back_on first old new (inr k) (inr x) = inr (k.again first x)

-- It is so of all that branches one behind the other go back to.
pub go_back_on : (old new : Held) (forked : List Held) → KeepsBack old new → GoBackFrom old forked → GoBackFrom new forked
go_back_on old new [] k x = tt
go_back_on old new (first ∷ others) k (x, rest) = (k.again first x, rest)

-- Where something is noted, it goes back.
pub goes_back : (first b : Held) → (b.trail.mark ≡ None) ⊎ GoesBack first b → b.trail.mark ≢ None → GoesBack first b
goes_back first b (inl e) some = absurd (some e)
goes_back first b (inr x) some = x

-- ---- A branch as it begins

nothing_set : (row : List Ref) → OnlySet [] row row
nothing_set row = record {
  longer = omega arith;
  free = λ cell has. let low = has.1 in absurd (omega arith);
  others = λ place below. inl refl;
}

pub goes_nowhere : (first b : Held) → b.row ≡ first.row → b.reductions ≡ first.reductions → b.trail ≡ noted_from first.row
    → GoesBack first b
goes_nowhere first b row reductions e = record {
  row = subst (λ (n : Noted). IsNoted first.row n b.row) (sym e)
      (subst (λ (l : List Ref). IsNoted first.row (noted_from first.row) l) (sym row) (record { mark = refl; only = nothing_set first.row }));
  made = [];
  reductions = reductions ∙ sym (append-nil first.reductions);
}

-- ---- A branch that goes back

-- what the reductions come to, cut off
reductions_again : (rs : List goal.Reduction.Reduction) (firsts made : List Reduction) (count : ℕ) → all_written rs ≡ firsts ++ made
    → length firsts ≡ count → all_written (take count rs) ≡ firsts
reductions_again rs firsts made count e is =
    sym (take-map written count rs)
    ∙ ap (λ (n : ℕ). take n (all_written rs)) (sym is)
    ∙ ap (λ (l : List Reduction). take (length firsts) l) e
    ∙ take-append_seam firsts made

module _ (b old first : Held) (is : b ≡ old) (x : GoesBack first old) where
  -- its row is that of the first branch,
  pub row_again : (cells : List ℕ) (words : ℕ) → cells ≡ b.trail.cells → length first.row ≡ words → taken_back b.row cells words ≡ first.row
  row_again cells words cells_are words_are =
      let noted = x.row in
      let set : cells ≡ old.trail.cells = cells_are ∙ ap (λ (h : Held). h.trail.cells) is in
      ap (λ (h : Held). taken_back h.row cells words) is
      ∙ ap (λ (l : List ℕ). taken_back old.row l words) set
      ∙ ap (λ (n : ℕ). taken_back old.row old.trail.cells n) (sym words_are)
      ∙ took_back first.row old.row old.trail.cells noted.only

  pub row_sound : (P : NamedProgram) (cells : List ℕ) (words : ℕ) → cells ≡ b.trail.cells → length first.row ≡ words → IsSound P first.row
      → IsSound P (taken_back b.row cells words)
  row_sound P cells words cells_are words_are sound =
      subst (λ (l : List Ref). IsSound P l) (sym (row_again cells words cells_are words_are)) sound

  -- and its reductions are,
  pub reductions_back : (rs : List goal.Reduction.Reduction) (count : ℕ) → all_written rs ≡ b.reductions → length first.reductions ≡ count
      → all_written (take count rs) ≡ first.reductions
  reductions_back rs count rs_are count_is =
      reductions_again rs first.reductions x.made count (rs_are ∙ ap (λ (h : Held). h.reductions) is ∙ x.reductions) count_is

-- so that it is the branch that it was, but for the rest.
pub gone_back : (b old first : Held) → b ≡ old → (row : List Ref) (reductions : List Reduction) (trail : Noted) → row ≡ first.row
    → reductions ≡ first.reductions → trail ≡ noted_from first.row → record b { row = row; reductions = reductions; trail = trail }
    ≡ record old { row = first.row; reductions = first.reductions; trail = noted_from first.row }
gone_back b old first e row reductions trail row_is reductions_are trail_is =
    ap (λ (h : Held). record h { row = row; reductions = reductions; trail = trail }) e
    ∙ ap (λ (l : List Ref). record old { row = l; reductions = reductions; trail = trail }) row_is
    ∙ ap (λ (l : List Reduction). record old { row = first.row; reductions = l; trail = trail }) reductions_are
    ∙ ap (λ (n : Noted). record old { row = first.row; reductions = first.reductions; trail = n }) trail_is

-- ---- Whatever the key is

module _ (b keyed : Held) (same : keyed ≡ record b { key = keyed.key }) where
  -- a branch can be had again.
  pub back_by_key : (left : Held) → GoesBack keyed left → GoesBack b left
  back_by_key left x =
      let y = subst (λ (h : Held). GoesBack h left) same x in
      record { row = y.row; made = y.made; reductions = y.reductions }

-- What a key begins with is had again by cutting it off.
pub key_again : (longer key : List ℕ) (n : ℕ) → IsPrefix longer key → length longer ≡ n → take n key ≡ longer
key_again longer key n begins long =
    ap (λ (k : ℕ). take k key) (sym long) ∙ ap (take (length longer)) begins.1 ∙ take-append_seam longer begins.0
