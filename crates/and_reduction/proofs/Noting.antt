-- What is noted of a row, step by step.
use Rattle.std.proofs.Common.{ℕ, ◌+◌, ◌≡◌, ◌<◌, ◌≤◌, inl, inr, List, [], ◌∷◌, ◌++◌, take, length, get_or, Some, refl, sym, ◌∙◌, subst, arith}
use Rattle.std.specs.Prelude.{Contains, Result, Ok, Err, OnOk}
use Rattle.std.proofs.lemmas.List.{take_more}
use Rattle.std.proofs.lemmas.List.Elements.{Contains-append_left, Contains-append_right, Contains-append_cases}
use Rattle.and_model.specs.declared.reference.Ref.{Ref}
use Rattle.and_laws.proofs.Ordered.{contains_cases, contains_none}
use Rattle.and_cells.specs.Rows.{OnlySet}
use Rattle.and_reduction.specs.Trails.{Noted, KeepsNoted, AreNoted}

-- ---- Cells that are noted one by one

-- a list of cells with a mark
abbrev pub noted_below : (mark : ℕ) → List ℕ → Noted
noted_below mark cells = record { mark = Some mark; cells = cells }

pub none_noted : (n : Noted) → AreNoted n n []
none_noted n = record {
  mark = refl;
  stay = λ cell c. c;
  below = λ words cell is c low. absurd (contains_none cell c);
  only = λ cell c. inl c;
}

-- the only cell of such a list
the_only : (x cell : ℕ) → Contains (x ∷ []) cell → cell ≡ x
the_only x cell c = elim (contains_cases x cell [] c) [ inl e ↦ e | inr i ↦ absurd (contains_none cell i) ]

some_mark : (mark words : ℕ) → Some mark ≡ Some words → words ≡ mark
some_mark mark words is = cc

-- One more lies below the mark and is put on the list,
one_noted : (mark : ℕ) (began list cells : List ℕ) (x : ℕ) → AreNoted (noted_below mark began) (noted_below mark list) cells
    → AreNoted (noted_below mark began) (noted_below mark (list ++ x ∷ [])) (cells ++ x ∷ [])
one_noted mark began list cells x are = record {
  mark = refl;
  stay = λ cell c. Contains-append_left list (x ∷ []) cell (are.stay cell c);
  below = λ words cell is c low. elim (Contains-append_cases cells (x ∷ []) cell c) [
    | inl i ↦ Contains-append_left list (x ∷ []) cell (are.below words cell is i low)
    | inr i ↦ Contains-append_right list (x ∷ []) cell i
  ];
  only = λ cell c. elim (Contains-append_cases list (x ∷ []) cell c) [
    | inl i ↦ elim (are.only cell i) [ inl old ↦ inl old | inr new ↦ inr (Contains-append_left cells (x ∷ []) cell new) ]
    | inr i ↦ inr (Contains-append_right cells (x ∷ []) cell i)
  ];
}

-- or lies behind it and is not.
one_passed : (mark : ℕ) (began list cells : List ℕ) (x : ℕ) → mark ≤ x → AreNoted (noted_below mark began) (noted_below mark list) cells
    → AreNoted (noted_below mark began) (noted_below mark list) (cells ++ x ∷ [])
one_passed mark began list cells x behind are = record {
  mark = refl;
  stay = are.stay;
  below = λ words cell is c low. elim (Contains-append_cases cells (x ∷ []) cell c) [
    | inl i ↦ are.below words cell is i low
    | inr i ↦ let this = the_only x cell i in let same = some_mark mark words is in absurd (omega (arith, this, same, low, behind))
  ];
  only = λ cell c. elim (are.only cell c) [ inl old ↦ inl old | inr new ↦ inr (Contains-append_left cells (x ∷ []) cell new) ];
}

module _ (mark : ℕ) (began list cells : List ℕ) (index : ℕ) (low : index < length cells)
    (are : AreNoted (noted_below mark began) (noted_below mark list) (take index cells)) where
  pub next_noted : (new : List ℕ) → new ≡ list ++ get_or cells index 0 ∷ []
      → AreNoted (noted_below mark began) (noted_below mark new) (take (index + 1) cells)
  next_noted new pushed =
      subst (λ (xs : List ℕ). AreNoted (noted_below mark began) (noted_below mark xs) (take (index + 1) cells)) (sym pushed)
      (subst (λ (cs : List ℕ). AreNoted (noted_below mark began) (noted_below mark (list ++ get_or cells index 0 ∷ [])) cs)
      (sym (take_more cells index 0 low)) (one_noted mark began list (take index cells) (get_or cells index 0) are))

  pub next_passed : mark ≤ get_or cells index 0
      → AreNoted (noted_below mark began) (noted_below mark list) (take (index + 1) cells)
  next_passed behind =
      subst (λ (cs : List ℕ). AreNoted (noted_below mark began) (noted_below mark list) cs)
      (sym (take_more cells index 0 low)) (one_passed mark began list (take index cells) (get_or cells index 0) behind are)

-- ---- Steps of a row

-- After a step that set only these, what is noted with those of them below the mark is noted still.
pub step_noted : (old new : Noted) (cells : List ℕ) (before after : List Ref) → AreNoted old new cells → OnlySet cells before after
    → KeepsNoted old new before after
step_noted old new cells before after are step = record {
  mark = are.mark;
  noted = λ first n. record {
    mark = are.mark ∙ n.mark;
    only = record {
      longer = let one = n.only.longer in let two = step.longer in omega arith;
      free = λ cell c low. elim (are.only cell c) [
        | inl i ↦ n.only.free cell i low
        | inr i ↦ elim (n.only.others cell low) [
          | inl same ↦ sym same ∙ step.free cell i (let one = n.only.longer in omega arith)
          | inr noted ↦ n.only.free cell noted low
        ]
      ];
      others = λ place low. elim (step.others place (let one = n.only.longer in omega arith)) [
        | inl same ↦ elim (n.only.others place low) [ inl is ↦ inl (same ∙ is) | inr noted ↦ inr (are.stay place noted) ]
        | inr i ↦ inr (are.below (length first) place n.mark i low)
      ];
    };
  };
}

-- Where nothing was done, all is noted,
pub same_noted : (n : Noted) (row : List Ref) → KeepsNoted n n row row
same_noted n row = record { mark = refl; noted = λ first is. is }

pub unchanged_noted : (n : Noted) (row new : List Ref) → new ≡ row → KeepsNoted n n row new
unchanged_noted n row new is = subst (KeepsNoted n n row) (sym is) (same_noted n row)

pub any_noted : {T E : Type 0} (r : Result T E) (n : Noted) (row new : List Ref) → new ≡ row → OnOk r (KeepsNoted n n row new)
any_noted (Ok x) n row new is = unchanged_noted n row new is
any_noted (Err e) n row new is = tt

-- and two steps are one.
pub both_noted : (a b c : Noted) (first second third : List Ref) → KeepsNoted a b first second → KeepsNoted b c second third
    → KeepsNoted a c first third
both_noted a b c first second third one other = record {
  mark = other.mark ∙ one.mark;
  noted = λ row n. other.noted row (one.noted row n);
}
