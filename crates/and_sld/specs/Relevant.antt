-- Unifiers that speak of the variables of their two terms alone, as those of a unification algorithm do.
use Rattle.std.specs.Prelude.{ℕ, ◌≡◌, ◌⊎◌, List, ◌∷◌}
use Rattle.and_model.specs.Terms.{Path, Term, Terms, variable, number, compound, none, more, Substitution, apply}
use Rattle.and_model.specs.Programs.{Program, Item, Arithmetic, clause_at}
use Rattle.and_sld.specs.Resolution.{moved, In, Derives, ended, resolved, equated, passes}

abbrev mutual
  -- the variable stands in the term
  pub Has : Path → ℕ → Term → Type 0
  Has q k (variable p j) = (q ≡ p) × (k ≡ j)
  Has q k (number z) = ⊥
  Has q k (compound c ts) = OneHas q k ts

  pub OneHas : Path → ℕ → Terms → Type 0
  OneHas q k none = ⊥
  OneHas q k (more t ts) = Has q k t ⊎ OneHas q k ts

-- The substitution moves no variable but those of the two terms, and what it gives for these has no others.
abbrev pub IsRelevant : Substitution → Term → Term → Type 0
IsRelevant s a b =
    (q : Path) (k : ℕ) → (s q k ≡ variable q k)
    ⊎ ((Has q k a ⊎ Has q k b) × ((p : Path) (j : ℕ) → Has p j (s q k) → Has p j a ⊎ Has p j b))

-- all unifiers of the derivation are so
abbrev pub AreRelevant : {P : Program} {frames : List Path} {passed : List Arithmetic} {goal : List Item}
    {values : List Term} {cs : List ℕ} {left : List Arithmetic} {found : List Term}
    → Derives P frames passed goal values cs left found → Type 0
AreRelevant (ended frames passed values) = Unit {0}
AreRelevant {P} (resolved frames passed g rest values c cs q s left found low high new mgu d) =
    IsRelevant s g (apply (moved q) (clause_at P c).head) × AreRelevant d
AreRelevant (equated frames passed a b rest values cs s left found mgu d) = IsRelevant s a b × AreRelevant d
AreRelevant (passes frames passed a rest values cs left found d) = AreRelevant d

-- The substitution moves no variable but those of these frames, and what it gives for these has no others.
abbrev pub SpeaksOf : List Path → Substitution → Type 0
SpeaksOf frames s =
    (q : Path) (k : ℕ) → (s q k ≡ variable q k) ⊎ (In q frames × ((p : Path) (j : ℕ) → Has p j (s q k) → In p frames))

-- Each unifier speaks of frames that were taken. So the variables of an input clause, whose frame was not, stand
-- nowhere before it, in the unifiers neither: that is section 7 to the letter.
abbrev pub IsStrict : {P : Program} {frames : List Path} {passed : List Arithmetic} {goal : List Item}
    {values : List Term} {cs : List ℕ} {left : List Arithmetic} {found : List Term}
    → Derives P frames passed goal values cs left found → Type 0
IsStrict (ended frames passed values) = Unit {0}
IsStrict (resolved frames passed g rest values c cs q s left found low high new mgu d) =
    SpeaksOf (q ∷ frames) s × IsStrict d
IsStrict (equated frames passed a b rest values cs s left found mgu d) = SpeaksOf frames s × IsStrict d
IsStrict (passes frames passed a rest values cs left found d) = IsStrict d
