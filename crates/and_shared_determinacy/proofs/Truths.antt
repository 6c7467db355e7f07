-- What reading and setting makes of what is true.
use Rattle.std.proofs.Common.{ℕ, suc, ◌+◌, ◌*◌, ◌^◌, ◌≡◌, inl, inr, false, true≢false, List, [], map, Option, Some, None, refl, sym, ap, subst, ◌∙◌}
use Rattle.std.specs.Prelude.{Contains}
use Rattle.std.specs.Int.{cast_signed, w64}
use Rattle.std.proofs.lemmas.Option.{none-some, same_Some}
use Rattle.std.proofs.lemmas.List.Elements.{All-contains, Contains-append_left, Contains-append_cases}
use Rattle.and_model.specs.Terms.{Term, Substitution, number}
use Rattle.and_model.specs.Prefixes.{IsPrefix}
use Rattle.and_model.specs.Store.{Known, Setting, is_half}
use Rattle.and_model.specs.declared.reference.Ref.{Ref}
use Rattle.and_model.specs.declared.reference.Ref.TheVariants.{Free, Cell, Node, Number, Half}
use Rattle.and_cells.specs.Ranges.{NamedProgram, IsInRange}
use Rattle.and_cells.specs.Numbers.{bits_of, number_of}
use Rattle.and_cells.specs.Seen.{Seen, Knows, IsAmong, Sets, OnlyReads, LeadsTo, here, onward}
use Rattle.and_cells.specs.Meaning.{Words, number_in}
use Rattle.and_cells.proofs.Among.{among_first, among_map, map_among}
use Rattle.and_shared_determinacy.specs.Truths.{Denotes, IsNamed, IsTrue, AreTrue, LearntAreTrue, AreOne}

-- what is no half has no bits
no_bits : (r : Ref) → is_half r ≡ false → bits_of r ≡ 0
no_bits Free e = refl
no_bits (Cell cell) e = refl
no_bits (Node node base) e = refl
no_bits (Number pair) e = refl
no_bits (Half bits) e = absurd (true≢false e)

-- What holds of all settings that were known, and of all that were learnt, holds of all that are known after looks.
pub reads_hold : (T : ℕ → Ref → Type 0) (old new : Seen) → OnlyReads old new → ((place : ℕ) (r : Ref) → Knows old place r → T place r)
    → ((k : Known) → Contains new.known k → k.is_own ≡ false → T k.setting.place k.setting.value)
    → (place : ℕ) (r : Ref) → Knows new place r → T place r
reads_hold T old new reads are learnt place r knows = by_told old.told refl
  where
    setting : Setting
    setting = record { place = place; value = r }

    in_list : (known : List Known) → old.told ≡ None → Contains (map (λ (k : Known). k.setting) new.known) setting → T place r
    in_list known none has =
        let (k, among, is) = map_among (λ (k : Known). k.setting) setting new.known has in
        elim (Contains-append_cases old.known reads.learnt k (subst (λ (ks : List Known). Contains ks k) reads.gains among)) [
          | inl before ↦ are place r (subst (λ (o : Option (List Ref)). IsAmong o old.known place r) (sym none)
              (subst (Contains (map (λ (k : Known). k.setting) old.known)) is (among_map (λ (k : Known). k.setting) k old.known before)))
          | inr since ↦ (
              let own : k.is_own ≡ false = All-contains (λ (k : Known). k.is_own ≡ false) reads.learnt k reads.none_own since in
              subst (λ (x : Setting). T x.place x.value) is (learnt k among own))
        ]

    by_told : (told : Option (List Ref)) → old.told ≡ told → T place r
    by_told None is = in_list old.known is (subst (λ (o : Option (List Ref)). IsAmong o new.known place r) (reads.told ∙ is) knows)
    by_told (Some row) is =
        are place r (subst (λ (o : Option (List Ref)). IsAmong o old.known place r) (sym is)
        (subst (λ (o : Option (List Ref)). IsAmong o new.known place r) (reads.told ∙ is) knows))

module _ (P : NamedProgram) (w : Words) (t : Substitution) where
  true_bits : (place : ℕ) (r : Ref) → IsTrue P w t place r → bits_of r ≡ bits_of (w place)
  true_bits place r is = elim is.alike [
    | inl same ↦ ap bits_of same
    | inr halves ↦ no_bits r halves.0 ∙ sym (no_bits (w place) halves.1)
  ]

  -- A number that is known is that of the words.
  pub number_is : (s : Seen) (pair : ℕ) (high low : Ref) → AreTrue P w t s → Knows s pair high → Knows s (suc pair) low
      → number_in w pair ≡ number (number_of high low)
  number_is s pair high low are first second =
      ap (λ (b : ℕ). number (cast_signed w64 (2 ^ 32 * b + bits_of (w (suc pair))))) (sym (true_bits pair high (are pair high first)))
      ∙ ap (λ (b : ℕ). number (cast_signed w64 (2 ^ 32 * bits_of high + b))) (sym (true_bits (suc pair) low (are (suc pair) low second)))

  -- What was true of more is true of less.
  pub true_before : (old new : Seen) → ((place : ℕ) (r : Ref) → Knows old place r → Knows new place r) → AreTrue P w t new → AreTrue P w t old
  true_before old new keeps are place r knows = are place r (keeps place r knows)

  pub learnt_before : (old new : Seen) → IsPrefix old.known new.known → LearntAreTrue P w t new → LearntAreTrue P w t old
  learnt_before old new front are k among =
      are k (subst (λ (ks : List Known). Contains ks k) (sym front.1) (Contains-append_left old.known front.0 k among))

  -- Looks keep what is true.
  pub reads_true : (old new : Seen) → OnlyReads old new → AreTrue P w t old → LearntAreTrue P w t new → AreTrue P w t new
  reads_true old new reads are learnt = reads_hold (IsTrue P w t) old new reads are learnt

  -- A setting that is true keeps it too.
  pub sets_true : (old new : Seen) (place : ℕ) (r : Ref) → Sets place r old new → AreTrue P w t old → IsTrue P w t place r → AreTrue P w t new
  sets_true old new place r sets are is p q knows = elim ((sets.adds p q).0 knows) [
    | inl before ↦ are p q before
    | inr last ↦ subst (λ (x : ℕ). IsTrue P w t x q) (sym last.0) (subst (λ (x : Ref). IsTrue P w t place x) (sym last.1) is)
  ]

  -- Chains lead from what has a term to what has the same.
  pub leads_true : (s : Seen) (r q : Ref) (u : Term) → AreTrue P w t s → LeadsTo s r q → Denotes P w t r u → Denotes P w t q u
  leads_true s r q u are (here x) has = has
  leads_true s r q u are (onward cell x y knows rest) has =
      let (v, left, right) = (are cell x knows).one (has.whole cell (among_first cell [])) in
      let same : v ≡ u = same_Some v u (sym left.is ∙ has.is) in
      leads_true s x y u are rest (subst (Denotes P w t x) same right)

-- The ends of two chains have one term where their beginnings have.
pub ends_one : (P : NamedProgram) (w : Words) (t : Substitution) (s : Seen) (l r one other : Ref) → AreTrue P w t s → LeadsTo s l one → LeadsTo s r other
    → AreOne P w t l r → AreOne P w t one other
ends_one P w t s l r one other are left right (u, a, b) =
    (u, leads_true P w t s l one u are left a, leads_true P w t s r other u are right b)

pub one_back : (P : NamedProgram) (w : Words) (t : Substitution) (r q : Ref) → AreOne P w t r q → AreOne P w t q r
one_back P w t r q (u, a, b) = (u, b, a)

-- A reference that has a term is no half.
pub denotes_no_half : (P : NamedProgram) (w : Words) (t : Substitution) (r : Ref) (u : Term) → Denotes P w t r u → is_half r ≡ false
denotes_no_half P w t Free u has = refl
denotes_no_half P w t (Cell cell) u has = refl
denotes_no_half P w t (Node node base) u has = refl
denotes_no_half P w t (Number pair) u has = refl
denotes_no_half P w t (Half bits) u has = absurd (none-some u has.is)

-- A cell that has the term of another reference may be set to that.
pub setting_true : (P : NamedProgram) (w : Words) (t : Substitution) (cell : ℕ) (r : Ref) → IsNamed P r → AreOne P w t (Cell cell) r → IsTrue P w t cell r
setting_true P w t cell r named (u, a, b) = record {
  named = named;
  alike = inr (denotes_no_half P w t r u b, a.whole cell (among_first cell []));
  one = λ no_half. (u, a, b);
}

-- what is in range is no node that is a variable
pub named_in_range : (P : NamedProgram) (words : ℕ) (r : Ref) → IsInRange P words r → IsNamed P r
named_in_range P words r fits node base e = let at : IsInRange P words (Node node base) = subst (IsInRange P words) e fits in at.1
