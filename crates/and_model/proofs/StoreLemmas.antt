-- What follows from the row of a store: what a pass knows is so in the row, and no word is set by two passes.
use Rattle.std.proofs.Common.{ℕ, zero, suc, ◌≡◌, ◌≢◌, ◌+◌, Bool, true, false, cond, List, [], ◌∷◌, ◌++◌, map, length, get_or, refl, sym, ap, subst, ◌∙◌, ◌⊎◌}
use Rattle.std.proofs.Common.{inl, inr, arith}
use Rattle.std.specs.Prelude.{AllPairs, Contains, nat_eq}
use Rattle.std.proofs.lemmas.Bool.Decides.{Decides-eqb}
use Rattle.std.proofs.lemmas.List.{map-append, get_or_append_left, get_or-append-add, length-append, length-map, get_or-map, get_or_default}
use Rattle.std.proofs.lemmas.List.Elements.{All-contains, Contains-append_left, Contains-append_right, Contains-append_cases}
use Rattle.std.proofs.lemmas.Grind.{flat_map-append}
use Rattle.and_model.specs.declared.reference.Ref.{Ref}
use Rattle.and_model.specs.Store.{Setting, JournalEntry, sets, gives, fails, hangs, Known, Pass, settings_of, entries_by, set_in, mark, AreDistinct, Fits, Row}
use Rattle.and_model.proofs.Tested.{none_in}

pub known_in_row : (first : List Ref) (passes : List Pass) (journal : List JournalEntry) (row : List Ref) → Row first passes journal row
    → (p : Pass) → Contains passes p → (k : Known) → Contains p.known k → Contains (set_in row) k.setting
known_in_row first passes journal row holds p there k knows =
    let fits : Fits first (mark first passes) journal p = All-contains (Fits first (mark first passes) journal) passes p holds.passes_fit there in
    let seen : Contains (set_in first ++ settings_of p.seen) k.setting =
    All-contains (λ (k : Known). Contains (set_in first ++ settings_of p.seen) k.setting) p.known k fits.known knows in
    let rest : List JournalEntry = fits.seen.0 in
    let all : settings_of journal ≡ settings_of p.seen ++ settings_of rest = ap settings_of fits.seen.1 ∙ flat_map-append _ p.seen rest in
    (holds.set_words k.setting).1 (rw all (in_either (set_in first) (settings_of p.seen) (settings_of rest) k.setting seen))
  where
    in_either : (xs ys zs : List Setting) (x : Setting) → Contains (xs ++ ys) x → Contains (xs ++ (ys ++ zs)) x
    in_either xs ys zs x c = by_side (Contains-append_cases xs ys x c)
      where
        by_side : Contains xs x ⊎ Contains ys x → Contains (xs ++ (ys ++ zs)) x
        by_side (inl c) = Contains-append_left xs (ys ++ zs) x c
        by_side (inr c) = Contains-append_right xs (ys ++ zs) x (Contains-append_left ys zs x c)

in_map : {X Y : Type 0} (f : X → Y) (xs : List X) (x : X) → Contains xs x → Contains (map f xs) (f x)
in_map f [] x c = absurd (none_in x c)
in_map f (y ∷ ys) x (zero, below, is) = (0, omega arith, ap f is)
in_map f (y ∷ ys) x (suc k, below, is) = let c = in_map f ys x (k, (omega arith), is) in (suc c.0, (let b = c.1 in omega arith), c.2)

-- what is in the one part of a list is apart from what is in the other
apart_parts : (xs ys : List ℕ) (x y : ℕ) → AreDistinct (xs ++ ys) → Contains xs x → Contains ys y → x ≢ y
apart_parts xs ys x y all (i, below, is) (j, low, at) same =
    let here : get_or (xs ++ ys) i x ≡ x = get_or_append_left xs ys x i below ∙ is in
    let there : get_or (xs ++ ys) (length xs + j) x ≡ y = get_or-append-add xs ys j x ∙ ap (get_or ys j) same ∙ at in
    all i (length xs + j) x (omega arith) (rw length-append (omega arith)) (here ∙ same ∙ sym there)

apart_back : (xs ys : List ℕ) → AreDistinct (xs ++ ys) → AreDistinct ys
apart_back xs ys all i j d before below =
    rw (← get_or-append-add xs ys i d, ← get_or-append-add xs ys j d) (all (length xs + i) (length xs + j) d (omega arith) (rw length-append (omega arith)))

abbrev made_in : JournalEntry → List Setting
made_in e = elim e.made [ sets s ↦ s ∷ [] | gives f ↦ [] | fails ↦ [] | hangs g ↦ [] ]

abbrev place : Setting → ℕ
place s = s.place

-- what a pass's entries set, the journal's entries do
of_journal : (p : Pass) (journal : List JournalEntry) (s : Setting) → Contains (settings_of (entries_by p journal)) s → Contains (settings_of journal) s
of_journal p [] s c = c
of_journal p (e ∷ journal) s c = by_pass (nat_eq e.pass p.number) c (of_journal p journal s)
  where
    by_pass : (b : Bool) → Contains (settings_of (cond b (e ∷ entries_by p journal) (entries_by p journal))) s
        → (Contains (settings_of (entries_by p journal)) s → Contains (settings_of journal) s)
        → Contains (made_in e ++ settings_of journal) s
    by_pass true c rest = by_side (Contains-append_cases (made_in e) (settings_of (entries_by p journal)) s c)
      where
        by_side : Contains (made_in e) s ⊎ Contains (settings_of (entries_by p journal)) s → Contains (made_in e ++ settings_of journal) s
        by_side (inl c) = Contains-append_left (made_in e) (settings_of journal) s c
        by_side (inr c) = Contains-append_right (made_in e) (settings_of journal) s (rest c)
    by_pass false c rest = Contains-append_right (made_in e) (settings_of journal) s (rest c)

-- the settings of two passes have different places
apart_passes : (p q : Pass) → p.number ≢ q.number → (journal : List JournalEntry) → AreDistinct (map place (settings_of journal)) → (s t : Setting)
    → Contains (settings_of (entries_by p journal)) s → Contains (settings_of (entries_by q journal)) t → s.place ≢ t.place
apart_passes p q other [] distinct s t one two = absurd (none_in s one)
apart_passes p q other (e ∷ journal) distinct s t one two =
    by_both (nat_eq e.pass p.number) (nat_eq e.pass q.number) refl refl one two
    (apart_passes p q other journal (apart_back (map place (made_in e)) (map place (settings_of journal)) split) s t)
  where
    split : AreDistinct (map place (made_in e) ++ map place (settings_of journal))
    split = subst AreDistinct (map-append place (made_in e) (settings_of journal)) distinct

    apart : (s t : Setting) → Contains (made_in e) s → Contains (settings_of journal) t → s.place ≢ t.place
    apart s t one two = apart_parts (map place (made_in e)) (map place (settings_of journal)) s.place t.place split (in_map place (made_in e) s one)
        (in_map place (settings_of journal) t two)

    by_both : (b c : Bool) → nat_eq e.pass p.number ≡ b → nat_eq e.pass q.number ≡ c
        → Contains (settings_of (cond b (e ∷ entries_by p journal) (entries_by p journal))) s
        → Contains (settings_of (cond c (e ∷ entries_by q journal) (entries_by q journal))) t
        → (Contains (settings_of (entries_by p journal)) s → Contains (settings_of (entries_by q journal)) t → s.place ≢ t.place)
        → s.place ≢ t.place
    by_both true true of_p of_q one two rest = absurd (other (sym ((Decides-eqb e.pass p.number).0 of_p) ∙ (Decides-eqb e.pass q.number).0 of_q))
    by_both true false of_p of_q one two rest = by_side (Contains-append_cases (made_in e) (settings_of (entries_by p journal)) s one)
      where
        by_side : Contains (made_in e) s ⊎ Contains (settings_of (entries_by p journal)) s → s.place ≢ t.place
        by_side (inl c) = apart s t c (of_journal q journal t two)
        by_side (inr c) = rest c two
    by_both false true of_p of_q one two rest = by_side (Contains-append_cases (made_in e) (settings_of (entries_by q journal)) t two)
      where
        by_side : Contains (made_in e) t ⊎ Contains (settings_of (entries_by q journal)) t → s.place ≢ t.place
        by_side (inl c) = λ same. apart t s c (of_journal p journal s one) (sym same)
        by_side (inr c) = rest one c
    by_both false false of_p of_q one two rest = rest one two

-- the two passes set no word in common
abbrev pub SetApart : Pass → Pass → Type 0
SetApart p q = (s t : Setting) → Contains p.mine s → Contains q.mine t → s.place ≢ t.place

two_numbers : (first : List Ref) (passes : List Pass) (journal : List JournalEntry) (row : List Ref) → Row first passes journal row
    → (p q : Pass) → Contains passes p → Contains passes q → p.number ≢ q.number → SetApart p q
two_numbers first passes journal row holds p q there here other s t one two =
    let fits = All-contains (Fits first (mark first passes) journal) passes p holds.passes_fit there in
    let also_fits = All-contains (Fits first (mark first passes) journal) passes q holds.passes_fit here in
    let distinct = apart_back (map place (set_in first)) (map place (settings_of journal))
    (subst AreDistinct (map-append place (set_in first) (settings_of journal)) holds.set_once) in
    apart_passes p q other journal distinct s t (subst (λ xs. Contains xs s) fits.settings one) (subst (λ xs. Contains xs t) also_fits.settings two)

number_of : Pass → ℕ
number_of p = p.number

pub one_winner : (first : List Ref) (passes : List Pass) (journal : List JournalEntry) (row : List Ref) → Row first passes journal row
    → AllPairs SetApart passes
unfolding number_of
one_winner first passes journal row holds i j d before below =
    let p : Pass = get_or passes i d in
    let q : Pass = get_or passes j d in
    let other : p.number ≢ q.number =
    rw (← get_or-map number_of passes i d 0 (omega arith), ← get_or-map number_of passes j d 0 below) (holds.numbered i j 0 before (rw length-map below)) in
    two_numbers first passes journal row holds p q (i, (omega arith), get_or_default passes i p d (omega arith)) (
      j,
      below,
      get_or_default passes j q d below,
    ) other
