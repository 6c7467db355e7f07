-- Entries are cut into runs.
use Rattle.std.proofs.Common.{◌≡◌, ◌≢◌, ◌≤◌, ℕ, zero, suc, List, [], ◌∷◌, ◌++◌, length, take, drop, map, reverse, refl, sym, ap, ◌∙◌, subst}
use Rattle.std.proofs.Common.{arith, length-append, append-nil, append_assoc}
use Rattle.std.specs.List.Sorted.{IsPermutation}
use Rattle.std.proofs.lemmas.List.Sorted.{IsPermutation-refl, IsPermutation-sym, IsPermutation-trans, IsPermutation-append, IsPermutation-append_comm}
use Rattle.std.proofs.lemmas.List.Sorted.{IsPermutation-map, IsPermutation-reverse}
use Rattle.std.proofs.lemmas.List.{nil_from_length, reverse-append, same_from_push}
use Rattle.and_model.specs.Listing
use Rattle.and_answers.specs.Kept.{entry_of}
use Rattle.and_answers.specs.Tails.{MayFollow}
use Rattle.and_answers.specs.Pieces.{code_behind, codes_from, last_from, AreInPlace}
use Rattle.and_answers.specs.Runs.{clauses_of, IsBehind, IsPut, Rises, entries_of}
use Rattle.and_answers.specs.Merged.{all_entries, IsPutBack}
use Rattle.and_answers.specs.declared.found.Entry.{Entry}
use Rattle.and_answers.specs.declared.piece.Piece.{Piece}
use Rattle.and_answers.specs.declared.tail.Tail.{Tail}
use Rattle.and_answers.proofs.PieceLemmas.{codes_more, last_more, places_parted, taken_none}
use Rattle.and_answers.proofs.RunLemmas.{code_of}
use Rattle.and_answers.proofs.MergeLemmas.{entries_more, put_rises, front_of_first, all_more}

-- ---- a tail that is put before others

dropped_none : (n : ℕ) → drop {A = ℕ} n [] ≡ []
dropped_none zero = refl
dropped_none (suc n) = refl

put_behind : (last : List ℕ) (t : Tail) → IsPut last t → t.common ≢ 0 → IsBehind last t
put_behind last t is some = record { within = is.within; code_is = is.code_is; follows = is.follows some }

put_anew : (last : List ℕ) (t : Tail) → IsPut last t → t.common ≤ 0 → IsBehind [] t
put_anew last t is none = record {
  within = none;
  code_is = is.code_is ∙ ap (λ l. l ++ clauses_of t) (taken_none t.common last none ∙ sym (taken_none t.common [] none));
  follows = subst (λ l. MayFollow l (clauses_of t)) (sym (dropped_none t.common)) tt;
}

-- It goes on with them,
pub put_on : (last : List ℕ) (ts new : List Tail) (t : Tail) → new ≡ ts ++ t ∷ [] → t.common ≢ 0 → Rises (code_of t) (reverse ts) → IsPut last t
    → Rises last (reverse new)
put_on last ts new t is some r put = subst (λ l. Rises last (reverse l)) (sym is) (put_rises last ts t (put_behind last t put some) r)

-- or begins a run of them.
pub put_first : (last : List ℕ) (ts new : List Tail) (t : Tail) → new ≡ ts ++ t ∷ [] → t.common ≤ 0 → Rises (code_of t) (reverse ts) → IsPut last t
    → Rises [] (reverse new)
put_first last ts new t is none r put = subst (λ l. Rises [] (reverse l)) (sym is) (put_rises [] ts t (put_anew last t put none) r)

put_among : (ts : List Tail) (t : Tail) (others : List Entry) → IsPermutation (t.entry ∷ (entries_of ts ++ others)) (entries_of (ts ++ t ∷ []) ++ others)
put_among ts t others =
    subst (λ l. IsPermutation (t.entry ∷ (entries_of ts ++ others)) (l ++ others)) (sym (entries_more ts t))
    (IsPermutation-sym _ _ (front_of_first (entries_of ts) others t.entry))

pub put_same : (ts new : List Tail) (t : Tail) (rs : List (List Tail)) → new ≡ ts ++ t ∷ []
    → IsPermutation (t.entry ∷ (entries_of ts ++ all_entries rs)) (entries_of new ++ all_entries rs)
put_same ts new t rs is =
    subst (λ l. IsPermutation (t.entry ∷ (entries_of ts ++ all_entries rs)) (entries_of l ++ all_entries rs)) (sym is) (put_among ts t (all_entries rs))

pub put_all : (ts new left : List Tail) (t : Tail) (rs more : List (List Tail)) → new ≡ ts ++ t ∷ [] → more ≡ rs ++ new ∷ [] → left ≡ []
    → IsPermutation (t.entry ∷ (entries_of ts ++ all_entries rs)) (entries_of left ++ all_entries more)
put_all ts new left t rs more is more_is none =
    subst (λ (l : List Tail). IsPermutation (t.entry ∷ (entries_of ts ++ all_entries rs)) (entries_of l ++ all_entries more)) (sym none)
    (subst (λ l. IsPermutation (t.entry ∷ (entries_of ts ++ all_entries rs)) l) (sym (ap all_entries more_is ∙ all_more rs new))
    (IsPermutation-trans _ _ _ (put_same ts new t rs is) (IsPermutation-append_comm (entries_of new) (all_entries rs))))

-- ---- one entry and its piece are taken

-- the codes of entries
abbrev pub codes_of : List Entry → List (List ℕ)
codes_of es = map (λ (e : Listing.Entry). e.code) (map entry_of es)

codes_of_more : (es : List Entry) (e : Entry) → codes_of (es ++ e ∷ []) ≡ codes_of es ++ e.code.value ∷ []
codes_of_more [] e = refl
codes_of_more (d ∷ es) e = ap (λ l. d.code.value ∷ l) (codes_of_more es e)

-- Entries and pieces that are left, tails that are open, and runs.
pub record AreCut (all es : List Entry) (ps : List Piece) (ts : List Tail) (rs : List (List Tail)) : Type 0 where
  pub codes : codes_of es ≡ codes_from [] ps
  pub places : AreInPlace [] ps
  pub rises : Rises (last_from [] ps) (reverse ts)
  pub same : IsPermutation all (es ++ (entries_of ts ++ all_entries rs))

pub none_cut : (es : List Entry) (ps : List Piece) (ts : List Tail) (rs : List (List Tail)) → codes_of es ≡ codes_from [] ps → AreInPlace [] ps
    → ts ≡ [] → rs ≡ [] → AreCut es es ps ts rs
none_cut es ps ts rs codes places no_tails no_runs =
    subst (λ (l : List Tail). AreCut es es ps l rs) (sym no_tails) (subst (λ (l : List (List Tail)). AreCut es es ps [] l) (sym no_runs) (record {
      codes = codes;
      places = places;
      rises = tt;
      same = subst (λ l. IsPermutation es l) (sym (append-nil es)) (IsPermutation-refl es);
    }))

-- The last entry and the last piece, and the others.
pub record LastTaken (all es : List Entry) (ps : List Piece) (ts : List Tail) (rs : List (List Tail)) (e : Entry) (t : Tail) : Type 0 where
  pub codes : codes_of es ≡ codes_from [] ps
  pub places : AreInPlace [] ps
  pub put : IsPut (last_from [] ps) t
  pub rises : Rises (code_of t) (reverse ts)
  pub same : IsPermutation all (es ++ (t.entry ∷ (entries_of ts ++ all_entries rs)))

pub last_taken : (all old es : List Entry) (qs ps : List Piece) (ts : List Tail) (rs : List (List Tail)) (e : Entry) (p : Piece) (t : Tail)
    → old ≡ es ++ e ∷ [] → qs ≡ ps ++ p ∷ [] → t.entry ≡ e → t.common ≡ p.common → (t.from ≡ 0) × (t.rest ≡ p.rest)
    → AreCut all old qs ts rs → LastTaken all es ps ts rs e t
last_taken all old es qs ps ts rs e p t old_is qs_is entry common rest cut =
    let last : List ℕ = last_from [] ps in
    let both : codes_of es ++ e.code.value ∷ [] ≡ codes_from [] ps ++ code_behind last p ∷ [] =
    sym (codes_of_more es e) ∙ ap codes_of (sym old_is) ∙ cut.codes ∙ ap (codes_from []) qs_is ∙ codes_more [] ps p in
    let (front, here) = same_from_push (codes_of es) (codes_from [] ps) e.code.value (code_behind last p) both in
    let (places, place) = places_parted [] ps p (subst (λ l. AreInPlace [] l) qs_is cut.places) in
    let code : code_of t ≡ code_behind last p = ap (λ (d : Entry). d.code.value) entry ∙ here in
    let clauses : clauses_of t ≡ p.rest = ap (λ n. drop n t.rest) rest.0 ∙ rest.1 in
    record {
      codes = front;
      places = places;
      put = record {
        within = subst (λ n. n ≤ length last) (sym common) place.within;
        code_is = code ∙ ap (λ n. take n last ++ p.rest) (sym common) ∙ ap (λ l. take t.common last ++ l) (sym clauses);
        follows = λ some. subst (λ n. MayFollow (drop n last) (clauses_of t)) (sym common)
            (subst (λ l. MayFollow (drop p.common last) l) (sym clauses) (place.follows (λ none. some (common ∙ none))));
      };
      rises = subst (λ c. Rises c (reverse ts)) (ap (last_from []) qs_is ∙ last_more [] ps p ∙ sym code) cut.rises;
      same = subst (λ l. IsPermutation all l) (append_assoc es (t.entry ∷ []) (entries_of ts ++ all_entries rs))
          (subst (λ (d : Entry). IsPermutation all ((es ++ d ∷ []) ++ (entries_of ts ++ all_entries rs))) (sym entry)
          (subst (λ (l : List Entry). IsPermutation all (l ++ (entries_of ts ++ all_entries rs))) old_is cut.same));
    }

-- It was put before the tails that are open.
pub one_cut : (all es : List Entry) (ps : List Piece) (ts left : List Tail) (rs more : List (List Tail)) (e : Entry) (t : Tail)
    → LastTaken all es ps ts rs e t → ((last : List ℕ) → IsPut last t → Rises last (reverse left))
    → IsPermutation (t.entry ∷ (entries_of ts ++ all_entries rs)) (entries_of left ++ all_entries more) → AreCut all es ps left more
one_cut all es ps ts left rs more e t taken rises same = record {
  codes = taken.codes;
  places = taken.places;
  rises = rises (last_from [] ps) taken.put;
  same = IsPermutation-trans _ _ _ taken.same (IsPermutation-append es es _ _ (IsPermutation-refl es) same);
}

no_pieces : (ps : List Piece) → codes_from [] ps ≡ [] → ps ≡ []
no_pieces [] none = refl
no_pieces (p ∷ ps) none = absurd (let long = ap length none in omega (arith, long))

-- None are left: what is open is a run, too.
pub last_rises : (all es : List Entry) (ps : List Piece) (ts : List Tail) (rs : List (List Tail)) → es ≡ [] → AreCut all es ps ts rs → Rises [] (reverse ts)
last_rises all es ps ts rs none cut =
    let empty : ps ≡ [] = no_pieces ps (sym cut.codes ∙ ap codes_of none) in
    subst (λ (l : List Piece). Rises (last_from [] l) (reverse ts)) empty cut.rises

pub all_cut : (all es : List Entry) (ps : List Piece) (ts : List Tail) (rs more : List (List Tail)) → es ≡ [] → more ≡ rs ++ ts ∷ []
    → AreCut all es ps ts rs → IsPermutation all (all_entries more)
all_cut all es ps ts rs more none is cut =
    let whole : IsPermutation all (entries_of ts ++ all_entries rs) =
    subst (λ (l : List Entry). IsPermutation all (l ++ (entries_of ts ++ all_entries rs))) none cut.same in
    subst (λ l. IsPermutation all l) (sym (ap all_entries is ∙ all_more rs ts))
    (IsPermutation-trans _ _ _ whole (IsPermutation-append_comm (entries_of ts) (all_entries rs)))

-- ---- entries are put back

pub put_none : (es : List Entry) (rs : List (List Tail)) → rs ≡ [] → IsPutBack es rs es
put_none es rs none = record {
  tails = [];
  rises = tt;
  entries = sym (append-nil es);
  same = subst (λ (l : List (List Tail)). IsPermutation (all_entries l) []) (sym none) (IsPermutation-refl []);
}

pub put_one : (es new : List Entry) (rs rest : List (List Tail)) (run : List Tail) → rs ≡ rest ++ run ∷ [] → length rs ≤ 1
    → new ≡ es ++ entries_of (reverse run) → Rises [] (reverse run) → IsPutBack es rs new
put_one es new rs rest run is few put r =
    let long = ap length is in
    let whole = length-append rest (run ∷ []) in
    let none : rest ≡ [] = nil_from_length rest (omega (arith, long, whole, few)) in
    let alone : rs ≡ run ∷ [] = is ∙ ap (λ (l : List (List Tail)). l ++ run ∷ []) none in
    let entries : all_entries rs ≡ entries_of run = ap all_entries alone ∙ append-nil (entries_of run) in
    record {
      tails = reverse run;
      rises = r;
      entries = put;
      same = subst (λ l. IsPermutation l (entries_of (reverse run))) (sym entries)
          (IsPermutation-map (λ (t : Tail). t.entry) run (reverse run) (IsPermutation-reverse run));
    }

pub put_more : (es new whole : List Entry) (ts left : List Tail) (t : Tail) → ts ≡ left ++ t ∷ [] → new ≡ es ++ t.entry ∷ []
    → es ++ entries_of (reverse ts) ≡ whole → new ++ entries_of (reverse left) ≡ whole
put_more es new whole ts left t is put so_far =
    ap (λ l. l ++ entries_of (reverse left)) put ∙ append_assoc es (t.entry ∷ []) (entries_of (reverse left))
    ∙ ap (λ (l : List Tail). es ++ entries_of l) (sym (ap reverse is ∙ reverse-append left (t ∷ []))) ∙ so_far
