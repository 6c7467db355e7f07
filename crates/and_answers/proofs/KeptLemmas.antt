-- Entries, and their lines beside them.
use Rattle.std.proofs.Common.{◌≡◌, ◌<◌, ◌+◌, ◌-◌, ℕ, Bool, true, false, List, [], ◌∷◌, ◌++◌, length, map, take, drop, get_or}
use Rattle.std.proofs.Common.{refl, sym, ap, ◌∙◌, subst, arith, append-nil, length-append}
use Rattle.std.specs.Prelude.{All}
use Rattle.std.specs.List.Sorted.{IsPermutation}
use Rattle.std.proofs.lemmas.List.{get_or_append_left, get_or-append_right, get_or-drop, get_or_push, length-take}
use Rattle.std.proofs.lemmas.List.{get_or-map, length-map, take-map, take_all, drop_all, take-append-le}
use Rattle.std.proofs.lemmas.List.Sorted.{All-permutation}
use Rattle.std.proofs.lemmas.List.Elements.{All-same, All-push, All-append, All-map, All-take, All-weaker}
use lib.Seq.{get_or-append-add}
use Rattle.and_model.specs.Lines.{Bytes}
use Rattle.and_model.specs.Listing
use Rattle.and_answers.specs.Kept.{entry_of, outcome_with}
use Rattle.and_answers.specs.LinePieces.{IsKept, AreKept, moved_on}
use Rattle.and_answers.specs.declared.found.Entry.{Entry}

-- ---- more lines

longer_kept : (lines more : List Bytes) (e : Entry) → IsKept lines e → IsKept (lines ++ more) e
longer_kept lines more e kept =
    let within = kept.within in
    let long = length-append lines more in
    record {
      within = omega (arith, within, long);
      line = get_or_append_left lines more [] e.place kept.within ∙ kept.line;
    }

all_longer : (lines more : List Bytes) (es : List Entry) → AreKept lines es → AreKept (lines ++ more) es
all_longer lines more es kept = All-weaker (λ (e : Entry). IsKept lines e) (λ (e : Entry). IsKept (lines ++ more) e) (longer_kept lines more) es kept

pub kept_on : (lines all : List Bytes) (es new : List Entry) (line : Bytes) → all ≡ lines ++ line ∷ [] → new ≡ es → AreKept lines es → AreKept all new
kept_on lines all es new line is same kept =
    subst (λ (l : List Bytes). AreKept l new) (sym is)
    (subst (λ (xs : List Entry). AreKept (lines ++ line ∷ []) xs) (sym same) (all_longer lines (line ∷ []) es kept))

-- an entry more, with its line
pub kept_more : (lines all : List Bytes) (es new : List Entry) (line : Bytes) (e : Entry) → all ≡ lines ++ line ∷ [] → new ≡ es ++ e ∷ []
    → e.place ≡ length lines → e.line.value ≡ line → AreKept lines es → AreKept all new
kept_more lines all es new line e is new_is place line_is kept =
    let longer : List Bytes = lines ++ line ∷ [] in
    let long = length-append lines (line ∷ []) in
    let here : IsKept longer e = record {
      within = omega (arith, place, long);
      line = get_or_push lines line [] e.place (sym place) ∙ sym line_is;
    } in
    subst (λ (l : List Bytes). AreKept l new) (sym is)
    (All-same (λ (d : Entry). IsKept longer d) new (es ++ e ∷ []) new_is
    (All-push (λ (d : Entry). IsKept longer d) es e (all_longer lines (line ∷ []) es kept) here))

-- ---- those of two

moved_kept : (lines more : List Bytes) (e : Entry) → IsKept more e → IsKept (lines ++ more) (moved_on (length lines) e)
moved_kept lines more e kept =
    let within = kept.within in
    let long = length-append lines more in
    let turned : e.place + length lines ≡ length lines + e.place = omega arith in
    record {
      within = omega (arith, within, long);
      line = ap (λ i. get_or (lines ++ more) i []) turned ∙ get_or-append-add lines more e.place [] ∙ kept.line;
    }

pub kept_both : (lines more all : List Bytes) (es others moved new : List Entry) (n : ℕ) → all ≡ lines ++ more → n ≡ length lines
    → moved ≡ map (moved_on n) others → new ≡ es ++ moved → AreKept lines es → AreKept more others → AreKept all new
kept_both lines more all es others moved new n is long moved_is new_is first second =
    let there : Entry → Type 0 = λ (e : Entry). IsKept (lines ++ more) e in
    let move : Entry → Entry = moved_on (length lines) in
    let others_kept : All there (map move others) =
    All-map there move others
    (All-weaker (λ (e : Entry). IsKept more e) (λ (e : Entry). there (move e)) (moved_kept lines more) others second) in
    let items : new ≡ es ++ map move others = new_is ∙ ap (λ (xs : List Entry). es ++ xs) (moved_is ∙ ap (λ k. map (moved_on k) others) long) in
    subst (λ (l : List Bytes). AreKept l new) (sym is)
    (All-same there new (es ++ map move others) items (All-append there es (map move others) (all_longer lines more es first) others_kept))

-- An entry that is not moved yet is as it was.
pub still_there : (f : Entry → Entry) (xs ys : List Entry) (i : ℕ) (x : Entry) → i < length xs → ys ≡ map f (take i xs) ++ drop i xs
    → x ≡ get_or ys i x → x ≡ get_or xs i x
still_there f xs ys i x within is at =
    let moved : length (map f (take i xs)) ≡ length (take i xs) = length-map (take i xs) f in
    let front = length-take i xs in
    let none : i - i ≡ 0 = omega arith in
    let same : i + 0 ≡ i = omega arith in
    at ∙ ap (λ (l : List Entry). get_or l i x) is
    ∙ get_or-append_right (map f (take i xs)) (drop i xs) i i x (omega (arith, moved, front, within)) (omega arith)
    ∙ ap (λ k. get_or (drop i xs) k x) none ∙ get_or-drop i xs 0 x ∙ ap (λ k. get_or xs k x) same

-- What is lent as a slice stands in its list again.
pub written_back : (moved items : List Entry) (n : ℕ) → n ≡ length items → length moved ≡ length items
    → take n (moved ++ drop (length moved) items) ≡ moved
written_back moved items n long same =
    ap (λ (rest : List Entry). take n (moved ++ rest)) (drop_all (length moved) items (omega (arith, same)))
    ∙ ap (take n) (append-nil moved) ∙ take_all n moved (omega (arith, long, same))

pub as_many : (moved others : List Entry) (n : ℕ) → moved ≡ map (moved_on n) others → length moved ≡ length others
as_many moved others n is = ap (λ (l : List Entry). length l) is ∙ length-map others (moved_on n)

-- Moved places are those of lines that are there.
pub moved_within : (lines more all : List Bytes) (others : List Entry) (n m : ℕ) → all ≡ lines ++ more → n ≡ length lines → m ≡ length all
    → AreKept more others → All (λ (e : Entry). n + e.place < m) others
moved_within lines more all others n m is long far kept =
    let whole : m ≡ length lines + length more = far ∙ ap (λ (l : List Bytes). length l) is ∙ length-append lines more in
    All-weaker (λ (e : Entry). IsKept more e) (λ (e : Entry). n + e.place < m) (λ (e : Entry) (k : IsKept more e).
    let within = k.within in omega (arith, whole, long, within)) others kept

-- Where its line is makes no other entry of it.
moved_same : (n : ℕ) (es : List Entry) → map entry_of (map (moved_on n) es) ≡ map entry_of es
moved_same n [] = refl
moved_same n (e ∷ es) = ap (λ (xs : List Listing.Entry). entry_of e ∷ xs) (moved_same n es)

entries_append : (es others : List Entry) → map entry_of (es ++ others) ≡ map entry_of es ++ map entry_of others
entries_append [] others = refl
entries_append (e ∷ es) others = ap (λ (xs : List Listing.Entry). entry_of e ∷ xs) (entries_append es others)

pub entries_joined : (es others moved new : List Entry) (n : ℕ) → moved ≡ map (moved_on n) others → new ≡ es ++ moved
    → map entry_of new ≡ map entry_of es ++ map entry_of others
entries_joined es others moved new n moved_is new_is =
    ap (map entry_of) (new_is ∙ ap (λ (xs : List Entry). es ++ xs) moved_is) ∙ entries_append es (map (moved_on n) others)
    ∙ ap (λ (xs : List Listing.Entry). map entry_of es ++ xs) (moved_same n others)

pub entries_more : (es new : List Entry) (e : Entry) → new ≡ es ++ e ∷ [] → map entry_of new ≡ map entry_of es ++ entry_of e ∷ []
entries_more es new e is = ap (map entry_of) is ∙ entries_append es (e ∷ [])

-- ---- the last one is taken off

pub taken_back : (old new : List Entry) (n : ℕ) (es : List Listing.Entry) (e : Listing.Entry) → n ≡ length old → new ≡ take (n - 1) old
    → map entry_of old ≡ es ++ e ∷ [] → map entry_of new ≡ es
taken_back old new n es e long is whole =
    let same : length (map entry_of old) ≡ length old = length-map old entry_of in
    let parts : length (map entry_of old) ≡ length es + 1 = ap (λ (l : List Listing.Entry). length l) whole ∙ length-append es (e ∷ []) in
    let fewer : n - 1 ≡ length es = omega (arith, same, parts, long) in
    ap (map entry_of) (is ∙ ap (λ k. take k old) fewer) ∙ sym (take-map entry_of (length es) old) ∙ ap (take (length es)) whole
    ∙ take-append-le (length es) es (e ∷ []) (omega arith) ∙ take_all (length es) es (omega arith)

pub kept_part : (lines : List Bytes) (es new : List Entry) (n : ℕ) → new ≡ take n es → AreKept lines es → AreKept lines new
kept_part lines es new n is kept =
    All-same (λ (e : Entry). IsKept lines e) new (take n es) is (All-take (λ (e : Entry). IsKept lines e) n es kept)

-- The same entries in another order.
pub kept_moved : (lines : List Bytes) (es new others : List Entry) → new ≡ others → IsPermutation es others → AreKept lines es → AreKept lines new
kept_moved lines es new others is moved kept =
    let there : Entry → Type 0 = λ (e : Entry). IsKept lines e in
    All-same there new others is (All-permutation there es others moved kept)

-- ---- the line of an entry

line_with : (floundered : Bool) (line : Bytes) → Listing.line_of (outcome_with floundered line) ≡ line
line_with true line = refl
line_with false line = refl

-- the lines of entries, as contracts have them
abbrev pub lines_of_entries : List Entry → List Bytes
lines_of_entries es = map (λ (e : Entry). e.line.value) es

pub lines_listed : (es : List Entry) → map (λ (e : Listing.Entry). Listing.line_of e.outcome) (map entry_of es) ≡ lines_of_entries es
lines_listed [] = refl
lines_listed (e ∷ es) =
    ap (λ (l : Bytes). l ∷ map (λ (d : Listing.Entry). Listing.line_of d.outcome) (map entry_of es)) (line_with e.floundered e.line.value)
    ∙ ap (λ (ls : List Bytes). e.line.value ∷ ls) (lines_listed es)

-- It is the one at its place.
pub line_kept : (lines : List Bytes) (es : List Entry) (i : ℕ) (d : Entry) → i < length es → AreKept lines es
    → get_or lines (get_or es i d).place [] ≡ get_or (lines_of_entries es) i []
line_kept lines es i d within kept = (kept i d within).line ∙ sym (get_or-map (λ (e : Entry). e.line.value) es i d [] within)
