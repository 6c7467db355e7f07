-- The generated text is the text of a program.
use Rattle.std.proofs.Common.{ℕ, zero, suc, ◌+◌, ◌*◌, ◌≡◌, ◌<◌, ◌≤◌, Bool, true, ◌&&◌, ltb, List, [], ◌∷◌, ◌++◌, map, length, refl, sym, ap, subst, ◌∙◌}
use Rattle.std.proofs.Common.{arith, codes, append_assoc, length-append}
use Rattle.std.specs.Prelude.{IsUtf8}
use Rattle.std.specs.Str.{IsAscii}
use Rattle.std.specs.Fmt.{decimal}
use Rattle.std.proofs.lemmas.Str.{IsAscii-append, IsUtf8-from_ascii}
use Rattle.std.proofs.lemmas.Str.Ascii.{IsAscii-nil}
use Rattle.std.proofs.lemmas.Fmt.{IsAscii-decimal, length-decimal-le}
use Rattle.std.proofs.lemmas.List.{length-map, map-append}
use Rattle.and_model.specs.Lines.{Bytes}
use Rattle.and_source.specs.Source.{SourceProgram}
use Rattle.and_syntax.specs.Tables.{program_of}
use Rattle.and_language.specs.Tokens as tokens
use Rattle.and_language.specs.Refusals.{Reads}
use Rattle.and_gen.specs.Layered as generated
use Rattle.and_gen.proofs.Pieces.{have_tokens, are_words, placed_of, tokens_of, no_gap, newline}
use Rattle.and_gen.proofs.Lines.{Edge, Line, edge, ends, goes_on, asks, line_text, IsSmall}
use Rattle.and_gen.proofs.Texts.{text, all_pieces, all_spelled, AllSmall, all_fit, statements, is_text}
use Rattle.and_gen.proofs.Taken.{lines_of, all_taken}

-- Bytes of a text are few, and ASCII.
abbrev all_ascii : Bytes → Bool
all_ascii [] = true
all_ascii (b ∷ bs) = ltb b 128 && all_ascii bs

ascii : (bs : Bytes) → all_ascii bs ≡ true → IsAscii bs
ascii [] h i = IsAscii-nil i
ascii (b ∷ bs) h zero = grind arith
ascii (b ∷ bs) h (suc i) = ascii bs (grind arith) i

abbrev IsFew : ℕ → Bytes → Type 0
IsFew n bs = (length bs ≤ n) × IsAscii bs

few_both : (n m : ℕ) (xs ys : Bytes) → IsFew n xs → IsFew m ys → IsFew (n + m) (xs ++ ys)
few_both n m xs ys a b = (omega (arith, a.0, b.0, length-append xs ys), IsAscii-append xs ys a.1 b.1)

few_digits : (n : ℕ) → n < 1000 → IsFew 3 (decimal n)
few_digits n h = (length-decimal-le 3 n (omega arith) (omega arith) (omega arith), IsAscii-decimal n (omega arith))

few_known : (bs : Bytes) → all_ascii bs ≡ true → IsFew (length bs) bs
few_known bs h = (omega arith, ascii bs h)

few_five : (a b c d e : Bytes) (k l m n o : ℕ) → IsFew k a → IsFew l b → IsFew m c → IsFew n d → IsFew o e
    → IsFew (k + l + m + n + o) (a ++ b ++ c ++ d ++ e)
few_five a b c d e k l m n o x y z u v =
    few_both (k + l + m + n) o (a ++ b ++ c ++ d) e (few_both (k + l + m) n (a ++ b ++ c) d (few_both (k + l) m (a ++ b) c
    (few_both k l a b x y) z) u) v

few_place : (rail at : ℕ) → rail < 1000 → at < 1000 → IsFew 10 (generated.place rail at)
few_place rail at a b =
    few_five (codes "n(") (decimal rail) (codes ",") (decimal at) (codes ")") 2 3 1 3 1 (few_known (codes "n(") refl)
    (few_digits rail a) (few_known (codes ",") refl) (few_digits at b)
    (few_known (codes ")") refl)

more_few : (n m : ℕ) (bs : Bytes) → n ≤ m → IsFew n bs → IsFew m bs
more_few n m bs h f = (omega (arith, f.0), f.1)

few_line : (l : Line) → IsSmall l → IsFew 50 (line_text l)
few_line (edge e) small =
    more_few 28 50 (line_text (edge e)) (omega arith)
    (few_five (codes "edge(") (generated.place e.rail e.at) (codes ",") (generated.place e.next_rail e.next) (codes ").") 5 10 1 10 2
    (few_known (codes "edge(") refl) (few_place e.rail e.at small.0 small.1) (few_known (codes ",") refl)
    (few_place e.next_rail e.next small.2 small.3) (few_known (codes ").") refl))
few_line ends small = more_few 14 50 (line_text ends) (omega arith) (few_known (line_text ends) refl)
few_line goes_on small = more_few 42 50 (line_text goes_on) (omega arith) (few_known (line_text goes_on) refl)
few_line (asks n) small =
    more_few 33 50 (line_text (asks n)) (omega arith)
    (few_five (codes "?- path(") (generated.place 0 0) (codes ",") (generated.place 2 n) (codes ",P).") 8 10 1 10 4
    (few_known (codes "?- path(") refl) (few_place 0 0 (omega arith) (omega arith)) (few_known (codes ",") refl) (few_place 2 n
    (omega arith) small) (few_known (codes ",P).") refl))

few_text : (ls : List Line) → AllSmall ls → IsFew (51 * length ls) (text ls)
few_text [] small = (omega arith, IsAscii-nil)
few_text (l ∷ ls) small =
    more_few (50 + (1 + 51 * length ls)) (51 * length (l ∷ ls)) (text (l ∷ ls)) (omega arith)
    (few_both 50 (1 + 51 * length ls) (line_text l) (10 ∷ text ls) (few_line l small.0)
    (few_both 1 (51 * length ls) (10 ∷ []) (text ls) (few_known (10 ∷ []) refl) (few_text ls small.1)))

-- a text of such lines is read
lines_are_read : (e : Edge) (es : List Edge) (n : ℕ) → length es < 900 → AllSmall (lines_of (e ∷ es) n)
    → (P : SourceProgram) × Reads (text (lines_of (e ∷ es) n)) P
lines_are_read e es n few small =
    let ls = lines_of (e ∷ es) n in
    let bytes = text ls in
    let xs = all_pieces [] ls in
    let sizes = few_text ls small in
    let count : length ls ≡ suc (length es) + 3 = length-append (map edge (e ∷ es)) (ends ∷ goes_on ∷ asks n ∷ [])
    ∙ ap (λ k. k + 3) (length-map (e ∷ es) edge) in
    let utf8 : IsUtf8 bytes = IsUtf8-from_ascii bytes sizes.1 in
    let last : tokens.Separates (10 ∷ []) [] = newline [] in
    let same = sym (all_spelled (edge e) (lines_of es n)) in
    let fit = all_fit [] no_gap ls small in
    let taken = all_taken bytes e es n few in
    let query = taken.2 in (
      program_of taken.0 query.0,
      record {
        size = omega (arith, sizes.0, count);
        words = placed_of 0 xs;
        spelled = (tokens_of 0 xs, have_tokens bytes (10 ∷ []) utf8 last 0 xs same fit, are_words bytes (10 ∷ []) utf8 last 0 xs same fit);
        table = taken.0;
        taken = record { statements = statements 0 [] ls; spelled = is_text 0 [] ls small; taken = taken.1 };
        query = query.0;
        asked = query.1;
        known = query.2;
        program = refl;
      },
    )

-- The edges of the graph.
abbrev edges_below : (ℕ → Edge) → ℕ → List Edge
edges_below f zero = []
edges_below f (suc k) = edges_below f k ++ f k ∷ []

abbrev forth : ℕ → ℕ → Edge
forth rail at = record { rail = rail; at = at; next_rail = rail; next = at + 1 }

abbrev over : ℕ → ℕ → Edge
over rail at = record { rail = rail; at = at; next_rail = rail + 1; next = at }

abbrev edges : ℕ → List Edge
edges n = edges_below (forth 0) n ++ edges_below (forth 1) n ++ edges_below (forth 2) n ++ (edges_below (over 0) (n + 1) ++ edges_below
    (over 1) (n + 1))

length-below : (f : ℕ → Edge) (n : ℕ) → length (edges_below f n) ≡ n
length-below f zero = refl
length-below f (suc k) = omega (arith, length-append (edges_below f k) (f k ∷ []), length-below f k)

text-append : (xs ys : List Line) → text (xs ++ ys) ≡ text xs ++ text ys
text-append [] ys = refl
text-append (l ∷ ls) ys = ap (λ bs. line_text l ++ 10 ∷ bs) (text-append ls ys) ∙ sym (append_assoc (line_text l) (10 ∷ text ls) (text ys))

small-append : (xs ys : List Line) → AllSmall xs → AllSmall ys → AllSmall (xs ++ ys)
small-append [] ys a b = b
small-append (l ∷ ls) ys a b = (a.0, small-append ls ys a.1 b)

abbrev bytes_of : List Edge → Bytes
bytes_of es = text (map edge es)

bytes-append : (xs ys : List Edge) → bytes_of (xs ++ ys) ≡ bytes_of xs ++ bytes_of ys
bytes-append xs ys = ap text (map-append edge xs ys) ∙ text-append (map edge xs) (map edge ys)

joined : (xs ys : List Edge) (us vs : Bytes) → us ≡ bytes_of xs → vs ≡ bytes_of ys → us ++ vs ≡ bytes_of (xs ++ ys)
joined xs ys us vs p q = ap (λ cs. cs ++ vs) p ∙ ap (λ cs. bytes_of xs ++ cs) q ∙ sym (bytes-append xs ys)

edge_line : (e : Edge) → generated.edge (generated.place e.rail e.at) (generated.place e.next_rail e.next) ≡ bytes_of (e ∷ [])
edge_line e = sym (append_assoc (codes "edge(" ++ generated.place e.rail e.at ++ codes "," ++ generated.place e.next_rail e.next)
    (codes ").") (10 ∷ []))

lines_below : (f : ℕ → Edge) (n : ℕ)
    → generated.lines (λ k. generated.edge (generated.place (f k).rail (f k).at) (generated.place (f k).next_rail
    (f k).next)) n ≡ bytes_of (edges_below f n)
lines_below f zero = refl
lines_below f (suc k) = joined (edges_below f k) (f k ∷ []) _ _ (lines_below f k) (edge_line (f k))

-- The text is that of these lines.
tail_is : (n : ℕ) → generated.paths ++ generated.question n ≡ text (ends ∷ goes_on ∷ asks n ∷ [])
tail_is n =
    ap (λ bs. generated.paths ++ bs) (sym (append_assoc (codes "?- path(" ++ generated.place 0 0 ++ codes "," ++ generated.place 2 n)
    (codes ",P).") (10 ∷ [])))

whole : (n : ℕ) → generated.layered n ≡ text (lines_of (edges n) n)
whole n =
    let f0 = edges_below (forth 0) n in
    let f1 = edges_below (forth 1) n in
    let f2 = edges_below (forth 2) n in
    let o0 = edges_below (over 0) (n + 1) in
    let o1 = edges_below (over 1) (n + 1) in
    let start : generated.lines (generated.along n) 3 ++ generated.lines (generated.across n) 2 ≡ bytes_of (edges n) =
    joined (f0 ++ f1 ++ f2) (o0 ++ o1) _ _ (joined (f0 ++ f1) f2 _ _ (joined f0 f1 _ _ (lines_below (forth 0) n) (lines_below
    (forth 1) n)) (lines_below (forth 2) n))
    (joined o0 o1 _ _ (lines_below (over 0) (n + 1)) (lines_below (over 1) (n + 1))) in
    append_assoc (generated.lines (generated.along n) 3 ++ generated.lines (generated.across n) 2) generated.paths (generated.question n)
    ∙ ap (λ bs. bs ++ (generated.paths ++ generated.question n)) start ∙ ap (λ bs. bytes_of (edges n) ++ bs) (tail_is n)
    ∙ sym (text-append (map edge (edges n)) (ends ∷ goes_on ∷ asks n ∷ []))

small_both : (xs ys : List Edge) → AllSmall (map edge xs) → AllSmall (map edge ys) → AllSmall (map edge (xs ++ ys))
small_both xs ys a b = subst AllSmall (sym (map-append edge xs ys)) (small-append (map edge xs) (map edge ys) a b)

small_below : (f : ℕ → Edge) (n : ℕ) → ((k : ℕ) → k < n → IsSmall (edge (f k))) → AllSmall (map edge (edges_below f n))
small_below f zero h = tt
small_below f (suc k) h = small_both (edges_below f k) (f k ∷ []) (small_below f k (λ i b. h i (omega arith))) (h k (omega arith), tt)

forth_small : (rail n : ℕ) → rail < 3 → n ≤ 64 → AllSmall (map edge (edges_below (forth rail) n))
forth_small rail n r h = small_below (forth rail) n (λ k b. (omega arith, omega arith, omega arith, omega arith))

over_small : (rail n : ℕ) → rail < 3 → n ≤ 64 → AllSmall (map edge (edges_below (over rail) (n + 1)))
over_small rail n r h = small_below (over rail) (n + 1) (λ k b. (omega arith, omega arith, omega arith, omega arith))

all_small : (n : ℕ) → n ≤ 64 → AllSmall (lines_of (edges n) n)
all_small n h =
    let f0 = edges_below (forth 0) n in
    let f1 = edges_below (forth 1) n in
    let f2 = edges_below (forth 2) n in
    let o0 = edges_below (over 0) (n + 1) in
    let o1 = edges_below (over 1) (n + 1) in
    small-append (map edge (edges n)) (ends ∷ goes_on ∷ asks n ∷ [])
    (small_both (f0 ++ f1 ++ f2) (o0 ++ o1)
    (small_both (f0 ++ f1) f2 (small_both f0 f1 (forth_small 0 n (omega arith) h) (forth_small 1 n (omega arith) h)) (forth_small 2 n
    (omega arith) h))
    (small_both o0 o1 (over_small 0 n (omega arith) h) (over_small 1 n (omega arith) h)))
    (tt, (tt, (omega arith, tt)))

count_is : (n : ℕ) → length (edges n) ≡ 5 * n + 2
count_is n =
    let f0 = edges_below (forth 0) n in
    let f1 = edges_below (forth 1) n in
    let f2 = edges_below (forth 2) n in
    let o0 = edges_below (over 0) (n + 1) in
    let o1 = edges_below (over 1) (n + 1) in
    omega (
      arith,
      length-append (f0 ++ f1 ++ f2) (o0 ++ o1),
      length-append (f0 ++ f1) f2,
      length-append f0 f1,
      length-append o0 o1,
      length-below (forth 0) n,
      length-below (forth 1) n,
      length-below (forth 2) n,
      length-below (over 0) (n + 1),
      length-below (over 1) (n + 1),
    )

some_are_read : (es : List Edge) (n : ℕ) → 0 < length es → length es < 900 → AllSmall (lines_of es n)
    → (P : SourceProgram) × Reads (text (lines_of es n)) P
some_are_read [] n some few small = absurd (omega arith)
some_are_read (e ∷ es) n some few small = lines_are_read e es n (omega arith) small

pub generated_is_read : (n : ℕ) → n ≤ 64 → (P : SourceProgram) × Reads (generated.layered n) P
generated_is_read n h =
    subst (λ bs. (P : SourceProgram) × Reads bs P) (sym (whole n)) (some_are_read (edges n) n (omega (arith, count_is n)) (omega (
      arith,
      count_is n,
    )) (all_small n h))
