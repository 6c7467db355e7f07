-- Blanking part after part.
use Rattle.std.proofs.Common.{◌≡◌, ℕ, zero, suc, ◌+◌, ◌<◌, ◌≤◌, ◌||◌, ◌&&◌, Bool, true, false, cond, List, [], ◌∷◌, ◌++◌, length, map, take, drop, set}
use Rattle.std.proofs.Common.{get_or, nat_eq, leb, ltb, sym, refl, ap, ◌∙◌, arith, append-nil, ⊎_elim, inl, inr, ◌⊎◌}
use Rattle.std.proofs.lemmas.Bool.{le-leb, lt-leb, lt-ltb, le-ltb, eq-eqb, ne_eqb, cases_lt, cases_order, and_right}
use Rattle.std.specs.List.{list_any}
use Rattle.and_model.specs.Lines.{Bytes}
use Rattle.and_batch_text.specs.Queries.{Span}
use Rattle.and_batch_text.specs.Singles.{is_in, is_in_one, blank, blanked, others, single}
use Rattle.and_batch_text.specs.Views.{span_of, spans_of}
use Rattle.and_batch_text.specs.declared.span.Span as values
use Rattle.std.proofs.lemmas.List.{map-append, set-get_or, take_more, take_all, take-map, drop_all}

pub blanked-length : (f : ℕ → Bool) (p : ℕ) (bs : Bytes) → length (blanked f p bs) ≡ length bs
blanked-length f p [] = refl
blanked-length f p (b ∷ bs) = let r = blanked-length f (suc p) bs in omega arith

-- where no place is such a one, nothing is blanked
pub blanked_none : (f : ℕ → Bool) (p : ℕ) (bs : Bytes) → ((q : ℕ) → f q ≡ false) → blanked f p bs ≡ bs
blanked_none f p [] none = refl
blanked_none f p (b ∷ bs) none = λ i. cond (none p i) (blank b) b ∷ blanked_none f (suc p) bs none i

pub blanked_same : (f g : ℕ → Bool) (p : ℕ) (bs : Bytes) → ((q : ℕ) → f q ≡ g q) → blanked f p bs ≡ blanked g p bs
blanked_same f g p [] same = refl
blanked_same f g p (b ∷ bs) same = λ i. cond (same p i) (blank b) b ∷ blanked_same f g (suc p) bs same i

blank_again : (t : Bool) (b : ℕ) → t ≡ nat_eq b 10 → blank (cond t 10 32) ≡ cond t 10 32
blank_again true b is = refl
blank_again false b is = refl

blank_twice : (b : ℕ) → blank (blank b) ≡ blank b
blank_twice b = blank_again (nat_eq b 10) b refl

both : (x y : Bool) (b : ℕ) → cond y (blank (cond x (blank b) b)) (cond x (blank b) b) ≡ cond (x || y) (blank b) b
both true true b = blank_twice b
both true false b = refl
both false true b = refl
both false false b = refl

-- what is blanked at some places and then at others is blanked at both
pub blanked_twice : (f g : ℕ → Bool) (p : ℕ) (bs : Bytes) → blanked g p (blanked f p bs) ≡ blanked (λ q. f q || g q) p bs
blanked_twice f g p [] = refl
blanked_twice f g p (b ∷ bs) = λ i. both (f p) (g p) b i ∷ blanked_twice f g (suc p) bs i

or_nothing : (x : Bool) → (x || false) ≡ x
or_nothing true = refl
or_nothing false = refl

or_or : (x y z : Bool) → (x || (y || z)) ≡ ((x || y) || z)
or_or true y z = refl
or_or false y z = refl

pub in_one-append : (ss us : List Span) (q : ℕ) → is_in_one (ss ++ us) q ≡ (is_in_one ss q || is_in_one us q)
in_one-append [] us q = refl
in_one-append (s ∷ ss) us q = ap (λ x. is_in s q || x) (in_one-append ss us q) ∙ or_or (is_in s q) (is_in_one ss q) (is_in_one us q)

pub blanked_more : (ss us : List Span) (bs cs ds : Bytes) → cs ≡ blanked (is_in_one ss) 0 bs → ds ≡ blanked (is_in_one us) 0 cs
    → ds ≡ blanked (is_in_one (ss ++ us)) 0 bs
blanked_more ss us bs cs ds first second =
    second ∙ ap (blanked (is_in_one us) 0) first ∙ blanked_twice (is_in_one ss) (is_in_one us) 0 bs
    ∙ blanked_same (λ q. is_in_one ss q || is_in_one us q) (is_in_one (ss ++ us)) 0 bs (λ q. sym (in_one-append ss us q))

pub in_one_alone : (s : Span) (bs cs : Bytes) → cs ≡ blanked (is_in s) 0 bs → cs ≡ blanked (is_in_one (s ∷ [])) 0 bs
in_one_alone s bs cs is = is ∙ blanked_same (is_in s) (is_in_one (s ∷ [])) 0 bs (λ q. sym (or_nothing (is_in s q)))

-- ---- byte after byte

-- the places from start on that are before end
abbrev pub between : ℕ → ℕ → ℕ → Bool
between start end place = leb start place && ltb place end

-- where the bytes stand at places that are such ones by one test exactly if by the other, the same is blanked
pub blanked_agree : (f g : ℕ → Bool) (p : ℕ) (bs : Bytes) → ((q : ℕ) → p ≤ q → q < p + length bs → f q ≡ g q) → blanked f p bs ≡ blanked g p bs
blanked_agree f g p [] same = refl
blanked_agree f g p (b ∷ bs) same =
    let here = same p (omega arith) (omega arith) in
    let rest = blanked_agree f g (suc p) bs (λ q from to. same q (omega arith) (omega arith)) in
    λ i. cond (here i) (blank b) b ∷ rest i

-- the byte at a place is blanked
pub blanked_at : (k p : ℕ) (bs : Bytes) (d : ℕ) → k < length bs → blanked (nat_eq (p + k)) p bs ≡ set bs k (blank (get_or bs k d))
blanked_at k p [] d less = absurd (omega arith)
blanked_at zero p (b ∷ bs) d less =
    let here : nat_eq (p + 0) p ≡ true = eq-eqb (p + 0) p (omega arith) in
    let rest = blanked_agree (nat_eq (p + 0)) (λ q. false) (suc p) bs (λ q from to. ne_eqb (p + 0) q (λ e. absurd (omega arith)))
    ∙ blanked_none (λ q. false) (suc p) bs (λ q. refl) in
    λ i. cond (here i) (blank b) b ∷ rest i
blanked_at (suc k) p (b ∷ bs) d less =
    let here : nat_eq (p + suc k) p ≡ false = ne_eqb (p + suc k) p (λ e. absurd (omega arith)) in
    let same : p + suc k ≡ suc p + k = omega arith in
    let rest = ap (λ n. blanked (nat_eq n) (suc p) bs) same ∙ blanked_at k (suc p) bs d (omega arith) in
    λ i. cond (here i) (blank b) b ∷ rest i

next_behind : (start place q : ℕ) → start ≤ q → (between start place q || nat_eq place q) ≡ between start (place + 1) q
next_behind start place q from =
    let a : leb start q ≡ true = le-leb start q from in
    ⊎_elim (λ (same : q ≡ place).
    let b : ltb q place ≡ false = le-ltb q place (omega arith) in
    let n : nat_eq place q ≡ true = eq-eqb place q (sym same) in
    let c : ltb q (place + 1) ≡ true = lt-ltb q (place + 1) (omega arith) in
    (λ i. (a i && b i) || n i) ∙ sym (λ i. a i && c i))
    (λ order. ⊎_elim (λ (less : q < place).
    let b : ltb q place ≡ true = lt-ltb q place less in
    let n : nat_eq place q ≡ false = ne_eqb place q (λ e. absurd (omega arith)) in
    let c : ltb q (place + 1) ≡ true = lt-ltb q (place + 1) (omega arith) in
    (λ i. (a i && b i) || n i) ∙ sym (λ i. a i && c i))
    (λ (more : place < q).
    let b : ltb q place ≡ false = le-ltb q place (omega arith) in
    let n : nat_eq place q ≡ false = ne_eqb place q (λ e. absurd (omega arith)) in
    let c : ltb q (place + 1) ≡ false = le-ltb q (place + 1) (omega arith) in
    (λ i. (a i && b i) || n i) ∙ sym (λ i. a i && c i)) order) (cases_order q place)

next_place : (start place q : ℕ) → start ≤ place → (between start place q || nat_eq place q) ≡ between start (place + 1) q
next_place start place q from =
    ⊎_elim (λ (before : q < start).
    let a : leb start q ≡ false = lt-leb start q before in
    let n : nat_eq place q ≡ false = ne_eqb place q (λ e. absurd (omega arith)) in
    (λ i. (a i && ltb q place) || n i) ∙ sym (λ i. a i && ltb q (place + 1)))
    (λ (behind : start ≤ q). next_behind start place q behind) (cases_lt q start)

pub blanked_next : (start place : ℕ) (bs cs ds : Bytes) → start ≤ place → cs ≡ blanked (between start place) 0 bs → ds ≡ blanked (nat_eq place) 0 cs
    → ds ≡ blanked (between start (place + 1)) 0 bs
blanked_next start place bs cs ds from first second =
    second ∙ ap (blanked (nat_eq place) 0) first ∙ blanked_twice (between start place) (nat_eq place) 0 bs
    ∙ blanked_same (λ q. between start place q || nat_eq place q) (between start (place + 1)) 0 bs (λ q. next_place start place q from)

-- the part up to the end of the bytes is blanked
pub blanked_whole : (s : Span) (place end : ℕ) (bs cs : Bytes) → end ≤ s.end → end ≤ length bs → (end ≡ s.end) ⊎ (end ≡ length bs)
    → (place ≤ end) ⊎ (place ≡ s.start) → end ≤ place → cs ≡ blanked (between s.start place) 0 bs → cs ≡ blanked (is_in s) 0 bs
blanked_whole s place end bs cs most within either low high is =
    is ∙ blanked_agree (between s.start place) (is_in s) 0 bs (λ q from to. same q to)
  where
    same : (q : ℕ) → q < 0 + length bs → between s.start place q ≡ is_in s q
    same q to =
        ⊎_elim (λ (before : q < s.start). let a : leb s.start q ≡ false = lt-leb s.start q before in
        (λ i. a i && ltb q place) ∙ sym (λ i. a i && ltb q s.end))
        (λ (behind : s.start ≤ q). ap (λ t. leb s.start q && t)
        (⊎_elim (λ (less : q < place). lt-ltb q place less ∙ sym (lt-ltb q s.end (omega (arith, low, either))))
        (λ (more : place ≤ q). le-ltb q place more ∙ sym (le-ltb q s.end (omega (arith, low, either)))) (cases_lt q place)))
        (cases_lt q s.start)

pub blanked_begun : (start : ℕ) (bs : Bytes) → bs ≡ blanked (between start start) 0 bs
blanked_begun start bs = sym (blanked_none (between start start) 0 bs none)
  where
    none : (q : ℕ) → between start start q ≡ false
    none q = ⊎_elim (λ (before : q < start). let a : leb start q ≡ false = lt-leb start q before in λ i. a i && ltb q start)
        (λ (behind : start ≤ q). and_right (leb start q) (ltb q start) (le-ltb q start behind)) (cases_lt q start)

-- ---- part after part

pub all_begun : (bs : Bytes) (ss : List values.Span) → bs ≡ blanked (is_in_one (spans_of (take 0 ss))) 0 bs
all_begun bs [] = sym (blanked_none (is_in_one []) 0 bs (λ q. refl))
all_begun bs (s ∷ ss) = sym (blanked_none (is_in_one []) 0 bs (λ q. refl))

pub all_next : (ss : List values.Span) (n : ℕ) (d : values.Span) (bs cs ds : Bytes) → n < length ss → cs ≡ blanked (is_in_one (spans_of (take n ss))) 0 bs
    → ds ≡ blanked (is_in (span_of (get_or ss n d))) 0 cs → ds ≡ blanked (is_in_one (spans_of (take (n + 1) ss))) 0 bs
all_next ss n d bs cs ds less first second =
    let s = span_of (get_or ss n d) in
    let more : spans_of (take (n + 1) ss) ≡ spans_of (take n ss) ++ s ∷ [] =
    ap spans_of (take_more ss n d less) ∙ map-append span_of (take n ss) (get_or ss n d ∷ []) in
    blanked_more (spans_of (take n ss)) (s ∷ []) bs cs ds first (in_one_alone s cs ds second) ∙ ap (λ us. blanked (is_in_one us) 0 bs) (sym more)

-- the byte at a place is blanked, where it is none but a newline and where it is one

blanked_here : (k : ℕ) (bs : Bytes) → k < length bs → blanked (nat_eq k) 0 bs ≡ set bs k (blank (get_or bs k 0))
blanked_here k bs less =
    let same : k ≡ 0 + k = omega arith in ap (λ n. blanked (nat_eq n) 0 bs) same ∙ blanked_at k 0 bs 0 less

pub blank_other : (k : ℕ) (bs : Bytes) → k < length bs → (get_or bs k 0 ≡ 10 → ⊥) → set bs k 32 ≡ blanked (nat_eq k) 0 bs
blank_other k bs less other =
    let e : nat_eq (get_or bs k 0) 10 ≡ false = ne_eqb (get_or bs k 0) 10 other in
    sym (blanked_here k bs less ∙ ap (λ t. set bs k (cond t 10 32)) e)

pub blank_newline : (k : ℕ) (bs : Bytes) → k < length bs → get_or bs k 0 ≡ 10 → bs ≡ blanked (nat_eq k) 0 bs
blank_newline k bs less is =
    let e : nat_eq (get_or bs k 0) 10 ≡ true = eq-eqb (get_or bs k 0) 10 is in
    sym (blanked_here k bs less ∙ ap (λ t. set bs k (cond t 10 32)) e ∙ ap (λ c. set bs k c) (sym is) ∙ set-get_or bs k 0)

-- what a slice was made is what the vector holds
written_back : {X : Type 0} (n : ℕ) (new items : List X) → length new ≡ length items → n ≡ length items → take n (new ++ drop (length new) items) ≡ new
written_back n new items same long =
    ap (λ l. take n (new ++ l)) (drop_all (length new) items (omega arith)) ∙ ap (take n) (append-nil new) ∙ take_all n new (omega arith)

drop-map : {X Y : Type 0} (f : X → Y) (n : ℕ) (xs : List X) → drop n (map f xs) ≡ map f (drop n xs)
drop-map f zero [] = refl
drop-map f (suc n) [] = refl
drop-map f zero (x ∷ xs) = refl
drop-map f (suc n) (x ∷ xs) = drop-map f n xs

-- the text of one query, where those before it are blanked first and then those behind it
pub single_made : (n k : ℕ) (ss : List values.Span) (bs items one two first second : Bytes) → items ≡ bs → n ≡ length items
    → first ≡ items → one ≡ blanked (is_in_one (spans_of (take k ss))) 0 first
    → second ≡ take n (one ++ drop (length one) items) → two ≡ blanked (is_in_one (spans_of (drop (k + 1) ss))) 0 second
    → take n (two ++ drop (length two) (take n (one ++ drop (length one) items))) ≡ single bs (spans_of ss) k
single_made n k ss bs items one two first second read long first_is one_is second_is two_is =
    let one_long = ap length one_is ∙ blanked-length (is_in_one (spans_of (take k ss))) 0 first ∙ ap length first_is in
    let back = written_back n one items one_long long in
    let two_long = ap length two_is ∙ blanked-length (is_in_one (spans_of (drop (k + 1) ss))) 0 second ∙ ap length second_is in
    let back_long = ap length back in
    let whole = written_back n two (take n (one ++ drop (length one) items)) two_long (omega (arith, long, one_long, back_long)) in
    let start = one_is ∙ ap (blanked (is_in_one (spans_of (take k ss))) 0) (first_is ∙ read) in
    let behind = two_is ∙ ap (blanked (is_in_one (spans_of (drop (k + 1) ss))) 0) (second_is ∙ back) in
    let next : k + 1 ≡ suc k = omega arith in
    let names : spans_of (take k ss) ++ spans_of (drop (k + 1) ss) ≡ others k (spans_of ss)
    = (λ i. sym (take-map span_of k ss) i ++ (ap (λ m. spans_of (drop m ss)) next ∙ sym (drop-map span_of (suc k) ss)) i) in
    whole ∙ blanked_more (spans_of (take k ss)) (spans_of (drop (k + 1) ss)) bs one two start behind ∙ ap (λ us. blanked (is_in_one us) 0 bs) names
