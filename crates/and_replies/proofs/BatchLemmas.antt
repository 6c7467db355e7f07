-- What a text of several queries is answered with.
use Rattle.std.proofs.Common.{◌≡◌, ℕ, zero, suc, ◌+◌, ◌<◌, ◌≤◌, ◌||◌, Bool, true, false, List, [], ◌∷◌, ◌++◌, length, map, drop, nat_eq, get_or, refl, sym}
use Rattle.std.proofs.Common.{ap, ◌∙◌, subst, arith, rules, take, append-nil, append_assoc, length-append}
use Rattle.std.specs.Result.{is_err, OnOk}
use Rattle.std.specs.Prelude.{All, Option, Some, None, slice_get, Result, Ok, Err, IfOk}
use Rattle.std.proofs.lemmas.Bool.{false≢true}
use Rattle.std.proofs.lemmas.Option.{get_or_from_slice_get, slice_get_within}
use Rattle.std.proofs.lemmas.List.{length-take-le, take_all, take_more}
use Rattle.and_model.specs.Lines.{Bytes}
use Rattle.and_source.specs.Source.{SourceProgram}
use Rattle.and_language.specs.Refusals.{Refusal, Reads}
use Rattle.and_reader.specs.Causes.{refusal_of}
use Rattle.and_reader.specs.RefusalLine.{refusal_line}
use Rattle.and_reader.specs.declared.refusal.ReadRefusal.{ReadRefusal}
use Rattle.and_reader.proofs.Judgement.{read_not_refused}
use Rattle.and_batch.specs.Working.{IsDueAtEach}
use Rattle.and_batch_text.specs.Queries.{Span}
use Rattle.and_batch_text.specs.Refused.{IsBatch, IsBatchRefused}
use Rattle.and_batch_text.specs.Singles.{single}
use Rattle.and_batch_text.specs.Views.{spans_of}
use Rattle.and_batch_text.specs.declared.span.Span as values
use Rattle.and_batch_reader.specs.Opened.{IsRefusedAs}
use Rattle.and_questions.specs.Batched.{Part, IsBatched, IsPart, WasBatched, batch_status, joined, query_line, some_part, status_by, has_met_limit}
use Rattle.and_questions.specs.Batched.{has_floundered, has_no_line}
use Rattle.and_replies.specs.Handed.{IsDue, IsHanded, handed, joined_texts, number_of, some_text, status_of_texts}
use Rattle.and_questions.specs.Replied.{IsLineOf, WasAnswered, WasReplied}
use Rattle.and_questions.specs.declared.reply.Reply.{Reply}
use Rattle.and_questions.specs.declared.question.Question.{Question}
use Rattle.and_status.specs.declared.status.Status.{Status}
use Rattle.and_status.specs.declared.status.Status.TheVariants.{Answers, NoAnswer, Usage, Refused, ReadFault, WriteFault, Limit, Memory, Floundered}

-- ---- one part

-- what is the text of a program is not refused
pub replied : (question : Question) (status : Status) (text out : Bytes) → (P : SourceProgram) × Reads text P → WasAnswered question status text out
    → WasReplied question status text out
replied question Answers text out read w = w
replied question NoAnswer text out read w = w
replied question Usage text out read w = absurd w
replied question Refused text out (P, reads) (r, is, said) = absurd (read_not_refused text P r reads is)
replied question ReadFault text out read w = absurd w
replied question WriteFault text out read w = absurd w
replied question Limit text out read w = w
replied question Memory text out read w = absurd w
replied question Floundered text out read w = w

part_of : Status → Bytes → Part
part_of status out = record { status = status; out = out }

-- what is handed on for a query
pub is_handed : (question : Question) (bytes : Bytes) (spans : List Span) (k : ℕ) (status : Status) (text out given : Bytes)
    → IsBatch bytes spans → k < length spans
    → text ≡ single bytes spans k → WasAnswered question status text out → given ≡ handed status out
    → IsHanded (WasReplied question) bytes spans k given
unfolding part_of
is_handed question bytes spans k status text out given batch less is w said =
    let answered = subst (λ t. WasAnswered question status t out) is w in
    (part_of status out, replied question status (single bytes spans k) out (batch.read k less) answered, said)

-- ---- all parts

hand : Part → Bytes
hand p = handed p.status p.out

none_there : {X : Type 0} (x : X) → ◌≡◌ {A = Option X} None (Some x) → ⊥
none_there x e = cc

some_same : {X : Type 0} (x y : X) → ◌≡◌ {A = Option X} (Some x) (Some y) → x ≡ y
some_same x y e = cc

-- texts of which each is that of a part, as such a fact has it, are those of a list of parts
gathered : (P : ℕ → Part → Type 0) (texts : List Bytes) → ((k : ℕ) (t : Bytes) → slice_get texts k ≡ Some t → (p : Part) × P k p × (t ≡ handed p.status p.out))
    → (parts : List Part) × (texts ≡ map hand parts) × ((k : ℕ) (p : Part) → slice_get parts k ≡ Some p → P k p)
unfolding hand
gathered P [] each = ([], refl, λ k p e. absurd (none_there p e))
gathered P (t ∷ ts) each =
    let first = each 0 t refl in
    let rest = gathered (λ k. P (suc k)) ts (λ k u e. each (suc k) u e) in
    (first.0 ∷ rest.0, (λ i. first.2 i ∷ rest.1 i), of_each first.0 rest.0 first.1 rest.2)
  where
    of_each : (p : Part) (ps : List Part) → P 0 p → ((k : ℕ) (q : Part) → slice_get ps k ≡ Some q → P (suc k) q) → (k : ℕ) (q : Part)
        → slice_get (p ∷ ps) k ≡ Some q → P k q
    of_each p ps here behind zero q e = let same : p ≡ q = some_same p q e in subst (λ r. P 0 r) same here
    of_each p ps here behind (suc k) q e = behind k q e

drop_none : (bs : Bytes) → drop 0 bs ≡ bs
drop_none [] = refl
drop_none (b ∷ bs) = refl

joined_hands : (n : ℕ) (parts : List Part) → joined_texts n (map hand parts) ≡ joined n parts
unfolding hand
joined_hands n [] = refl
joined_hands n (p ∷ ps) = λ i. query_line n ++ drop_none p.out i ++ joined_hands (suc n) ps i

some_hands : (n : ℕ) (test : Status → Bool) (parts : List Part) → ((s : Status) → nat_eq (number_of s) n ≡ test s)
    → some_text n (map hand parts) ≡ some_part test parts
unfolding hand
some_hands n test [] same = refl
some_hands n test (p ∷ ps) same = λ i. same p.status i || some_hands n test ps same i

limit_is : (s : Status) → nat_eq (number_of s) 6 ≡ has_met_limit s
limit_is Answers = refl
limit_is NoAnswer = refl
limit_is Usage = refl
limit_is Refused = refl
limit_is ReadFault = refl
limit_is WriteFault = refl
limit_is Limit = refl
limit_is Memory = refl
limit_is Floundered = refl

floundered_is : (s : Status) → nat_eq (number_of s) 8 ≡ has_floundered s
floundered_is Answers = refl
floundered_is NoAnswer = refl
floundered_is Usage = refl
floundered_is Refused = refl
floundered_is ReadFault = refl
floundered_is WriteFault = refl
floundered_is Limit = refl
floundered_is Memory = refl
floundered_is Floundered = refl

none_is : (s : Status) → nat_eq (number_of s) 1 ≡ has_no_line s
none_is Answers = refl
none_is NoAnswer = refl
none_is Usage = refl
none_is Refused = refl
none_is ReadFault = refl
none_is WriteFault = refl
none_is Limit = refl
none_is Memory = refl
none_is Floundered = refl

status_of_hands : (parts : List Part) → status_of_texts (map hand parts) ≡ batch_status parts
status_of_hands parts = λ i. status_by (some_hands 6 has_met_limit parts limit_is i) (some_hands 8 has_floundered parts floundered_is i)
    (some_hands 1 has_no_line parts none_is i)

-- ---- the whole

is_told : Status → Bool
is_told Answers = true
is_told NoAnswer = true
is_told Usage = false
is_told Refused = false
is_told ReadFault = false
is_told WriteFault = false
is_told Limit = true
is_told Memory = false
is_told Floundered = true

told_by : (limit floundered none : Bool) → is_told (status_by limit floundered none) ≡ true
unfolding is_told
told_by true floundered none = refl
told_by false true none = refl
told_by false false true = refl
told_by false false false = refl

module _ (Replies : Status → Bytes → Bytes → Type 0) where
  told_status : (status : Status) (bytes out : Bytes) → IsBatched Replies status bytes out → is_told status ≡ true
  told_status status bytes out w =
      let ps = w.parts in
      ap is_told w.status_is ∙ told_by (some_part has_met_limit ps) (some_part has_floundered ps) (some_part has_no_line ps)

  was_batched : (status : Status) (bytes out : Bytes) → IsBatched Replies status bytes out → WasBatched Replies status bytes out
  unfolding is_told
  was_batched Answers bytes out w = w
  was_batched NoAnswer bytes out w = w
  was_batched Usage bytes out w = absurd (false≢true (told_status Usage bytes out w))
  was_batched Refused bytes out w = absurd (false≢true (told_status Refused bytes out w))
  was_batched ReadFault bytes out w = absurd (false≢true (told_status ReadFault bytes out w))
  was_batched WriteFault bytes out w = absurd (false≢true (told_status WriteFault bytes out w))
  was_batched Limit bytes out w = w
  was_batched Memory bytes out w = absurd (false≢true (told_status Memory bytes out w))
  was_batched Floundered bytes out w = w

  of_parts : (bytes : Bytes) (spans : List Span) (texts : List Bytes) → IsBatch bytes spans → length texts ≡ length spans
      → IsDueAtEach (IsDue Replies bytes spans) texts
      → (parts : List Part) × (texts ≡ map hand parts) × ((k : ℕ) (p : Part) → slice_get parts k ≡ Some p → IsPart Replies bytes spans k p)
  of_parts bytes spans texts batch long due =
      gathered (IsPart Replies bytes spans) texts (λ k t e. due k t e batch (omega (arith, long, slice_get_within texts k t e)))

  -- each of the texts tells a status
  pub each_told : (bytes : Bytes) (spans : List Span) (texts : List Bytes) → IsBatch bytes spans → length texts ≡ length spans
      → IsDueAtEach (IsDue Replies bytes spans) texts → All (λ t. 0 < length t) texts
  unfolding hand
  each_told bytes spans texts batch long due =
      let w = of_parts bytes spans texts batch long due in subst (All (λ t. 0 < length t)) (sym w.1) (all_told w.0)
    where
      all_told : (parts : List Part) → All (λ t. 0 < length t) (map hand parts)
      all_told [] = search rules
      all_told (p ∷ ps) = let rest = all_told ps in let here : 0 < suc (length p.out) = omega arith in search (rules, here, rest)

  map_long : (parts : List Part) → length (map hand parts) ≡ length parts
  map_long [] = refl
  map_long (p ∷ ps) = ap suc (map_long ps)

  -- what is joined of the texts of all queries answers the whole
  pub all_joined : (bytes : Bytes) (spans : List Span) (texts : List Bytes) (status : Status) (out : Bytes) → IsBatch bytes spans
      → length texts ≡ length spans → IsDueAtEach (IsDue Replies bytes spans) texts → status ≡ status_of_texts texts → out ≡ joined_texts 0 texts
      → WasBatched Replies status bytes out
  all_joined bytes spans texts status out batch long due told written =
      let w = of_parts bytes spans texts batch long due in
      was_batched status bytes out (record {
        spans = spans;
        batch = batch;
        parts = w.0;
        are_parts = record { count = sym (map_long w.0) ∙ (sym (ap length w.1) ∙ long); each = w.2 };
        written = written ∙ (ap (joined_texts 0) w.1 ∙ joined_hands 0 w.0);
        status_is = told ∙ (ap status_of_texts w.1 ∙ status_of_hands w.0);
      })

  -- a text that is refused as one of several queries
  pub batch_refused : (bytes : Bytes) (r : Refusal) (status : Status) (out : Bytes) → IsBatchRefused bytes r → status ≡ Refused → out ≡ refusal_line r
      → WasBatched Replies status bytes out
  batch_refused bytes r status out is refused said = subst (λ s. WasBatched Replies s bytes out) (sym refused) (r, is, said)

-- ---- results

pub part_given : {E : Type 0} (question : Question) (r : Result Bytes E) (bytes : Bytes) (spans : List Span) (k : ℕ) (status : Status) (text out : Bytes)
    → k < length spans → text ≡ single bytes spans k → WasAnswered question status text out → IfOk r (λ given. given ≡ handed status out) → IsBatch bytes spans
    → IfOk r (IsHanded (WasReplied question) bytes spans k)
part_given question (Ok given) bytes spans k status text out less is w said batch = is_handed question bytes spans k status text out given batch less is w said
part_given question (Err e) bytes spans k status text out less is w said batch = tt

pub refused_batch : {E : Type 0} (Replies : Status → Bytes → Bytes → Type 0) (r : Result Reply E) (bytes : Bytes) (refusal : ReadRefusal)
    → IsRefusedAs (IsBatchRefused bytes) refusal → IfOk r (λ reply. reply.status ≡ Refused) → IfOk r (λ reply. IsLineOf (refusal_of refusal) reply.text)
    → IfOk r (λ reply. WasBatched Replies reply.status bytes reply.text)
refused_batch Replies (Ok reply) bytes refusal (r, is, why) status line =
    let said = subst (λ o. IsLineOf o reply.text) is line in batch_refused Replies bytes r reply.status reply.text why status said
refused_batch Replies (Err e) bytes refusal why status line = tt

pub joined_reply : {E : Type 0} (Replies : Status → Bytes → Bytes → Type 0) (r : Result Reply E) (bytes : Bytes) (spans : List Span) (texts : List Bytes)
    → IsBatch bytes spans → length texts ≡ length spans → IsDueAtEach (IsDue Replies bytes spans) texts → IfOk r (λ reply. reply.text ≡ joined_texts 0 texts)
    → IfOk r (λ reply. reply.status ≡ status_of_texts texts) → IfOk r (λ reply. WasBatched Replies reply.status bytes reply.text)
joined_reply Replies (Ok reply) bytes spans texts batch long due written told =
    all_joined Replies bytes spans texts reply.status reply.text batch long due told written
joined_reply Replies (Err e) bytes spans texts batch long due written told = tt

pub spans_count : (ss : List values.Span) → length (spans_of ss) ≡ length ss
spans_count [] = refl
spans_count (s ∷ ss) = ap suc (spans_count ss)

-- what a job hands on, where the text is one of several queries
pub due_given : {E : Type 0} (Replies : Status → Bytes → Bytes → Type 0) (r : Result Bytes E) (bytes : Bytes) (spans : List Span) (k : ℕ)
    → (IsBatch bytes spans → IfOk r (IsHanded Replies bytes spans k)) → IfOk r (IsDue Replies bytes spans k)
due_given Replies (Ok given) bytes spans k given_by = λ batch less. given_by batch
due_given Replies (Err e) bytes spans k given_by = tt

pub joined_opened : {E : Type 0} (Replies : Status → Bytes → Bytes → Type 0) (r : Result Reply E) (bytes : Bytes) (items seen : List values.Span)
    (texts : List Bytes) → seen ≡ items → IsBatch bytes (spans_of items) → length texts ≡ length seen → IsDueAtEach (IsDue Replies bytes (spans_of seen)) texts
    → IfOk r (λ reply. reply.text ≡ joined_texts 0 texts) → IfOk r (λ reply. reply.status ≡ status_of_texts texts)
    → IfOk r (λ reply. WasBatched Replies reply.status bytes reply.text)
joined_opened Replies r bytes items seen texts same batch long due written told =
    joined_reply Replies r bytes (spans_of seen) texts (subst (λ ss. IsBatch bytes (spans_of ss)) (sym same) batch) (long
    ∙ sym (spans_count seen)) due written told

-- ---- text after text

pub due_first : (due : ℕ → Bytes → Type 0) → IsDueAtEach due []
due_first due = λ k t e. absurd (none_there t e)

by_place : (due : ℕ → Bytes → Type 0) (s : Bytes) (us : List Bytes) → due 0 s → ((k : ℕ) (u : Bytes) → slice_get us k ≡ Some u → due (suc k) u) → (k : ℕ)
    (u : Bytes) → slice_get (s ∷ us) k ≡ Some u → due k u
by_place due s us here behind zero u e = let same : s ≡ u = some_same s u e in subst (λ v. due 0 v) same here
by_place due s us here behind (suc k) u e = behind k u e

pub due_more : (due : ℕ → Bytes → Type 0) (ts : List Bytes) (t : Bytes) → IsDueAtEach due ts → due (length ts) t → IsDueAtEach due (ts ++ t ∷ [])
due_more due [] t each last = by_place due t [] last (λ k u e. absurd (none_there u e))
due_more due (s ∷ ts) t each last =
    by_place due s (ts ++ t ∷ []) (each 0 s refl) (due_more (λ n. due (suc n)) ts t (λ n v f. each (suc n) v f) last)

-- what a call did that did not fail
pub went_well : {X E : Type 0} (r : Result X E) (fact : Type 0) → is_err r ≡ false → OnOk r fact → fact
went_well (Ok x) fact fine is = is
went_well (Err e) fact fine is = absurd (false≢true (sym fine))

pub count_pushed : (ts new : List Bytes) (t : Bytes) (k : ℕ) → new ≡ ts ++ t ∷ [] → length ts ≡ k → length new ≡ k + 1
count_pushed ts new t k put long =
    let joined : length (ts ++ t ∷ []) ≡ length ts + 1 = length-append ts (t ∷ []) in
    let same : length new ≡ length (ts ++ t ∷ []) = ap length put in
    omega (arith, joined, same, long)

pub due_pushed : (due : ℕ → Bytes → Type 0) (ts new : List Bytes) (t : Bytes) (k : ℕ) → new ≡ ts ++ t ∷ [] → length ts ≡ k → IsDueAtEach due ts → due k t
    → IsDueAtEach due new
due_pushed due ts new t k put long each last =
    subst (IsDueAtEach due) (sym put) (due_more due ts t each (subst (λ n. due n t) (sym long) last))

close_line : (q d : Bytes) → q ++ d ++ [] ≡ q ++ d
close_line q d = append-nil (q ++ d)

joined_last : (n : ℕ) (ts : List Bytes) (t : Bytes) (m : ℕ) → m ≡ n + length ts → joined_texts n (ts ++ t ∷ []) ≡ joined_texts n ts ++ query_line m ++ drop 1 t
joined_last n [] t m is =
    let same : n ≡ m = omega (arith, is) in
    subst (λ k. query_line n ++ drop 1 t ++ [] ≡ query_line k ++ drop 1 t) same (close_line (query_line n) (drop 1 t))
joined_last n (s ∷ ts) t m is =
    let front = query_line n ++ drop 1 s in
    let rest = joined_texts (suc n) ts in
    let line = query_line m in
    let last = drop 1 t in
    ap (λ b. front ++ b) (joined_last (suc n) ts t m (omega (arith, is)))
    ∙ (sym (append_assoc front (rest ++ line) last) ∙ ap (λ b. b ++ last) (sym (append_assoc front rest line)))

some_last : (n : ℕ) (ts : List Bytes) (t : Bytes) → some_text n (ts ++ t ∷ []) ≡ (some_text n ts || nat_eq (get_or t 0 0) n)
some_last n [] t = or_nothing (nat_eq (get_or t 0 0) n)
  where
    or_nothing : (b : Bool) → (b || false) ≡ b
    or_nothing true = refl
    or_nothing false = refl
some_last n (s ∷ ts) t = ap (λ b. nat_eq (get_or s 0 0) n || b) (some_last n ts t) ∙ or_or (nat_eq (get_or s 0 0) n) (some_text n ts) (nat_eq (get_or t 0 0) n)
  where
    or_or : (x y z : Bool) → (x || (y || z)) ≡ ((x || y) || z)
    or_or true y z = refl
    or_or false y z = refl

one_more : (ts : List Bytes) (k : ℕ) (t : Bytes) → slice_get ts k ≡ Some t → take (k + 1) ts ≡ take k ts ++ t ∷ []
one_more ts k t found = take_more ts k [] (slice_get_within ts k t found) ∙ ap (λ u. take k ts ++ u ∷ []) (get_or_from_slice_get ts k t [] found)

pub text_more : (ts : List Bytes) (k : ℕ) (t out new : Bytes) → slice_get ts k ≡ Some t → out ≡ joined_texts 0 (take k ts)
    → new ≡ out ++ query_line k ++ drop 1 t → new ≡ joined_texts 0 (take (k + 1) ts)
text_more ts k t out new found before put =
    let long = length-take-le k ts (let within = slice_get_within ts k t found in omega (arith, within)) in
    put ∙ ap (λ b. b ++ query_line k ++ drop 1 t) before
    ∙ sym (ap (joined_texts 0) (one_more ts k t found) ∙ joined_last 0 (take k ts) t k (omega (arith, long)))

pub some_more : (n : ℕ) (ts : List Bytes) (k : ℕ) (t : Bytes) (seen new : Bool) → slice_get ts k ≡ Some t → seen ≡ some_text n (take k ts)
    → new ≡ (seen || nat_eq (get_or t 0 0) n) → new ≡ some_text n (take (k + 1) ts)
some_more n ts k t seen new found before put =
    put ∙ ap (λ b. b || nat_eq (get_or t 0 0) n) before ∙ sym (ap (some_text n) (one_more ts k t found) ∙ some_last n (take k ts) t)

pub some_whole : (ts : List Bytes) (k : ℕ) (limit floundered none : Bool) → length ts ≤ k → limit ≡ some_text 6 (take k ts)
    → floundered ≡ some_text 8 (take k ts) → none ≡ some_text 1 (take k ts) → status_by limit floundered none ≡ status_of_texts ts
some_whole ts k limit floundered none all l f n =
    let whole = take_all k ts all in
    λ i. status_by ((l ∙ ap (some_text 6) whole) i) ((f ∙ ap (some_text 8) whole) i) ((n ∙ ap (some_text 1) whole) i)
