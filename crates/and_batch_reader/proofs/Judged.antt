-- What is told of a text's queries.
use Rattle.std.proofs.Common.{◌≡◌, ℕ, suc, ◌+◌, ◌<◌, ◌≤◌, Bool, true, false, List, [], ◌∷◌, length, refl, sym, ap, ◌∙◌, subst, arith, ⊎_elim, get_or, map}
use Rattle.std.specs.Prelude.{Option, Some, None, IfSome, is_none, is_some, slice_get, Result, Ok, Err, IfOk}
use Rattle.std.specs.Option.{option_map}
use Rattle.std.proofs.lemmas.Bool.{true≢false, false≢true, cases_lt}
use Rattle.std.proofs.lemmas.Option.{slice_get-get_or, slice_get-map}
use Rattle.and_model.specs.Lines.{Bytes}
use Rattle.and_model.specs.Programs.{Program}
use Rattle.and_model.specs.declared.limits.TheConstants.{MAX_BYTES}
use Rattle.and_source.specs.Source.{SourceProgram}
use Rattle.and_language.specs.Refusals.{Refusal, IsRefused, Reads, IsLiftedFrom, at, too_big, second_query}
use Rattle.and_language.specs.Tokens.{line_at}
use Rattle.and_syntax.specs.Tables.{source}
use Rattle.and_batch_text.specs.Queries.{Span, HasQueries}
use Rattle.and_batch_text.specs.Refused.{AreRead, IsBatch, IsBatchRefused}
use Rattle.and_batch_text.specs.Singles.{single}
use Rattle.and_batch_text.specs.Views.{span_of, spans_of}
use Rattle.and_batch_text.specs.declared.span.Span as values
use Rattle.and_reader.specs.Causes.{refusal_of, cause_of, refusal_with}
use Rattle.and_reader.specs.declared.refusal.ReadRefusal.{ReadRefusal}
use Rattle.and_batch_reader.specs.Opened.{IsRefusedAs, IsJudged, AreJudged, IsJudgedWhole}
use Rattle.and_batch_reader.proofs.Asked.{unasked}

pub judged_read : (text : Bytes) (P : Program) → IsLiftedFrom text P → IsJudged text None
judged_read text P (S, reads, is) = (S, reads)

refused_as : (o : Option Refusal) (fact : Refusal → Type 0) → IfSome o fact → is_none o ≡ false → (r : Refusal) × (o ≡ Some r) × fact r
refused_as None fact h some = absurd (true≢false some)
refused_as (Some r) fact h some = (r, refl, h)

pub judged_refused : (text : Bytes) (e : ReadRefusal) → IfSome (refusal_of e) (IsRefused text) → is_none (refusal_of e) ≡ false → IsJudged text (Some e)
judged_refused text e h some = refused_as (refusal_of e) (IsRefused text) h some

pub none_before : (bytes : Bytes) (spans : List Span) → AreRead bytes spans 0
none_before bytes spans = λ k less. absurd (omega (arith, less))

-- the query with that number is that of a program, as those before it are
pub one_more : (bytes : Bytes) (spans : List Span) (n : ℕ) (o : Option ReadRefusal) → AreRead bytes spans n → IsJudged (single bytes spans n) o
    → is_some o ≡ false → AreRead bytes spans (n + 1)
one_more bytes spans n (Some e) read judged none = absurd (true≢false none)
one_more bytes spans n None read judged none = λ k less.
    ⊎_elim (λ (before : k < n). read k before)
    (λ (behind : n ≤ k). let here : n ≡ k = omega arith in subst (λ m. (P : SourceProgram) × Reads (single bytes spans m) P) here judged) (cases_lt k n)

-- it is the first that is refused
pub first_one : (bytes : Bytes) (spans : List Span) (n : ℕ) (o : Option ReadRefusal) → n < length spans → AreRead bytes spans n
    → IsJudged (single bytes spans n) o → is_some o ≡ true → AreJudged bytes spans o
first_one bytes spans n None less read judged some = absurd (false≢true some)
first_one bytes spans n (Some e) less read judged some = (n, (less, read, judged))

pub all_read : (bytes : Bytes) (spans : List Span) (n : ℕ) → length spans ≤ n → AreRead bytes spans n → AreJudged bytes spans None
all_read bytes spans n most read = λ k less. read k (omega (arith, less, most))

pub spans_long : (ss : List values.Span) → length (spans_of ss) ≡ length ss
spans_long [] = refl
spans_long (s ∷ ss) = ap suc (spans_long ss)

pub without_any : (bytes : Bytes) (ss : List values.Span) (o : Option ReadRefusal) → ss ≡ [] → IsJudged bytes o → IsJudgedWhole bytes (spans_of ss) o
without_any bytes ss o none judged = subst (λ (us : List values.Span). IsJudgedWhole bytes (spans_of us) o) (sym none) judged

pub with_some : (bytes : Bytes) (spans : List Span) (o : Option ReadRefusal) → (spans ≡ [] → ⊥) → AreJudged bytes spans o → IsJudgedWhole bytes spans o
with_some bytes [] o some judged = absurd (some refl)
with_some bytes (s ∷ ss) o some judged = judged

-- ---- refusals at places

pub as_too_large : (bytes : Bytes) (line : ℕ) → MAX_BYTES < length bytes → line ≡ line_at bytes MAX_BYTES
    → (r : Refusal) × (Some (record { cause = too_big source; line = line }) ≡ Some r) × IsBatchRefused bytes r
as_too_large bytes line large is =
    let P : ℕ → Type 0 = λ n. IsBatchRefused bytes (record { cause = too_big source; line = n }) in
    (record { cause = too_big source; line = line }, refl, subst P (sym is) (IsBatchRefused.too_long large))

pub as_too_many : (bytes : Bytes) (ss : List values.Span) (d : values.Span) (line : ℕ) → length bytes ≤ MAX_BYTES → HasQueries bytes (spans_of ss)
    → 256 < length ss → line ≡ line_at bytes (get_or ss 256 d).start
    → (r : Refusal) × (Some (record { cause = second_query; line = line }) ≡ Some r) × IsBatchRefused bytes r
as_too_many bytes ss d line fits has many is =
    let found : slice_get (spans_of ss) 256 ≡ Some (span_of (get_or ss 256 d)) =
    slice_get-map span_of ss 256 ∙ ap (option_map span_of) (slice_get-get_or ss 256 d many) in
    let P : ℕ → Type 0 = λ n. IsBatchRefused bytes (record { cause = second_query; line = n }) in
    (record { cause = second_query; line = line }, refl, subst P (sym is) (IsBatchRefused.too_many (spans_of ss) (span_of (get_or ss 256 d)) fits has found))

-- ---- the whole

pub as_refused : (bytes : Bytes) (ss : List values.Span) (e : ReadRefusal) → length bytes ≤ MAX_BYTES → HasQueries bytes (spans_of ss) → length ss ≤ 256
    → IsJudgedWhole bytes (spans_of ss) (Some e) → IsRefusedAs (IsBatchRefused bytes) e
as_refused bytes ss e fits has few judged = by (spans_of ss) has (omega (arith, spans_long ss, few)) judged
  where
    by : (spans : List Span) → HasQueries bytes spans → length spans ≤ 256 → IsJudgedWhole bytes spans (Some e) → IsRefusedAs (IsBatchRefused bytes) e
    by [] has few (r, is, refused) = (r, is, IsBatchRefused.without_query r fits has refused)
    by (s ∷ us) has few (k, (less, read, (r, is, refused))) = (r, is, IsBatchRefused.at_query (s ∷ us) k r fits has few less read refused)

pub as_batch : (bytes : Bytes) (ss : List values.Span) → length bytes ≤ MAX_BYTES → HasQueries bytes (spans_of ss) → length ss ≤ 256
    → IsJudgedWhole bytes (spans_of ss) None → IsBatch bytes (spans_of ss)
as_batch bytes ss fits has few judged = by (spans_of ss) has (omega (arith, spans_long ss, few)) judged
  where
    by : (spans : List Span) → HasQueries bytes spans → length spans ≤ 256 → IsJudgedWhole bytes spans None → IsBatch bytes spans
    by [] has few (P, reads) = absurd (unasked bytes P has reads)
    by (s ∷ us) has few judged = record {
      size = fits;
      queries = has;
      some = omega arith;
      few = few;
      read = judged;
    }
