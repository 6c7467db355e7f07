-- A text that begins so, with one query behind that, is that of the program of the clauses and the query.
use Rattle.std.proofs.Common.{ℕ, suc, ◌≤◌, ◌≡◌, true, [], ◌∷◌, ◌++◌, length, take, Result, Ok, Err, refl, sym, ap, ◌∙◌, subst}
use Rattle.std.specs.Result.{IfOk}
use Rattle.and_model.specs.Lines.{Bytes}
use Rattle.and_model.specs.Programs.{Program}
use Rattle.and_model.specs.declared.limits.TheConstants.{MAX_BYTES}
use Rattle.and_syntax.specs.Tables.{Table, program_of, with_query}
use Rattle.and_language.specs.Tokens.{newlines, line_at}
use Rattle.and_language.specs.Grammar.{Sort, Statement}
use Rattle.and_language.specs.Refusals.{IsTextOf, IsLiftedFrom}
use Rattle.and_automaton.proofs.Texts.{joined}
use Rattle.and_clauses.specs.Asking.{IsPutTo}
use Rattle.and_drafts.specs.Drafts.{draft_of}
use Rattle.and_drafts.specs.declared.draft.ClauseDraft.{ClauseDraft}
use Rattle.and_reader.specs.Beginning.{BeginsWith, IsBegunSo, IsQueryOf, IsGoneOn, IsPutOn, Had}
use Rattle.and_reader.specs.declared.kept.GoneOn.{GoneOn}
use Rattle.and_reader.specs.declared.kept.GoneOn.TheVariants as gone
use Rattle.and_reader.proofs.ReadingLemmas.{takes_more}

pub lifted_on : (text front : Bytes) (end : ℕ) (T : Table) (d : ClauseDraft) (P : Program) → length text ≤ MAX_BYTES → (b : IsBegunSo front end T)
    → BeginsWith front text → IsQueryOf text b.whole d → IsPutTo T (draft_of d) P → IsLiftedFrom text P
lifted_on text front end T d P small b begins q put =
    let told = put q.term q.finished in
    let s : Statement = record { sort = Sort.query; term = q.term; place = q.place } in
    let U : Table = with_query T q.term (draft_of d).line in
    let sealed = told.1 in
    let is : IsTextOf text (program_of U sealed.0) = record {
      size = small;
      words = b.whole ++ q.words;
      spelled = q.spelled;
      table = U;
      taken = record {
        statements = b.statements ++ s ∷ [];
        spelled = joined true b.whole q.words b.statements (s ∷ []) b.read q.read;
        taken = takes_more text U s (b.taken text begins) told.0 (ap (with_query T q.term) q.line);
      };
      query = sealed.0;
      asked = sealed.1;
      known = sealed.2;
      program = refl;
    } in
    (program_of U sealed.0, is, sealed.3)

begun_same : (front begun : Bytes) (end last : ℕ) (T U : Table) → begun ≡ front → last ≡ end → U ≡ T → IsBegunSo front end T → IsBegunSo begun last U
begun_same front begun end last T U f e t b =
    subst (λ x. IsBegunSo x last U) (sym f) (subst (λ n. IsBegunSo front n U) (sym e) (subst (IsBegunSo front end) (sym t) b))

-- what comes of it, where a query is put to the clauses of a beginning
pub gone_on : (text : Bytes) (had : Had) (d : ClauseDraft) (r : GoneOn) → length text ≤ MAX_BYTES → (b : IsBegunSo had.front had.end had.table)
    → BeginsWith had.front text → IsQueryOf text b.whole d → IsPutOn had (draft_of d) r → IsGoneOn text r
gone_on text had d (gone.Whole w) small b begins q (front, end, table, put) = (
  begun_same had.front _ had.end _ had.table _ front end table b,
  lifted_on text had.front had.end had.table d _ small b begins q put,
)
gone_on text had d (gone.Left c) small b begins q (front, end, table) = begun_same had.front _ had.end _ had.table _ front end table b

pub gone_given : {E : Type 0} (text : Bytes) (had : Had) (d : ClauseDraft) (r : Result GoneOn E) → length text ≤ MAX_BYTES
    → (b : IsBegunSo had.front had.end had.table) → BeginsWith had.front text → IsQueryOf text b.whole d → IfOk r (IsPutOn had (draft_of d))
    → IfOk r (IsGoneOn text)
gone_given text had d (Ok r) small b begins q put = gone_on text had d r small b begins q put
gone_given text had d (Err e) small b begins q put = tt

-- the line behind a front is that of the text
pub line_here : (text front : Bytes) (place line : ℕ) → line ≡ suc (newlines front) → take (length front) text ≡ front → place ≡ length front
    → line ≡ line_at text place
line_here text front place line is begins at = is ∙ ap (λ xs. suc (newlines xs)) (sym begins) ∙ ap (λ n. line_at text n) (sym at)
