-- The beginning of a text, and its end.
use Rattle.std.proofs.Common.{◌≡◌, ◌≤◌, Bool, true, false, List, [], length, Option, Some, None, sym, refl, ap, ◌∙◌, subst}
use Rattle.std.specs.Option.{IfSome, is_some}
use Rattle.and_model.specs.Lines.{Bytes}
use Rattle.and_model.specs.Programs.{Program}
use Rattle.and_syntax.specs.Tables.{program_of, Table, empty}
use Rattle.and_language.specs.Tokens.{no_more, line_at}
use Rattle.and_language.specs.Words.{Placed}
use Rattle.and_language.specs.Grammar
use Rattle.and_language.specs.Refusals
use Rattle.and_language.specs.Refusals.{Refusal, at, Takes, HasWords, IsTaken, IsRefused, without_query, with_unknown, IsTextOf, IsLiftedFrom}
use Rattle.and_clauses.specs.Views.{table_of}
use Rattle.and_judging.specs.Sealing.{Seals, Refuses}
use Rattle.and_judging.specs.declared.data.SealFault.{SealFault}
use Rattle.and_judging.specs.declared.data.SealFault.TheVariants as seals
use Rattle.and_reader.specs.declared.lines.Cursor.{Cursor}
use Rattle.and_reader.specs.declared.reading.Begun.{Begun}
use Rattle.and_reader.specs.declared.reading.Reader.{Reader}
use Rattle.and_reader.specs.declared.refusal.ReadRefusal.{ReadRefusal}
use Rattle.and_reader.specs.declared.refusal.Cause.TheVariants as causes
use Rattle.and_reader.specs.Causes.{refusal_of, IsSealRefusal}
use Rattle.and_reader.specs.Reading.{IsRead, IsClause}
use Rattle.and_reader.proofs.ReadingLemmas.{end_refused, read_whole}
use Rattle.and_model.specs.declared.limits.TheConstants.{MAX_BYTES}

-- nothing is read yet
pub read_nothing : (r : Reader) → table_of r.table ≡ empty → r.cursor ≡ record { place = 0; line = 1 } → r.is_begun ≡ false → IsRead r.bytes.now r []
read_nothing r t c n =
    let P : Table → Type 0 = λ T. Takes r.bytes.now empty [] T in
    let start : Cursor = record { place = 0; line = 1 } in
    let line : r.cursor.line ≡ line_at r.bytes.now r.cursor.place = ap (λ (x : Cursor). x.line) c ∙ ap (λ (x : Cursor). line_at r.bytes.now x.place) (sym c) in
    record {
      text = refl;
      line = line;
      whole = [];
      begun = [];
      joined = refl;
      statements = [];
      spelled = Grammar.nothing;
      taken = subst P (sym t) (Refusals.nothing empty);
      rest = subst (λ (o : Bool). IsClause r.bytes.now o r.clause []) (sym n) refl;
    }

pub unended_text : (bytes : Bytes) (r : Reader) (ws : List Placed) → length bytes ≤ MAX_BYTES → HasWords bytes ws no_more → IsRead bytes r ws
    → r.is_begun ≡ true
    → (e : ReadRefusal) → e ≡ record { line = line_at r.bytes.now (length bytes); cause = causes.Syntax } → IfSome (refusal_of e) (IsRefused bytes)
unended_text bytes r ws small hw h s e q =
    let P : ReadRefusal → Type 0 = λ x. IfSome (refusal_of x) (IsRefused bytes) in
    let Q : Bytes → Type 0 = λ bs. IsRefused bytes (record { cause = Refusals.syntax; line = line_at bs (length bytes) }) in
    subst P (sym q) (subst Q (sym h.text) (end_refused bytes r ws h s small hw))

pub whole_text : (bytes : Bytes) (r : Reader) (ws : List Placed) (p : Program) → length bytes ≤ MAX_BYTES → HasWords bytes ws no_more → IsRead bytes r ws
    → r.is_begun ≡ false
    → Seals (table_of r.table) p → IsLiftedFrom bytes p
whole_text bytes r ws p small hw h n s =
    let text : IsTextOf bytes (program_of (table_of r.table) s.0) = record {
      size = small;
      words = ws;
      spelled = hw;
      table = table_of r.table;
      taken = read_whole bytes r ws h n;
      query = s.0;
      asked = s.1;
      known = s.2;
      program = refl;
    } in
    (program_of (table_of r.table) s.0, text, s.3)

seal_refused : (bytes : Bytes) (ws : List Placed) (T : Table) → length bytes ≤ MAX_BYTES → HasWords bytes ws no_more → IsTaken bytes ws T
    → (fault : SealFault) (x : Refusal)
    → Refuses T fault → IsSealRefusal bytes fault x → IsRefused bytes x
seal_refused bytes ws T small hw h seals.NoQuery x f e = let P : Refusal → Type 0 = IsRefused bytes in subst P (sym e) (without_query ws T small hw h f)
seal_refused bytes ws T small hw h (seals.Unknown name arity line) x f e =
    let P : Refusal → Type 0 = IsRefused bytes in
    subst P (sym e) (with_unknown ws T f.0 (record { name = name; arity = arity; line = line }) small hw h f.1 f.2)
seal_refused bytes ws T small hw h seals.Memory x f e = absurd e

pub sealed_text : (bytes : Bytes) (r : Reader) (ws : List Placed) → length bytes ≤ MAX_BYTES → HasWords bytes ws no_more → IsRead bytes r ws
    → r.is_begun ≡ false
    → (fault : SealFault) → Refuses (table_of r.table) fault → (o : Option Refusal) → IfSome o (IsSealRefusal bytes fault) → IfSome o (IsRefused bytes)
sealed_text bytes r ws small hw h n fault f None e = tt
sealed_text bytes r ws small hw h n fault f (Some x) e =
    seal_refused bytes ws (table_of r.table) small hw (read_whole bytes r ws h n) fault x f e
