use Rattle.std.proofs.Common.{◌∙◌, sym, refl, arith, subst, ℕ, None, false}
use Rattle.and_language.specs.Refusals
use Rattle.and_language.specs.Refusals.{Refusal, IsRefused, too_long}
use Rattle.and_syntax.specs.Tables.{source}
use Rattle.and_reader.specs.Causes.{refusal_of}
use Rattle.and_reader.proofs.Ending.{read_nothing, unended_text, whole_text, sealed_text}
use Rattle.and_reader.proofs.reading.read_program.Goals as goal

pub returns-then-bytes-gt-MAX_BYTES-clause-refused : goal.returns-then-bytes-gt-MAX_BYTES-clause-refused
returns-then-bytes-gt-MAX_BYTES-clause-refused c =
    let P : ℕ → Type 0 = λ n. IsRefused c.args.bytes.now (record { cause = Refusals.too_big source; line = n }) in
    subst P (sym c.line_at.ensures) (too_long c.if-bytes-gt-MAX_BYTES.true)

pub read-requires-clause-read : goal.read-requires-clause-read
read-requires-clause-read c = (
  c.args.bytes.now,
  read_nothing (record {
    alloc = c.args.alloc;
    bytes = c.args.bytes;
    table = c.in-Ok.table;
    cursor = c.new-2.result;
    is_begun = false;
    clause = record { line = 1; parser = c.new-3.result };
    spare = None;
  }) c.in-Ok.ensures c.new-2.ensures refl,
)

pub returns-then-reader-clause-refused : goal.returns-then-reader-clause-refused
returns-then-reader-clause-refused c =
    let a = c.in_ok-read.ensures.read in
    unended_text c.args.bytes.now c.read.new.self a.0 (omega arith) a.1 a.2 c.if-reader.true c.at.result c.at.ensures

pub returns-in-Ok-seal-clause-program : goal.returns-in-Ok-seal-clause-program
returns-in-Ok-seal-clause-program c =
    let a = c.in_ok-read.ensures.read in
    whole_text c.args.bytes.now c.read.new.self a.0 _ (omega arith) a.1 a.2 c.if-reader.false c.in-Ok-seal.ensures.sealed

pub returns-clause-refused : goal.returns-clause-refused
returns-clause-refused c =
    let a = c.in_ok-read.ensures.read in
    sealed_text c.args.bytes.now c.read.new.self a.0 (omega arith) a.1 a.2 c.if-reader.false c.in-Err.fault c.in-Err.ensures.refused
    (refusal_of c.seal_refusal.result) c.seal_refusal.ensures
