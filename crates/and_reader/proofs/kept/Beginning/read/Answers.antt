use Rattle.std.proofs.Common.{refl, ap, arith, subst, length, false, None, Option, ℕ}
use Rattle.std.specs.Option.{IfSome}
use Rattle.and_reader.specs.Beginning.{IsReadTo}
use Rattle.and_reader.proofs.Ending.{read_nothing}
use Rattle.and_reader.proofs.kept.Beginning.read.Goals as goal

pub read_to-requires-clause-read : goal.read_to-requires-clause-read
read_to-requires-clause-read c = (
  c.args.bytes.now,
  read_nothing (record {
    alloc = c.args.alloc;
    bytes = c.args.bytes;
    table = c.in_ok-table.table;
    cursor = c.new-2.result;
    is_begun = false;
    clause = record { line = 1; parser = c.new-3.result };
    spare = None;
  }) c.in_ok-table.ensures c.new-2.ensures refl,
)

pub begun-requires-clause-few : goal.begun-requires-clause-few
begun-requires-clause-few c =
    let R : Option ℕ → Type 0 = λ o. IfSome o (IsReadTo c.args.bytes.now c.read_to.new.self) in
    let told = subst R c.in-Ok-Some.field-0-is c.in-Ok-Some.ensures in
    omega (arith, ap length told.read.text, c.if-bytes-gt-MAX_BYTES.false)

pub begun-requires-clause-within : goal.begun-requires-clause-within
begun-requires-clause-within c =
    let R : Option ℕ → Type 0 = λ o. IfSome o (IsReadTo c.args.bytes.now c.read_to.new.self) in
    let told = subst R c.in-Ok-Some.field-0-is c.in-Ok-Some.ensures in
    omega (arith, ap length told.read.text, c.if-place-bytes.false)

pub returns-in-Ok-Some : goal.returns-in-Ok-Some
returns-in-Ok-Some c =
    let R : Option ℕ → Type 0 = λ o. IfSome o (IsReadTo c.args.bytes.now c.read_to.new.self) in
    c.begun.ensures c.args.bytes.now (c.is_text_to.ensures c.if-not-is_text_to.false) (subst R c.in-Ok-Some.field-0-is c.in-Ok-Some.ensures)
