-- A part was entered.
use Rattle.std.proofs.Common.{ℕ, suc, ◌≡◌, Some, None, refl, sym, subst}
use Rattle.and_model.specs.declared.reference.Ref.{Ref}
use Rattle.and_model.specs.declared.reference.Ref.TheVariants.{Cell}
use Rattle.and_cells.specs.Ranges.{NamedProgram, IsInRange, IsInRangeOrHalf}
use Rattle.and_cells.specs.Seen.{Seen, OnlyReads, Knows, LeadsTo}
use Rattle.and_cells.proofs.Chains.{reads_more, leads_later, or_half}
use Rattle.and_arith.specs.Turns.{stand, undone, Comes, Enters}
use Rattle.and_arith.specs.declared.values.WorkList.{WorkList}

-- it was not led to by a cell
pub enters_itself : (P : NamedProgram) (part : Ref) (old new : Seen) (before after : WorkList) (fuel : ℕ) → OnlyReads old new → IsInRange P old.words part
    → Comes P None part new (undone before) (undone after) → Enters P part (stand old before (suc fuel)) (stand new after fuel)
enters_itself P part old new before after fuel reads fits comes = record {
  by = None;
  place = part;
  reads = reads;
  come_to = refl;
  in_range = subst (λ n. IsInRangeOrHalf P n part) (sym reads.words) (or_half P old.words part fits);
  comes = comes;
  fuel = refl;
}

-- a cell led to it
pub enters_set : (P : NamedProgram) (part place : Ref) (from cell : ℕ) (old mid new : Seen) (before after : WorkList) (fuel : ℕ) → part ≡ Cell from
    → OnlyReads old mid → OnlyReads mid new
    → LeadsTo mid (Cell from) (Cell cell) → Knows mid cell place → IsInRangeOrHalf P mid.words place
    → Comes P (Some cell) place new (undone before) (undone after) → Enters P part (stand old before (suc fuel)) (stand new after fuel)
enters_set P part place from cell old mid new before after fuel is first later leads knows fits comes = record {
  by = Some cell;
  place = place;
  reads = reads_more old mid new first later;
  come_to = (subst (λ q. LeadsTo new q (Cell cell)) (sym is) (leads_later mid new (Cell from) (Cell cell) later.keeps leads), later.keeps cell place knows);
  in_range = subst (λ n. IsInRangeOrHalf P n place) (sym later.words) fits;
  comes = comes;
  fuel = refl;
}
