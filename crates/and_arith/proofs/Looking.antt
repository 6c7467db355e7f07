-- What is known of a chain of cells after a look at one of them.
use Rattle.std.proofs.Common.{ℕ, ◌≡◌, ◌≢◌, ◌<◌, refl, sym, subst, ◌∙◌, inr, arith}
use Rattle.and_model.specs.declared.reference.Ref.{Ref}
use Rattle.and_model.specs.declared.reference.Ref.TheVariants.{Free, Cell}
use Rattle.and_cells.specs.Ranges.{NamedProgram, CanHold, IsInRangeOrHalf}
use Rattle.and_cells.specs.Seen.{Seen, Knows, IsWrittenIfNumber, OnlyReads, LeadsTo, FoundFree, Finds, Misses}
use Rattle.and_cells.proofs.Chains.{reads_more, leads_later, leads_on, written_since_known, held_in_range}

-- The chain leads to this cell, whose word was found to be this one.
pub record IsLookedAt (P : NamedProgram) (shared : ℕ) (first now : Seen) (from cell : ℕ) (word : Ref) : Type 0 where
  pub inside : cell < now.words
  pub reads : OnlyReads first now
  pub leads : LeadsTo now (Cell from) (Cell cell)
  pub free : word ≡ Free → FoundFree shared cell first now
  pub set : word ≢ Free → Knows now cell word × IsInRangeOrHalf P now.words word × IsWrittenIfNumber now word
  pub falls : (other : ℕ) → word ≡ Cell other → other < cell

-- what a look leaves
pub looked : (P : NamedProgram) (shared : ℕ) (first mid new : Seen) (from cell : ℕ) (word : Ref) → OnlyReads first mid → LeadsTo mid (Cell from) (Cell cell)
    → cell < mid.words → OnlyReads mid new
    → (word ≢ Free → Finds P cell word mid new) → (word ≡ Free → Misses shared cell mid new) → IsLookedAt P shared first new from cell word
looked P shared first mid new from cell word before leads inside reads found missed = record {
  inside = omega (arith, reads.words, inside);
  reads = reads_more first mid new before reads;
  leads = leads_later mid new (Cell from) (Cell cell) reads.keeps leads;
  free = λ e. record { before = mid; reads = before; misses = missed e };
  set = λ other.
      let finds = found other in
      let knows : Knows new cell word = (finds.adds cell word).1 (inr (refl, refl)) in (
        knows,
        subst (λ n. IsInRangeOrHalf P n word) (sym finds.words) (held_in_range P mid.words cell word inside other finds.fits),
        written_since_known new cell word knows,
      );
  falls = λ other e.
      let finds = found (λ f. let both : Cell other ≡ Free = sym e ∙ f in absurd (cc)) in
      let fits : CanHold P mid.words cell (Cell other) = subst (CanHold P mid.words cell) e finds.fits in fits;
}

-- where the chain goes on
pub goes_on : (P : NamedProgram) (shared : ℕ) (first now : Seen) (from cell next : ℕ) (word : Ref)
    → IsLookedAt P shared first now from cell word → word ≡ Cell next
    → LeadsTo now (Cell from) (Cell next) × (next < now.words)
goes_on P shared first now from cell next word l e =
    let (knows, fits, written) = l.set (λ f. let both : Cell next ≡ Free = sym e ∙ f in absurd (cc)) in (
      leads_on now (Cell from) cell (Cell next) l.leads (subst (Knows now cell) e knows),
      subst (IsInRangeOrHalf P now.words) e fits,
    )
