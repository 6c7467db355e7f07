-- All variables of a phase's entries are meant.
use Rattle.std.proofs.Common.{ℕ, ◌≡◌, ◌≢◌, true, not, List, [], ◌∷◌, ◌++◌, ap, sym, subst, inl, inr}
use Rattle.and_model.specs.Terms.{Path, framed}
use Rattle.and_model.specs.Programs.{Arithmetic, is, compare, arithmetic_in}
use Rattle.and_model.specs.Lines.{same_path}
use Rattle.and_model.specs.Trees.{query_agenda}
use Rattle.and_model.specs.Reductions.{PlaceHas}
use Rattle.and_model.specs.Stands.{term_of}
use Rattle.and_model.specs.declared.goal.Goal.{Goal}
use Rattle.and_laws.proofs.Equality.{bool_cases}
use Rattle.and_laws.proofs.Printing.{same_path_true}
use Rattle.and_cells.specs.Ranges.{NamedProgram}
use Rattle.and_phase_laws.specs.Sharing.{Meant, ArithmeticOver}
use Rattle.and_phase_laws.specs.Journals.{Entry, Journal, Opening, CallIsMeant, IsMeant, AllMeant}
use Rattle.and_phase_laws.specs.Weaving.{Run}
use Rattle.and_phase_laws.proofs.Sharing.{over_framed}
use Rattle.and_worker_laws.specs.Acts.{Act, takes, sets, fails, RunInCells}
use Rattle.and_worker_laws.specs.Reading.{IsReadAs, AreReadAs}
use Rattle.and_worker_laws.proofs.Reading.{ReadPhase}
use Rattle.and_worker_laws.proofs.Telling.{all}

module _ {P : NamedProgram} {op : Opening P.program (query_agenda P.program)} {acts : List Act} {runs : List RunInCells} {j : Journal} {read : List Run}
    (h : ReadPhase P op acts runs j read) where
  apart_meant : (q : Path) → q ≢ h.apart → (k : ℕ) → op.meant q k ≡ true
  apart_meant q other k =
      subst (λ (m : Meant). m q k ≡ true) (sym h.meant_is) (elim (bool_cases (same_path q h.apart)) [
        | inl same ↦ absurd (other (same_path_true q h.apart same))
        | inr differs ↦ ap not differs
      ])

  frame_meant : (node : ℕ) (q : Path) → PlaceHas (all h) node q → (k : ℕ) → op.meant q k ≡ true
  frame_meant node q place k = apart_meant q (h.elsewhere node q 0 place).0 k

  pub call_meant : (g : Goal) (p : Path) → PlaceHas (all h) g.node p → CallIsMeant op (p ++ g.item ∷ []) (framed p (term_of P.program g))
  call_meant g p place =
      (over_framed op.meant p (frame_meant g.node p place) (term_of P.program g), apart_meant (p ++ g.item ∷ []) (h.elsewhere g.node p g.item place).1)

  arithmetic_over : (q : Path) → ((k : ℕ) → op.meant q k ≡ true) → (a : Arithmetic) → ArithmeticOver op.meant (arithmetic_in q a)
  arithmetic_over q means (is l r) = (over_framed op.meant q means l, over_framed op.meant q means r)
  arithmetic_over q means (compare o a b) = (over_framed op.meant q means a, over_framed op.meant q means b)

  pub arithmetic_meant : (node : ℕ) (q : Path) → PlaceHas (all h) node q → (a : Arithmetic) → ArithmeticOver op.meant (arithmetic_in q a)
  arithmetic_meant node q place a = arithmetic_over q (frame_meant node q place) a

  entry_meant : (a : Act) (e : Entry) → IsReadAs P.program (all h) h.apart a e → IsMeant op e
  entry_meant (takes w g x) e r = subst (λ y. IsMeant op y) (sym r.2) (call_meant g r.0 r.1)
  entry_meant (sets w d) e r = subst (λ y. IsMeant op y) (sym r) tt
  entry_meant (fails w) e r = subst (λ y. IsMeant op y) (sym r) tt

  entries_meant : (some : List Act) (before : Journal) → AreReadAs P.program (all h) h.apart some before → AllMeant op before
  entries_meant [] [] r = tt
  entries_meant [] (e ∷ before) r = absurd r
  entries_meant (a ∷ some) [] r = absurd r
  entries_meant (a ∷ some) (e ∷ before) r = (entry_meant a e r.0, entries_meant some before r.1)

  pub all_meant : AllMeant op j
  all_meant = entries_meant acts j h.acts_read
