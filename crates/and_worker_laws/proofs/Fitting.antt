-- What the workers of a phase know of their own acts is what the laws of a phase ask of its journal.
use Rattle.std.proofs.Common.{ℕ, ◌≡◌, List, [], ◌∷◌, ◌++◌, map, ap, sym, subst, ◌∙◌, inl, inr, Contains}
use Rattle.std.proofs.lemmas.List.{append_assoc}
use Rattle.std.proofs.lemmas.List.Elements.{Contains-append_right}
use Rattle.and_model.specs.Terms.{Path, Term, Substitution, framed}
use Rattle.and_model.specs.Solutions.{Equation, Solves, Entails}
use Rattle.and_model.specs.Programs.{Program}
use Rattle.and_model.specs.Candidates.{Candidate}
use Rattle.and_model.specs.Trees.{query_agenda, weight}
use Rattle.and_model.specs.Reductions.{Reduction}
use Rattle.and_model.specs.Stands.{term_of}
use Rattle.and_model.specs.declared.goal.Goal.{Goal}
use Rattle.and_laws.specs.Naming.{under}
use Rattle.and_laws.proofs.Solving.{solves_front, solves_back, solves_join}
use Rattle.and_laws.proofs.Ordered.{contains_first, contains_cases, contains_none}
use Rattle.and_cells.specs.Ranges.{NamedProgram}
use Rattle.and_cells.specs.Meaning.{equations_of}
use Rattle.and_phase_laws.specs.Journals.{Entry, Journal, made_by, Opening, IsCall, CallIsMeant, AllMeant, known, AreLeft}
use Rattle.and_phase_laws.specs.Journals as Journals
use Rattle.and_phase_laws.specs.Weaving.{Run, woven, RunsFit, EntriesFit}
use Rattle.and_branch_laws.specs.Kept.{goal_of}
use Rattle.and_branch_laws.proofs.Speaking.{then_under, under_then}
use Rattle.and_worker_laws.specs.PhaseCells.{put_apart}
use Rattle.and_worker_laws.specs.Acts.{Act, takes, sets, fails, RunInCells, asked, all_added, HasFailed}
use Rattle.and_worker_laws.specs.Facts.{Fact, IsStuck, known_by, told_by}
use Rattle.and_worker_laws.specs.Reading.{IsReadAs, AreReadAs}
use Rattle.and_worker_laws.specs.Standing.{Stands}
use Rattle.and_worker_laws.proofs.Matching.{act_read, read_before, read_last}
use Rattle.and_worker_laws.proofs.Reading.{WasTaken, was_taken, ReadPhase}
use Rattle.and_worker_laws.proofs.Telling.{all, of_cells, stands, told_in_cells, made_in_cells, made_in_tree, known_in_cells, known_woven}
use Rattle.and_worker_laws.proofs.Choosing.{candidate_among}
use Rattle.and_worker_laws.proofs.Meant.{call_meant, all_meant}
use Rattle.and_worker_laws.proofs.Knowing.{runs_fit}

-- A fail is read as one.
pub has_failed : (P : Program) (rs : List Reduction) (apart : Path) (op : Opening P (query_agenda P)) (acts : List Act) (j : Journal)
    → AreReadAs P rs apart acts j → HasFailed acts → Journals.HasFailed op j
has_failed P rs apart op acts j r failed =
    let (e, at, is) = act_read P rs apart acts j r (fails failed.0) failed.1 in (failed.0, subst (λ x. Contains j x) is at)

module _ {P : NamedProgram} {op : Opening P.program (query_agenda P.program)} {acts : List Act} {runs : List RunInCells} {j : Journal} {read : List Run}
    (h : ReadPhase P op acts runs j read) where
  -- What is known of an act is known of its entry.
  module _ (later earlier : List Act) (before : Journal) (a : Act) (are : acts ≡ later ++ a ∷ earlier)
      (r : AreReadAs P.program (all h) h.apart earlier before) where
    told_then : (w : ℕ) (s : Substitution) → Solves s (made_by P.program w (woven read before) ++ known op (woven read before))
        → Solves (of_cells h s) (told_by P (equations_of P h.first) runs w earlier)
    told_then w s p = told_in_cells h s (later ++ a ∷ []) earlier before (are ∙ sym (append_assoc later (a ∷ []) earlier)) r w p

    stuck_then : IsStuck P (map goal_of h.kept) acts (known_by (equations_of P h.first) earlier)
        → (q : Path) × (g : Term) × IsCall op j q g × CallIsMeant op q g × ((c : ℕ) → Candidate P.program (known op (woven read before)) q g c → ⊥)
    stuck_then stuck =
        let g : Goal = stuck.goal in
        let there : Stands op (all h) j g = stands h g stuck.there in (
          there.path ++ g.item ∷ [],
          framed there.path (term_of P.program g),
          there.call stuck.term stuck.is_call,
          call_meant h g there.path there.place,
          λ c candidate. contains_none c (candidate_among h earlier before r g [] stuck.none there.path there.place there.clause there.based c candidate),
        )

  fact_fits : (later earlier : List Act) (before : Journal) (a : Act) → acts ≡ later ++ a ∷ earlier → AreReadAs P.program (all h) h.apart earlier before
      → (e : Entry) → IsReadAs P.program (all h) h.apart a e → Fact P (map goal_of h.kept) (equations_of P h.first) runs acts earlier a
      → Journals.Fact op j (woven read before) e
  fact_fits later earlier before (takes w g x) are r e reads fact =
      let among : Contains acts (takes w g x) = subst (λ (l : List Act). Contains l (takes w g x)) (sym are)
      (Contains-append_right later (takes w g x ∷ earlier) (takes w g x) (contains_first (takes w g x) earlier)) in
      let t : WasTaken P.program (map goal_of h.kept) acts g x = was_taken P.program (map goal_of h.kept) (weight op.tree) acts h.done.taken w g x among in
      let there : Stands op (all h) j g = stands h g t.there in
      subst (λ y. Journals.Fact op j (woven read before) y) (sym reads.2)
      (λ d candidate. one d x.clause (candidate_among h earlier before r g (x.clause ∷ []) fact reads.0 reads.1 there.clause there.based d candidate))
    where
      one : (d c : ℕ) → Contains (c ∷ []) d → d ≡ c
      one d c i = elim (contains_cases c d [] i) [ inl is ↦ is | inr other ↦ absurd (contains_none d other) ]
  fact_fits later earlier before (sets w d) are r e reads fact =
      subst (λ y. Journals.Fact op j (woven read before) y) (sym reads)
      (λ s p. then_under (put_apart h.apart) s (d ∷ []) (fact (of_cells h s) (told_then later earlier before (sets w d) are r w s p)))
  fact_fits later earlier before (fails w) are r e reads fact =
      subst (λ y. Journals.Fact op j (woven read before) y) (sym reads) (elim fact [
        | inl unsolvable ↦ inl (λ so. unsolvable (of_cells h so.0, told_then later earlier before (fails w) are r w so.0 so.1))
        | inr stuck ↦ inr (stuck_then later earlier before (fails w) are r stuck)
      ])

  pub entries_fit : EntriesFit op read j
  entries_fit front before e at =
      let (later, whole, are, r) = read_before P.program (all h) h.apart acts front (e ∷ before)
      (subst (λ (k : Journal). AreReadAs P.program (all h) h.apart acts k) at h.acts_read) in
      let (a, earlier, last, reads, rest) = read_last P.program (all h) h.apart whole e before r in
      let here : acts ≡ later ++ a ∷ earlier = are ∙ ap (λ (l : List Act). later ++ l) last in
      (read, (λ y c. c), fact_fits later earlier before a here rest e reads (h.done.facts later earlier a here))

  -- So the journal and its runs have all that the laws of a phase ask.
  pub facts_fit : RunsFit op read j × EntriesFit op read j × AllMeant op j
  facts_fit = (runs_fit h, entries_fit, all_meant h)

  -- The pairs that are left over are those of the tree.
  pub left_over : (pairs : List Equation) → Entails (asked P.program acts ++ all_added runs ++ known_by (equations_of P h.first) acts) pairs
      → Entails (pairs ++ known_by (equations_of P h.first) acts) (asked P.program acts ++ all_added runs)
      → AreLeft op (woven read j) (under (put_apart h.apart) pairs)
  left_over pairs follow stated = (
    λ s p. then_under (put_apart h.apart) s pairs (follow (of_cells h s) (made_in_cells h s p)),
    λ s p.
        let here : Solves s (known op (woven read j)) = solves_back s (under (put_apart h.apart) pairs) (known op (woven read j)) p in
        let given : Solves (of_cells h s) pairs =
        under_then (put_apart h.apart) s pairs (solves_front s (under (put_apart h.apart) pairs) (known op (woven read j)) p) in
        let seen : Solves (of_cells h s) (known_by (equations_of P h.first) acts) = known_in_cells h s acts j h.acts_read (known_woven h s j here) in
        made_in_tree h s here (stated (of_cells h s) (solves_join (of_cells h s) pairs (known_by (equations_of P h.first) acts) given seen)),
  )
