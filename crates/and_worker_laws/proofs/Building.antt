-- The journal that the acts are read as, and the tree that it builds.
use Rattle.std.proofs.Common.{ℕ, suc, ◌+◌, ◌≡◌, List, [], ◌∷◌, ◌++◌, length, map, Contains}
use Rattle.std.proofs.Common.{refl, ap, sym, subst, ◌∙◌, inl, inr}
use Rattle.std.proofs.lemmas.List.Elements.{Contains-append_left, Contains-append_right, Contains-append_cases}
use Rattle.and_model.specs.Terms.{Path, variable, apply, framed}
use Rattle.and_model.specs.Programs.{Program, clause_at, clause_weight}
use Rattle.and_model.specs.Trees.{QueryTree, query_agenda, weight}
use Rattle.and_model.specs.Reductions.{Reduction, PlaceHas, CallHas, Makes}
use Rattle.and_model.specs.Stands.{Framed, term_of}
use Rattle.and_model.specs.declared.goal.Goal.{Goal}
use Rattle.and_model.specs.declared.reference.Ref.{Ref}
use Rattle.and_cells.specs.Ranges.{NamedProgram}
use Rattle.and_laws.proofs.ClausesOf.{of_applied}
use Rattle.and_laws.proofs.Placing.{place_more}
use Rattle.and_phase_laws.specs.Journals.{Entry, frame, setting, failing, Journal, NotTaken, Opening, Builds, WellPlaced}
use Rattle.and_phase_laws.specs.Weaving.{Run, entry_of, woven}
use Rattle.and_phase_laws.specs.Writing.{weights, Written}
use Rattle.and_phase_laws.proofs.Building.{Built, journal_builds}
use Rattle.and_phase_laws.proofs.Places.{taken_once}
use Rattle.and_phase_laws.proofs.Weaving.{of_length}
use Rattle.and_phase_laws.proofs.Writing.{built_makes}
use Rattle.and_branch_laws.specs.OwnVariables.{OwnVariables}
use Rattle.and_branch_laws.specs.Kept.{goal_of, Kept}
use Rattle.and_worker_laws.specs.PhaseCells.{put_apart}
use Rattle.and_worker_laws.specs.Acts.{Act, takes, sets, fails, reductions, weight_taken, IsTaken, AreTaken}
use Rattle.and_worker_laws.specs.Reading.{AreReadAs}
use Rattle.and_worker_laws.specs.Standing.{Stands}
use Rattle.and_worker_laws.proofs.Taking.{reduction_taken, read_more, weights_read}
use Rattle.and_worker_laws.proofs.Standing.{standing}

-- ---- The journal

-- the acts' journal, and what holds of it
pub record IsJournal (P : NamedProgram) (rs : List Reduction) (op : Opening P.program (query_agenda P.program)) (apart : Path) (acts : List Act) : Type 0 where
  pub journal : Journal
  pub read : AreReadAs P.program (rs ++ reductions acts) apart acts journal
  pub placed : WellPlaced op journal
  pub written : Written P.program (weight op.tree) rs journal (reductions acts)

module _ (P : NamedProgram) (own : OwnVariables P) (rs : List Reduction) (first : List Ref) (kept : List Framed)
    (op : Opening P.program (query_agenda P.program)) (k : Kept P rs first kept op.tree) (apart : Path) where
  in_more : (before : List Act) (r x : Reduction) → Contains (rs ++ reductions before) x → Contains (rs ++ (reductions before ++ r ∷ [])) x
  in_more before r x i = elim (Contains-append_cases rs (reductions before) x i) [
    | inl h ↦ Contains-append_left rs (reductions before ++ r ∷ []) x h
    | inr h ↦ Contains-append_right rs (reductions before ++ r ∷ []) x (Contains-append_left (reductions before) (r ∷ []) x h)
  ]

  -- A call that is taken stands in the tree, and no frame before has its path.
  one_more : (w : ℕ) (g : Goal) (r : Reduction) (before : List Act) → IsTaken P.program (map goal_of kept) (weight op.tree) before g r
      → AreTaken P.program (map goal_of kept) (weight op.tree) before → IsJournal P rs op apart before → IsJournal P rs op apart (takes w g r ∷ before)
  one_more w g r before t ts b =
      let all : List Reduction = rs ++ reductions before in
      let s : Stands op all b.journal g = standing P own rs first kept op k apart before [] before b.journal refl ts b.read g t.there in
      let q : Path = s.path ++ g.item ∷ [] in
      let built : Built op b.journal = journal_builds op b.journal b.placed in
      let not_yet : NotTaken b.journal q = taken_once P.program op rs (reductions before) b.journal built.tree built.builds k.made b.written
      g.node g.item q (s.path, s.place, refl) (λ x i e f. let (v, h, at) = reduction_taken before x i in t.once v h x at e f) in
      let here : CallHas all r.parent r.item q =
      (s.path, subst (λ n. PlaceHas all n s.path) (sym t.parent) s.place, ap (λ n. s.path ++ n ∷ []) (sym t.item)) in
      let behind : r.node ≡ weight op.tree + weights P.program b.journal =
      t.node ∙ ap (λ n. weight op.tree + n) (sym (weights_read P.program all apart before b.journal b.read)) in
      record {
        journal = frame w q (framed s.path (term_of P.program g)) r.clause ∷ b.journal;
        read = (
          (s.path, place_more all (rs ++ (reductions before ++ r ∷ [])) (in_more before r) g.node s.path s.place, refl),
          read_more P.program all (rs ++ (reductions before ++ r ∷ [])) (in_more before r) apart before b.journal b.read,
        );
        placed = (s.call t.term t.is_call, of_applied P.program (λ x n. variable s.path n) (term_of P.program g) r.clause t.of, not_yet, b.placed);
        written = (reductions before, r, refl, refl, here, behind, b.written);
      }

  -- So all acts have a journal.
  pub journal_of_acts : (acts : List Act) → AreTaken P.program (map goal_of kept) (weight op.tree) acts → IsJournal P rs op apart acts
  journal_of_acts [] t = record { journal = []; read = tt; placed = tt; written = refl }
  journal_of_acts (takes w g r ∷ before) t = one_more w g r before t.0 t.1 (journal_of_acts before t.1)
  journal_of_acts (sets w e ∷ before) t =
      let b : IsJournal P rs op apart before = journal_of_acts before t in
      record {
        journal = setting w (apply (put_apart apart) e.0, apply (put_apart apart) e.1) ∷ b.journal;
        read = (refl, b.read);
        placed = b.placed;
        written = b.written;
      }
  journal_of_acts (fails w ∷ before) t =
      let b : IsJournal P rs op apart before = journal_of_acts before t in
      record { journal = failing w ∷ b.journal; read = (refl, b.read); placed = b.placed; written = b.written }

-- ---- The tree

-- Runs are passed over where a journal is written down.
runs_written : (P : Program) (n : ℕ) (old : List Reduction) (rs : List Run) (j : Journal) (news : List Reduction) → Written P n old j news
    → Written P n old (map entry_of rs ++ j) news
runs_written P n old [] j news w = w
runs_written P n old (r ∷ rs) j news w = runs_written P n old rs j news w

runs_weigh : (P : Program) (rs : List Run) (j : Journal) → weights P (map entry_of rs ++ j) ≡ weights P j
runs_weigh P [] j = refl
runs_weigh P (r ∷ rs) j = runs_weigh P rs j

pub woven_weigh : (P : Program) (rs : List Run) (j : Journal) → weights P (woven rs j) ≡ weights P j
woven_weigh P rs [] = runs_weigh P (of_length 0 rs) []
woven_weigh P rs (frame w q g c ∷ b) =
    runs_weigh P (of_length (suc (length b)) rs) (frame w q g c ∷ woven rs b) ∙ ap (λ n. clause_weight (clause_at P c) + n) (woven_weigh P rs b)
woven_weigh P rs (Entry.run w a ts ∷ b) = runs_weigh P (of_length (suc (length b)) rs) (Entry.run w a ts ∷ woven rs b) ∙ woven_weigh P rs b
woven_weigh P rs (setting w e ∷ b) = runs_weigh P (of_length (suc (length b)) rs) (setting w e ∷ woven rs b) ∙ woven_weigh P rs b
woven_weigh P rs (failing w ∷ b) = runs_weigh P (of_length (suc (length b)) rs) (failing w ∷ woven rs b) ∙ woven_weigh P rs b

pub woven_written : (P : Program) (n : ℕ) (old : List Reduction) (rs : List Run) (j : Journal) (news : List Reduction) → Written P n old j news
    → Written P n old (woven rs j) news
woven_written P n old rs [] news w = runs_written P n old (of_length 0 rs) [] news w
woven_written P n old rs (frame v q g c ∷ b) news w =
    let (earlier, r, e, f, call, behind, rest) = w in
    runs_written P n old (of_length (suc (length b)) rs) (frame v q g c ∷ woven rs b) news
    (earlier, r, e, f, call, behind ∙ ap (λ m. n + m) (sym (woven_weigh P rs b)), woven_written P n old rs b earlier rest)
woven_written P n old rs (Entry.run v a ts ∷ b) news w =
    runs_written P n old (of_length (suc (length b)) rs) (Entry.run v a ts ∷ woven rs b) news (woven_written P n old rs b news w)
woven_written P n old rs (setting v e ∷ b) news w =
    runs_written P n old (of_length (suc (length b)) rs) (setting v e ∷ woven rs b) news (woven_written P n old rs b news w)
woven_written P n old rs (failing v ∷ b) news w =
    runs_written P n old (of_length (suc (length b)) rs) (failing v ∷ woven rs b) news (woven_written P n old rs b news w)

-- The tree that the journal with its runs builds is made by the reductions, and weighs what they weigh.
pub woven_makes : (P : NamedProgram) (rs : List Reduction) (op : Opening P.program (query_agenda P.program)) → Makes P.program rs op.tree
    → (apart : Path) (acts : List Act) (j : Journal) → Written P.program (weight op.tree) rs j (reductions acts)
    → AreReadAs P.program (rs ++ reductions acts) apart acts j → (runs : List Run) (u : QueryTree P.program) → Builds op (woven runs j) u
    → Makes P.program (rs ++ reductions acts) u × (weight u ≡ weight op.tree + weight_taken P.program acts)
woven_makes P rs op made apart acts j w a runs u b =
    let (makes, weighs) = built_makes P.program op rs (woven runs j) u (reductions acts) b made
    (woven_written P.program (weight op.tree) rs runs j (reductions acts) w) in
    let same : weights P.program (woven runs j) ≡ weight_taken P.program acts =
    woven_weigh P.program runs j ∙ weights_read P.program (rs ++ reductions acts) apart acts j a in
    (makes, weighs ∙ ap (λ n. weight op.tree + n) same)
