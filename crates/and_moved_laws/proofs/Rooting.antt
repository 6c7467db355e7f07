-- A branch that begins has the query's frame alone, which is its whole row.
use Rattle.std.proofs.Common.{ℕ, ◌≡◌, ◌<◌, List, [], ◌∷◌, replicate, refl, sym, ap, ◌∙◌, subst, inl, inr, Contains}
use Rattle.std.proofs.lemmas.List.Elements.{All-nil}
use Rattle.std.proofs.lemmas.List.Kept.{AllPairs-cons}
use Rattle.and_model.specs.Programs.{clause_at, clause_weight}
use Rattle.and_model.specs.Trees.{query_agenda, blank}
use Rattle.and_model.specs.Store.{Frame}
use Rattle.and_model.specs.declared.reference.Ref.{Ref}
use Rattle.and_model.specs.declared.reference.Ref.TheVariants.{Free}
use Rattle.and_laws.proofs.Ordered.{contains_first, contains_cases, contains_none}
use Rattle.and_laws.proofs.Pairwise.{all_pairs_none}
use Rattle.and_cells.specs.Ranges.{NamedProgram}
use Rattle.and_branch_laws.specs.OwnVariables.{IsLoaded}
use Rattle.and_branch_laws.specs.Variables.{placed}
use Rattle.and_branch_laws.specs.Settling.{Settled}
use Rattle.and_branch_laws.specs.Reducing.{body_equations, body_goals}
use Rattle.and_branch_laws.proofs.Rooting
use Rattle.and_moved_laws.specs.KeptFrames.{AreFrames, NamesFrames}
use Rattle.and_moved_laws.specs.KeptParts.{PartKept}
use Rattle.and_moved_laws.proofs.KeptParts.{whole_kept}

query_frames : (P : NamedProgram) → AreFrames P [] (record { base = 0; weight = clause_weight P.program.query } ∷ [])
query_frames P =
    let q : Frame = record { base = 0; weight = clause_weight P.program.query } in
    let R : Frame → Frame → Type 0 = λ f g. f.base < g.base in
    record {
      rising = AllPairs-cons R q [] (All-nil (R q)) (all_pairs_none R);
      each = λ f. (
        λ h. elim (contains_cases q f [] h) [
          | inl e ↦ (0, inl (ap (λ (x : Frame). x.base) e, refl), ap (λ (x : Frame). x.weight) e)
          | inr i ↦ absurd (contains_none f i)
        ],
        λ x. elim x.1 [
          | inl a ↦
              let weighs : f.weight ≡ clause_weight P.program.query = x.2 ∙ ap (λ (c : ℕ). clause_weight (clause_at P.program c)) a.1 in
              let is : f ≡ q = (λ i. record { base = a.0 i; weight = weighs i }) in
              subst (λ (y : Frame). Contains (q ∷ []) y) (sym is) (contains_first q [])
          | inr y ↦ absurd (contains_none y.0 y.1)
        ],
      );
    }

pub root_kept : (P : NamedProgram) (loaded : IsLoaded P) (new : List Ref)
    → Settled P (replicate (clause_weight P.program.query) Free) new (body_equations (placed 0) P.program.query.body)
    → NamesFrames P (record { base = 0; weight = clause_weight P.program.query } ∷ []) new
    → PartKept P [] (record { base = 0; weight = clause_weight P.program.query } ∷ []) new (body_goals 0 0 [] 0 P.program.query.body)
    (blank (query_agenda P.program))
root_kept P loaded new x names =
    whole_kept P loaded.own [] new (body_goals 0 0 [] 0 P.program.query.body) (blank (query_agenda P.program)) (Rooting.root_kept P loaded new x)
    (record { base = 0; weight = clause_weight P.program.query } ∷ []) (query_frames P) names
