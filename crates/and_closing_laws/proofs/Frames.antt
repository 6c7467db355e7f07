-- The frames of the tree that was gathered, and the goals that stand in them.
use Rattle.std.proofs.Common.{ℕ, ◌+◌, ◌≡◌, inl, inr, List, [], ◌++◌, map, refl, sym, ap, subst, ◌∙◌, All, Contains}
use Rattle.std.proofs.lemmas.List.Elements.{All-contains, Contains-append_cases}
use Rattle.and_model.specs.Programs.{Program, clause_at}
use Rattle.and_model.specs.Reductions as model
use Rattle.and_model.specs.Stands.{Framed, ClauseHas}
use Rattle.and_model.specs.declared.goal.Goal.{Goal}
use Rattle.and_model.specs.declared.goal.Reduction.{Reduction}
use Rattle.and_model.specs.declared.reference.Ref.{Ref}
use Rattle.and_model.specs.declared.goal.Frame.{Frame}
use Rattle.and_branch_laws.specs.Kept.{goal_of}
use Rattle.and_branch_laws.specs.Reducing.{body_goals}
use Rattle.and_branch_laws.proofs.BodyGoals.{body_goals_all}
use Rattle.and_cells.specs.Ranges.{NamedProgram}
use Rattle.and_cells.specs.Seen.{word_at}
use Rattle.and_code.specs.Written.{written, all_written}
use Rattle.and_gathering.specs.Gathering.{Walks, goal_taken, goals_of_body}
use Rattle.and_gathering.specs.declared.links.Taken.{Taken}
use Rattle.and_gathering.specs.declared.links.Taken.TheVariants.{Reduced, Ran}
use Rattle.and_store_laws.proofs.Lists.{contains_first, contains_more, contains_cases, contains_none, contains_map, map_contains}
use Rattle.and_row_check.specs.Places
use Rattle.and_row_check.specs.Places.{all_frames, frame_of}
use Rattle.and_handed.specs.Handed.{IsWholeFrame}

abbrev pub frame_at : (base clause : ℕ) → Frame
frame_at base clause = record { base = base; clause = record { 0 = clause } }

-- The goal stands in one of these frames.
abbrev pub HasFrame : List Frame → Goal → Type 0
HasFrame frames g = Contains frames (frame_at g.base g.clause.0)

-- ---- Frames are the clauses at places

pub clause_frame : (rs : List Reduction) (n c : ℕ) → ClauseHas (all_written rs) n c → Contains (all_frames rs) (frame_at n c)
clause_frame rs n c (inl x) =
    subst (λ c. Contains (all_frames rs) (frame_at n c)) (sym x.1)
    (subst (λ n. Contains (all_frames rs) (frame_at n 0)) (sym x.0) (contains_first (frame_at 0 0) (map frame_of rs)))
clause_frame rs n c (inr x) =
    let (q, among, is) = map_contains written x.0 rs x.1 in
    let node : q.node ≡ n = ap (λ (r : model.Reduction). r.node) is ∙ x.2 in
    let clause : q.clause.0 ≡ c = ap (λ (r : model.Reduction). r.clause) is ∙ x.3 in
    contains_more (frame_at 0 0) (frame_at n c) (map frame_of rs)
    (subst (Contains (map frame_of rs)) (ap (λ n. frame_at n q.clause.0) node ∙ ap (frame_at n) clause) (contains_map frame_of q rs among))

pub frame_clause : (rs : List Reduction) (f : Frame) → Contains (all_frames rs) f → ClauseHas (all_written rs) f.base f.clause.0
frame_clause rs f among = elim (contains_cases (frame_at 0 0) f (map frame_of rs) among) [
  | inl query ↦ inl (ap (λ (f : Frame). f.base) query, ap (λ (f : Frame). f.clause.0) query)
  | inr more ↦
      let (q, there, is) = map_contains frame_of f rs more in
      inr (written q, contains_map written q rs there, ap (λ (f : Frame). f.base) is, ap (λ (f : Frame). f.clause.0) is)
]

pub frame_is_whole : (P : NamedProgram) (row : List Ref) (frames : List Frame) → All (Places.IsWholeFrame P.program row) frames → (base c : ℕ)
    → Contains frames (frame_at base c) → IsWholeFrame P (word_at row) c base
frame_is_whole P row frames whole base c among k low =
    All-contains (Places.IsWholeFrame P.program row) frames (frame_at base c) whole among (base + 1 + k) (record { variable = k; among = low; at = refl })

-- ---- Goals that were met

-- The goals of a body stand in the frame of its reduction.
pub body_has_frame : (P : Program) (rs : List Reduction) (r : Reduction) → Contains rs r → (g : Goal) → Contains (goals_of_body P r) g
    → HasFrame (all_frames rs) g
body_has_frame P rs r among g there =
    let goals : List Framed = body_goals r.clause.0 r.node [] 0 (clause_at P r.clause.0).body in
    let frame : Contains (all_frames rs) (frame_at r.node r.clause.0) =
    contains_more (frame_at 0 0) (frame_of r) (map frame_of rs) (contains_map frame_of r rs among) in
    let (f, one, is) = map_contains goal_of g goals there in
    subst (HasFrame (all_frames rs)) is
    (All-contains (λ (f : Framed). HasFrame (all_frames rs) f.goal) goals f
    (body_goals_all (λ (f : Framed). HasFrame (all_frames rs) f.goal) r.clause.0 r.node [] 0 (clause_at P r.clause.0).body (λ j low high. frame)) one)

module _ (P : Program) (rs : List Reduction) where
  -- Each goal that was met on a walk does.
  pub met_has_frame : (goals left : List Goal) (met : List Taken) → Walks P goals left met
      → ((g : Goal) → Contains goals g → HasFrame (all_frames rs) g)
      → ((g : Goal) (r : Reduction) → Contains met (Reduced g r) → Contains rs r)
      → (x : Taken) → Contains met x → HasFrame (all_frames rs) (goal_taken x)
  met_has_frame goals left met Walks.over stand made x among = absurd (contains_none x among)
  met_has_frame goals left met (Walks.stays g gs rest more walks) stand made x among =
      met_has_frame gs rest more walks (λ h c. stand h (contains_more g h gs c)) made x among
  met_has_frame goals left met (Walks.ran g gs rest more walks) stand made x among = elim (contains_cases (Ran g) x more among) [
    | inl same ↦ subst (λ x. HasFrame (all_frames rs) (goal_taken x)) (sym same) (stand g (contains_first g gs))
    | inr later ↦ met_has_frame gs rest more walks (λ h c. stand h (contains_more g h gs c))
        (λ h r c. made h r (contains_more (Ran g) (Reduced h r) more c)) x later
  ]
  met_has_frame goals left met (Walks.reduced g r gs rest more behind there walks) stand made x among = elim (contains_cases (Reduced g r) x more among) [
    | inl same ↦ subst (λ x. HasFrame (all_frames rs) (goal_taken x)) (sym same) (stand g (contains_first g gs))
    | inr later ↦ met_has_frame (goals_of_body P r ++ gs) rest more walks
        (λ h c. elim (Contains-append_cases (goals_of_body P r) gs h c) [
          | inl body ↦ body_has_frame P rs r (made g r (contains_first (Reduced g r) more)) h body
          | inr old ↦ stand h (contains_more g h gs old)
        ])
        (λ h q c. made h q (contains_more (Reduced g r) (Reduced h q) more c)) x later
  ]
