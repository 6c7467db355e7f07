-- The line of a branch that has ended, and what is told of its key.
use Rattle.std.proofs.Common.{ℕ, ◌≡◌, ◌≢◌, Bool, true, false, not, List, [], ◌∷◌, ◌++◌, map, filter, length, refl, ap, sym, ◌∙◌, subst, inl}
use Rattle.std.proofs.Common.{inr, ◌⊎◌}
use Rattle.std.proofs.Common.{Contains, cond, All, Ok, Err}
use Rattle.std.specs.Prelude.{Result, IfOk}
use Rattle.std.proofs.lemmas.List.Elements.{All-weaker}
use Rattle.and_model.specs.Lines.{Bytes, line}
use Rattle.and_model.specs.Listing
use Rattle.and_model.specs.Listing.{outcome_of, Ends}
use Rattle.and_model.specs.Programs.{Program, Arithmetic}
use Rattle.and_model.specs.Reached.{Dead}
use Rattle.and_model.specs.Reductions.{Reduction, Makes, PlaceHas, reduced}
use Rattle.and_model.specs.Stands.{Framed}
use Rattle.and_model.specs.Trees as trees
use Rattle.and_model.specs.Trees.{QueryTree, Open, IsWhole}
use Rattle.and_model.specs.declared.goal
use Rattle.and_model.specs.declared.goal.Goal.{Goal}
use Rattle.and_laws.proofs.Order.{whole_has_none}
use Rattle.and_laws.proofs.Ordered.{contains_first, contains_more}
use Rattle.and_cells.specs.Ranges.{NamedProgram, IsGoalInRange}
use Rattle.and_branch_parts.proofs.SeenGoals.{contains_image}
use Rattle.and_print.specs.Given.{Given}
use Rattle.and_branch_laws.specs.OwnVariables.{IsLoaded}
use Rattle.and_branch_laws.specs.Judging.{NoneIsGround, NoCall}
use Rattle.and_branch_laws.specs.Kept.{task_of, is_call, goal_of, arithmetic_kept}
use Rattle.and_branch_laws.specs.Lines.{LineIsRead}
use Rattle.and_branch_laws.specs.States.{State, StateOf, answer, floundered, failed}
use Rattle.and_branch_laws.specs.Visits.{at_query, Decides}
use Rattle.and_branch_laws.proofs.Judging
use Rattle.and_branch_laws.proofs.Keeping
use Rattle.and_branch_laws.proofs.Lining
use Rattle.and_branch_laws.proofs.OneState
use Rattle.and_branch_laws.proofs.Places.{place_not_open}
use Rattle.and_branch_laws.proofs.Visiting
use Rattle.and_code.specs.Places.{IsMissing}
use Rattle.and_code.specs.Telling.{IsTold}
use Rattle.and_code.specs.Written.{written, all_written}
use Rattle.and_code.specs.declared.telling.CodeSoFar.{CodeSoFar}
use Rattle.and_branch_parts.specs.Branches.{Held, is_arithmetic, Lives, IsBranch, IsBranchOf, IsOpenGoal}
use Rattle.and_branch_parts.specs.Ended.{HasEnded, IsLineOf}
use Rattle.and_branch_parts.specs.Finding.{IsSeen}
use Rattle.and_branch_parts.proofs.ArithmeticRuns.{lives, all_seen}

-- Where none passes, all others are kept.
keep_one : {X : Type 0} (p : X → Bool) (x : X) (xs : List X) (b : Bool) → (b ≡ true → ⊥) → filter (λ y. not (p y)) xs ≡ xs
    → cond (not b) (x ∷ filter (λ y. not (p y)) xs) (filter (λ y. not (p y)) xs) ≡ x ∷ xs
keep_one p x xs true n rest = absurd (n refl)
keep_one {X} p x xs false n rest = ap (λ (l : List X). x ∷ l) rest

all_pass : {X : Type 0} (p : X → Bool) (xs : List X) → ((x : X) → Contains xs x → p x ≡ true → ⊥) → filter (λ x. not (p x)) xs ≡ xs
all_pass p [] h = refl
all_pass p (x ∷ xs) h = keep_one p x xs (p x) (h x (contains_first x xs)) (all_pass p xs (λ y i. h y (contains_more x y xs i)))

-- a branch that has ended is not marked failed
ended_whole : (P : NamedProgram) (limit : ℕ) (t : QueryTree P.program) → StateOf P.program limit t answer
    ⊎ StateOf P.program limit t floundered
    → IsWhole t × (Dead t → ⊥)
ended_whole P limit t (inl x) = (
  x.4,
  λ dead. (let one : State t = failed in
      let other : State t = answer in
      let e : one ≡ other = OneState.one_state P.program limit t failed answer dead x in absurd (cc)),
)
ended_whole P limit t (inr x) = (
  x.4,
  λ dead. (let one : State t = failed in
      let other : State t = floundered in
      let e : one ≡ other = OneState.one_state P.program limit t failed floundered dead x in absurd (cc)),
)

pub ended_lives : (P : NamedProgram) (b : Held) → HasEnded P b → b.is_failed ≡ false
ended_lives P b e = elim e.branch.state [ inl d ↦ absurd ((ended_whole P b.limit e.tree e.state).1 d.1) | inr l ↦ l.live ]

-- the outcome, by what waits
answer_of : (P : Program) (ws gs : List Arithmetic) (text other : Bytes) → outcome_of ws text ≡ outcome_of gs other → gs ≡ []
    → outcome_of ws text ≡ Listing.answer text
answer_of P [] gs text other e none = refl
answer_of P (w ∷ ws) gs text other e none =
    let bad : Listing.floundered text ≡ Listing.answer other = e ∙ ap (λ (l : List Arithmetic). outcome_of l other) none in absurd (cc)

floundered_of : (P : Program) (ws gs : List Arithmetic) (text other : Bytes) → outcome_of ws text ≡ outcome_of gs other → gs ≢ []
    → outcome_of ws text ≡ Listing.floundered text
floundered_of P [] [] text other e some = absurd (some refl)
floundered_of P [] (g ∷ gs) text other e some = absurd (cc)
floundered_of P (w ∷ ws) gs text other e some = refl

module _ (P : NamedProgram) (loaded : IsLoaded P) (b : Held) (ended : HasEnded P b) (t : QueryTree P.program) (x : IsBranchOf P b t) where
  abbrev l : Lives P b t
  l = lives P loaded b t x (ended_lives P b ended)

  none_ground : NoneIsGround P b.row l.kept
  none_ground f a us i e read ground =
      ended.at_rest f.goal (subst (λ (gs : List Goal). Contains gs f.goal) l.goals (contains_image goal_of l.kept f i))
      (ap is_arithmetic e) a us e read ground

  pub goals_in_range : All (IsGoalInRange P (length b.row)) (b.left ++ b.right)
  goals_in_range = All-weaker (IsSeen P b.row) (IsGoalInRange P (length b.row)) (λ g s. s.in_range) (b.left ++ b.right)
      (all_seen P loaded b t x (ended_lives P b ended))

  module _ (whole : IsWhole t) where
    no_call : NoCall P l.kept
    no_call f i called =
        whole_has_none t whole (Keeping.kept_open P loaded.own b.reductions b.row l.kept t l.keeps f i called).0

    all_wait : map goal_of (arithmetic_kept P.program l.kept) ≡ b.left ++ b.right
    all_wait = ap (map goal_of) (all_pass (λ (f : Framed). is_call (task_of P.program f)) l.kept (λ f i c. no_call f i c)) ∙ l.goals

    read : (r : LineIsRead P b.row (map goal_of (arithmetic_kept P.program l.kept)))
        × (NoneIsGround P b.row l.kept → NoCall P l.kept → Ends t (outcome_of r.waits (line P.program r.terms r.waits)))
    read = Lining.line_of_cells P loaded b.reductions b.row l.kept t l.keeps

    pub given : Given P b.row (b.left ++ b.right)
    given = record {
      terms = read.0.terms;
      framed = read.0.framed;
      waits = read.0.waits;
      goals_are = read.0.goals_are ∙ all_wait;
      waits_are = read.0.waits_are;
      query = read.0.query;
      goals = read.0.goals;
    }

    module _ (text : Bytes) (is : text ≡ line P.program read.0.terms read.0.waits) where
      ends : Ends t (outcome_of read.0.waits text)
      ends = subst (λ (bytes : Bytes). Ends t (outcome_of read.0.waits bytes)) (sym is) (read.1 none_ground no_call)

      -- what waits in the end is what waits at the state
      same_waits : (es : List _) (gs : List Arithmetic) → trees.Closed t es gs → ends.2 ≡ gs
      same_waits es gs closed =
          (Judging.closed_is P loaded b.reductions b.row l.kept t l.keeps none_ground ends.1 ends.2 ends.3).2
          ∙ sym (Judging.closed_is P loaded b.reductions b.row l.kept t l.keeps none_ground es gs closed).2

      answers : StateOf P.program b.limit t answer → Ends t (Listing.answer text)
      answers s = subst (λ o. Ends t o)
          (answer_of P.program read.0.waits ends.2 text (line P.program ends.4 ends.2) ends.6 (same_waits s.0 s.1 s.2 ∙ s.5)) ends

      flounders : StateOf P.program b.limit t floundered → Ends t (Listing.floundered text)
      flounders s = subst (λ o. Ends t o)
          (floundered_of P.program read.0.waits ends.2 text (line P.program ends.4 ends.2) ends.6
          (λ e. s.5 (sym (same_waits s.0 s.1 s.2) ∙ e))) ends

  -- What is written of what is given is the line.
  pub line_is : (text : Bytes) → ((g : Given P b.row (b.left ++ b.right)) → text ≡ line P.program g.terms g.waits) → IsLineOf P b t text
  unfolding given
  line_is text says = record {
    answers = λ s. answers s.4 text (says (given s.4)) s;
    flounders = λ s. flounders s.4 text (says (given s.4)) s;
  }

-- What can be printed of a branch that has ended
pub ended_given : (P : NamedProgram) (loaded : IsLoaded P) (b : Held) → HasEnded P b → Given P b.row (b.left ++ b.right)
ended_given P loaded b e = given P loaded b e e.tree e.branch (ended_whole P b.limit e.tree e.state).0

pub ended_in_range : (P : NamedProgram) (loaded : IsLoaded P) (b : Held) → HasEnded P b
    → All (IsGoalInRange P (length b.row)) (b.left ++ b.right)
ended_in_range P loaded b e = goals_in_range P loaded b e e.tree e.branch

-- ---- Its code

-- the reductions make a tree of the program, by whatever name
pub made_there : (P Q : NamedProgram) → P ≡ Q → (b : Held) → IsBranch P b → (t : QueryTree Q.program) × Makes Q.program b.reductions t
made_there P Q same b x = subst (λ (R : NamedProgram). (t : QueryTree R.program) × Makes R.program b.reductions t) same (x.0, x.1.made)

pub decided_is : (P Q : NamedProgram) → P ≡ Q → (b : Held) (t : QueryTree P.program) → IsBranchOf P b t → (cs : List ℕ)
    → Decides Q.program b.reductions (at_query ∷ []) cs → trees.decided t ≡ cs
decided_is P Q same b t x cs d =
    Visiting.reductions_decide P.program b.reductions t x.made cs
    (subst (λ (R : NamedProgram). Decides R.program b.reductions (at_query ∷ []) cs) (sym same) d)

pub code_is : (P Q : NamedProgram) → P ≡ Q → (b : Held) (t : QueryTree P.program) → IsBranchOf P b t → IsWhole t → (cs : List ℕ)
    → Decides Q.program b.reductions (at_query ∷ []) cs → cs ≡ trees.code t
code_is P Q same b t x whole cs d = sym (decided_is P Q same b t x cs d) ∙ Visiting.whole_decided t whole

-- What is told of a key, of the program by another name and of the branch as it is kept,
pub told_there : (P Q : NamedProgram) → P ≡ Q → (b old : Held) → b ≡ old → (t : CodeSoFar) → IsTold P.program old.reductions t old.key
    → IsTold Q.program b.reductions t b.key
told_there P Q same b old is t x =
    subst (λ (R : NamedProgram). IsTold R.program b.reductions t b.key) same
    (subst (λ (h : Held). IsTold P.program h.reductions t h.key) (sym is) x)

-- and of any code, back.
pub told_here : (P Q : NamedProgram) → P ≡ Q → (b old : Held) → b ≡ old → (t : CodeSoFar) (code : List ℕ) → IsTold Q.program b.reductions t code
    → IsTold P.program old.reductions t code
told_here P Q same b old is t code x =
    subst (λ (h : Held). IsTold P.program h.reductions t code) is
    (subst (λ (R : NamedProgram). IsTold R.program b.reductions t code) (sym same) x)

-- No reduction takes an open goal.
pub goal_missing : (P : NamedProgram) (rs : List goal.Reduction.Reduction) (all : List Reduction) → all_written rs ≡ all
    → (t : QueryTree P.program) → Makes P.program all t → (o : Open t) (g : Goal) → IsOpenGoal P all t o g → IsMissing rs g.node g.item
goal_missing P rs all is t made o g x = λ r here at item.
    let there : Contains all (written r) = subst (λ (l : List Reduction). Contains l (written r)) is (contains_image written rs r here) in
    let placed : PlaceHas all r.parent x.frame = subst (λ (n : ℕ). PlaceHas all n x.frame) (sym at) x.place in
    place_not_open P.program all t made o r.node (x.frame ++ r.item ∷ []) (reduced (written r) x.frame there placed)
    (ap (λ (i : ℕ). x.frame ++ i ∷ []) item ∙ sym x.path_is)

-- ---- What is answered

pub line_told : (P : NamedProgram) (loaded : IsLoaded P) (b : Held) → HasEnded P b → (waiting : List Goal) → waiting ≡ b.left ++ b.right
    → {E : Type 0} (r : Result Bytes E) → ((g : Given P b.row waiting) → IfOk r (λ text. text ≡ line P.program g.terms g.waits))
    → IfOk r (λ text. (t : QueryTree P.program) → IsBranchOf P b t → IsLineOf P b t text)
line_told P loaded b ended waiting e (Ok text) says = λ t x. line_is P loaded b ended t x text
    (subst (λ (gs : List Goal). (g : Given P b.row gs) → text ≡ line P.program g.terms g.waits) e says)
line_told P loaded b ended waiting e (Err error) says = tt
