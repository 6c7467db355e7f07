-- A number that an `is` goal asks for was written, and is to be made one with the left side.
use Rattle.std.proofs.Common.{ℕ, ℤ, suc, ◌≡◌, ◌<◌, ◌&&◌, inl, inr, Bool, true, false, List, [], ◌∷◌, ◌++◌, append-nil, length, Some, sym, ap, subst, ◌∙◌, All}
use Rattle.std.proofs.Common.{Contains}
use Rattle.std.proofs.lemmas.List.Elements.{All-nil, All-cons, Contains-append_cases}
use Rattle.and_model.specs.Arithmetic.{value}
use Rattle.and_model.specs.Closure.{added, equals}
use Rattle.and_model.specs.Programs.{Arithmetic, is, clause_at}
use Rattle.and_model.specs.Solutions.{Equation, Solves}
use Rattle.and_model.specs.Store.{is_half}
use Rattle.and_model.specs.Terms.{Term, Terms, Substitution, none, more, number, apply, is_ground}
use Rattle.and_model.specs.OwnVariables.{IsOwn}
use Rattle.and_model.specs.declared.goal.Goal.{Goal}
use Rattle.and_model.specs.declared.reference.Ref.{Ref}
use Rattle.and_model.specs.declared.reference.Ref.TheVariants.{Number}
use Rattle.and_program.specs.Skeletons
use Rattle.and_program.specs.Skeletons.{node_term}
use Rattle.and_cells.specs.Meaning.{Words, shallow_cells, equations_between, number_in}
use Rattle.and_cells.specs.Numbers.{number_of}
use Rattle.and_cells.specs.Parts.{part_at}
use Rattle.and_cells.specs.Ranges.{NamedProgram, IsInRange, IsPairInRange}
use Rattle.and_cells.specs.Seen.{Knows, IsKnownWritten, IsWrittenIfNumber}
use Rattle.and_unify.specs.declared.pairs.Pair.{Pair}
use Rattle.and_unify.specs.Pairs.{NameNoHalf, AreInRange, AreWritten, equations_of_pairs}
use Rattle.and_guards.proofs.Resolved as tried
use Rattle.and_branch_laws.specs.Kept.{item_at}
use Rattle.and_branch_laws.specs.OwnVariables.{IsLoaded}
use Rattle.and_branch_laws.specs.Variables.{placed}
use Rattle.and_branch_laws.proofs.Growing.{body_is_own}
use Rattle.and_branch_laws.proofs.Owning.{ItemSpeaksOf, item_speaks}
use Rattle.and_branch_laws.proofs.PairEquations.{between_terms, part_term, part_cells}
use Rattle.and_workers.specs.Waiting.{Waiting}
use Rattle.and_store.specs.Passes.{PassSeen}
use Rattle.and_store.specs.Worked.{seen_by}
use Rattle.and_store_laws.proofs.Lists.{all_of, contains_none}
use Rattle.and_workers.specs.AtWork.{IsAtWork}
use Rattle.and_handed.specs.Handed.{HasAll, SolvesAll, HasTerms, SolvesRun, FitsSeen, IsWholeFrame, arithmetic_at}
use Rattle.and_workers.specs.Items.{IsItemOver}
use Rattle.and_workers.specs.Running.{MayRun, NotesRun, HasNumber}
use Rattle.and_handed.specs.declared.told.Ran.{Ran}
use Rattle.and_handed.specs.declared.told.HandedOn.{HandedOn}
use Rattle.and_workers.proofs.Runs.{solves_run, noting, noting_is, is_there, was_run, work_noted}
use Rattle.and_workers.proofs.Values.{KnowsSeen, words_have_known}

and_true : (a : Bool) → a ≡ true → (a && true) ≡ true
and_true a e = ap (λ x. x && true) e

module _ (P : NamedProgram) (loaded : IsLoaded P) (words : ℕ) (p : PassSeen) (of_words : words ≡ p.store.about.words) (goal : Goal)
    (left right place pair : ℕ) (z : ℤ)
    (item : IsItemOver P words goal (Skeletons.is left right place))
    (known_now : HasNumber P p.store.about.first p.pass.seen goal.base right z) (stands : KnowsSeen p)
    (high low : Ref) (high_known : Knows (seen_by p) pair high) (low_known : Knows (seen_by p) (suc pair) low) (holds : number_of high low ≡ z)
    (there : IsPairInRange words pair) where
  abbrev what : Arithmetic
  what = is (node_term P.skeleton.nodes left) (node_term P.skeleton.nodes right)

  abbrev terms : Terms
  terms = more known_now.0 none

  -- the left side in the goal's frame, and the number
  abbrev pub asked_pair : Pair
  asked_pair = record { left = part_at P goal.base left; right = Number pair }

  abbrev asked_equation : Equation
  asked_equation = (placed goal.base (node_term P.skeleton.nodes left), number z)

  has_terms : (one : Ran) → one.goal ≡ goal → one.judged.value ≡ p → HasTerms P p.store.about.first one what terms
  has_terms one goal_is judged = record {
    is_arithmetic = ap (λ (g : Goal). item_at P.program g) goal_is ∙ sym item.is_item;
    ground = and_true (is_ground known_now.0) known_now.1.ground;
    terms = λ w has u solves.
        let has_now : HasAll w p.store.about.first p.pass.seen = subst (λ (q : PassSeen). HasAll w p.store.about.first q.pass.seen) judged has in
        let solves_now : SolvesAll P w p.store.about.first p.pass.seen u = subst (λ
        (q : PassSeen). SolvesAll P w p.store.about.first q.pass.seen u) judged solves in
        ap (λ (x : Term). more x none)
        (ap (λ (g : Goal). apply u (placed g.base (node_term P.skeleton.nodes right))) goal_is ∙ known_now.1.term w has_now u solves_now);
  }

  -- the variables of the left side are the clause's own
  own_variable : (v : _) → Contains (Rattle.and_model.specs.Terms.variables_of (node_term P.skeleton.nodes left)) v
      → v.1 < (clause_at P.program goal.clause.0).variables
  own_variable v c =
      let k = clause_at P.program goal.clause.0 in
      let all : ItemSpeaksOf (IsOwn k.variables) (item_at P.program goal) = item_speaks k.variables k.body
      (body_is_own P loaded.own goal.clause.0) goal.item in
      let both = subst (ItemSpeaksOf (IsOwn k.variables)) (sym item.is_item) all in
      (both.0 v c).1

  cells_whole : (w : Words) → IsWholeFrame P w goal.clause.0 goal.base → (cell : ℕ)
      → Contains (shallow_cells P (part_at P goal.base left) ++ []) cell → is_half (w cell) ≡ false
  cells_whole w whole cell c = elim (Contains-append_cases (shallow_cells P (part_at P goal.base left)) [] cell c) [
    | inl i ↦ (
        let v = part_cells P goal.base left loaded.skeleton.0 cell i in
        ap (λ (m : ℕ). is_half (w m)) v.2 ∙ whole v.0.1 (own_variable v.0 v.1))
    | inr i ↦ absurd (contains_none cell i)
  ]

  number_there : (w : Words) → HasAll w p.store.about.first p.pass.seen → number_in w pair ≡ number z
  number_there w has =
      let have = words_have_known p w stands has in
      ap (λ (x : Ref). number (number_of x (w (suc pair)))) (have pair high high_known)
      ∙ ap (λ (y : Ref). number (number_of high y)) (have (suc pair) low low_known) ∙ ap (λ (n : ℤ). number n) holds

  asks_for : (w : Words) → HasAll w p.store.about.first p.pass.seen → IsWholeFrame P w goal.clause.0 goal.base
      → equations_of_pairs P w (asked_pair ∷ []) ≡ asked_equation ∷ []
  asks_for w has whole =
      append-nil (equations_between P w (part_at P goal.base left) (Number pair))
      ∙ between_terms P w (part_at P goal.base left) (Number pair) (placed goal.base (node_term P.skeleton.nodes left)) (number z)
      (part_term P w goal.base left loaded.skeleton.0) (ap (λ (t : Term). Some t) (number_there w has)) (cells_whole w whole)

  -- what the run adds is that equation
  adds : (base : ℕ) → base ≡ goal.base → added (arithmetic_at base what) terms ≡ asked_equation ∷ []
  adds base e =
      ap (λ (b : ℕ). equals (placed b (node_term P.skeleton.nodes left)) (value known_now.0)) e
      ∙ ap (equals (placed goal.base (node_term P.skeleton.nodes left))) known_now.2

  in_range : AreInRange P p.store.about.words (asked_pair ∷ [])
  in_range =
      let range = tried.part_in_range P words left goal.base loaded.skeleton.0 item.item_in_range.0 in
      subst (λ (n : ℕ). AreInRange P n (asked_pair ∷ [])) of_words
      (All-cons (λ (e : Pair). IsInRange P words e.left × IsInRange P words e.right) asked_pair [] (range, there)
      (All-nil (λ (e : Pair). IsInRange P words e.left × IsInRange P words e.right)))

  is_written : AreWritten (seen_by p) (asked_pair ∷ [])
  is_written =
      let pair_is : IsWrittenIfNumber (seen_by p) (Number pair) = λ other e.
      let same : pair ≡ other = cc in subst (IsKnownWritten (seen_by p)) same (inl ((high, high_known), (low, low_known))) in
      All-cons (λ (e : Pair). IsWrittenIfNumber (seen_by p) e.left × IsWrittenIfNumber (seen_by p) e.right) asked_pair []
      (tried.part_written P (seen_by p) goal.base left, pair_is)
      (All-nil (λ (e : Pair). IsWrittenIfNumber (seen_by p) e.left × IsWrittenIfNumber (seen_by p) e.right))

  module _ (told new : HandedOn) (n : NotesRun goal p told new) (may : MayRun (length p.store.about.first) told.made.items goal) where
    known : HasTerms P p.store.about.first n.one what terms
    known = has_terms n.one n.goal_is n.judged_is

    whole_frame : (w : Words) → FitsSeen P (noting told new) p w → IsWholeFrame P w goal.clause.0 goal.base
    whole_frame w fits = subst (λ (g : Goal). IsWholeFrame P w g.clause.0 g.base) n.goal_is (fits.ran n.one (is_there P told new n.one n.ran p))

    base_is : n.one.goal.base ≡ goal.base
    base_is = ap (λ (g : Goal). g.base) n.goal_is

    asks : (w : Words) → FitsSeen P (noting told new) p w → (t : Substitution) → SolvesAll P w p.store.about.first p.pass.seen t
        → SolvesRun P p.store.about.first t n.one → Solves t (equations_of_pairs P w (asked_pair ∷ []))
    asks w fits t solves run =
        subst (Solves t) (sym (asks_for w fits.has (whole_frame w fits))) (subst (Solves t) (adds n.one.goal.base base_is) (run what terms known))

    alls : (w : Words) → FitsSeen P (noting told new) p w → (t : Substitution) → SolvesAll P w p.store.about.first p.pass.seen t
        → Solves t (equations_of_pairs P w (asked_pair ∷ [])) → SolvesRun P p.store.about.first t n.one
    alls w fits t solves solved =
        solves_run P p.store.about.first n.one what terms w t
        (subst (λ (q : PassSeen). HasAll w p.store.about.first q.pass.seen) (sym n.judged_is) fits.has)
        (subst (λ (q : PassSeen). SolvesAll P w p.store.about.first q.pass.seen t) (sym n.judged_is) solves) known
        (subst (Solves t) (sym (adds n.one.goal.base base_is)) (subst (Solves t) (asks_for w fits.has (whole_frame w fits)) solved))

    pub work_assigned : (waiting : List Waiting) → IsAtWork P told [] waiting p → IsAtWork P new (asked_pair ∷ []) waiting p
    work_assigned waiting work =
        let run = was_run P told new n.one n.ran p goal n.goal_is n.judged_is may work.done.acted (what, terms, known) in
        subst (λ (t : HandedOn). IsAtWork P t (asked_pair ∷ []) waiting p) (noting_is goal p told new n)
        (work_noted P told new n.one n.ran p n.judged_is (asked_pair ∷ []) asks alls waiting work run in_range is_written)

    -- No cell that is named is a word of a pair.
    pub whole_assigned : (w : Words) → FitsSeen P new p w → NameNoHalf P w (asked_pair ∷ [])
    whole_assigned w fits =
        let frame = whole_frame w (subst (λ (t : HandedOn). FitsSeen P t p w) (sym (noting_is goal p told new n)) fits) in
        All-cons (λ (e : Pair). All (λ (cell : ℕ). is_half (w cell) ≡ false) (shallow_cells P e.left ++ shallow_cells P e.right)) asked_pair []
        (all_of (λ (cell : ℕ). is_half (w cell) ≡ false) (shallow_cells P (part_at P goal.base left) ++ []) (cells_whole w frame))
        (All-nil (λ (e : Pair). All (λ (cell : ℕ). is_half (w cell) ≡ false) (shallow_cells P e.left ++ shallow_cells P e.right)))
