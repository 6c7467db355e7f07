-- What is given to cells of a call and variables of a head, one after the other, makes them one.
use Rattle.std.proofs.Common.{ℕ, ◌+◌, ◌≡◌, ◌≢◌, ◌<◌, ◌≤◌, ◌⊎◌, Bool, false, cond, eqb, List, [], ◌∷◌, ◌++◌, length, get_or, Some}
use Rattle.std.proofs.Common.{refl, sym, ap, ◌∙◌, subst, inl, inr, arith}
use Rattle.std.specs.Prelude.{Contains}
use Rattle.std.specs.Option.{option_map}
use Rattle.std.proofs.lemmas.Bool.{eq-eqb, eqb-true, cases_lt}
use Rattle.std.proofs.lemmas.List.{length-append, get_or_append_left}
use Rattle.std.proofs.Math.Seq.{get_or-append_seam}
use Rattle.and_model.specs.Terms.{Term, variable, Substitution, apply}
use Rattle.and_model.specs.Solutions.{Equation, Solves}
use Rattle.and_model.specs.declared.reference.Ref.{Ref}
use Rattle.and_model.specs.declared.reference.Ref.TheVariants.{Free, Cell, Node, Number, Half}
use Rattle.and_program.specs.Skeletons.{node_term}
use Rattle.and_laws.proofs.Equality.{bool_cases}
use Rattle.and_laws.proofs.Solving.{solves_then}
use Rattle.and_laws.proofs.Substitutions.{then, apply_then}
use Rattle.and_cells.specs.Ranges.{NamedProgram}
use Rattle.and_cells.specs.Rows.{IsSound}
use Rattle.and_cells.specs.Seen.{word_at}
use Rattle.and_cells.specs.Meaning.{Words, cell_variable, equations_of}
use Rattle.and_cells.specs.Joined.{value}
use Rattle.and_cells.proofs.OneTerm.{apply_agree}
use Rattle.and_branch_laws.specs.Variables.{cells_from, placed}
use Rattle.and_branch_laws.specs.Judging.{outside}
use Rattle.and_branch_laws.proofs.Widening.{solved_alike}
use Rattle.and_determinacy.specs.Seeing.{AgreeUpTo, SpeaksOf, SpeakOf, only, LacksEach, ref_term, IsNoted, IsGiven, IsPart}

-- ---- Terms that speak of cells and the first variables

placed_early : (n base : ℕ) (t : Term) → SpeaksOf n (placed base t)
placed_early n base t = record {
  same = λ s z agree.
      apply_then (cells_from base) s t
      ∙ apply_agree (then (cells_from base) s) (then (cells_from base) z) t (λ v i. agree.0 (base + 1 + v.1))
      ∙ sym (apply_then (cells_from base) z t);
}

pub cell_early : (n cell : ℕ) → SpeaksOf n (cell_variable cell)
cell_early n cell = record { same = λ s z agree. agree.0 cell }

pub ref_early : (P : NamedProgram) (n : ℕ) (r : Ref) → SpeaksOf n (ref_term P r)
ref_early P n Free = cell_early n 0
ref_early P n (Cell cell) = cell_early n cell
ref_early P n (Node node base) = placed_early n base (node_term P.skeleton.nodes node.0)
ref_early P n (Number pair) = cell_early n 0
ref_early P n (Half bits) = cell_early n 0

pub variable_early : (n k : ℕ) → k < n → SpeaksOf n (variable outside k)
variable_early n k low = record { same = λ s z agree. agree.1 k low }

pub early_later : (n m : ℕ) (t : Term) → n ≤ m → SpeaksOf n t → SpeaksOf m t
early_later n m t up early = record { same = λ s z agree. early.same s z (agree.0, λ k low. agree.1 k (omega arith)) }

pub are_early_later : (n m : ℕ) (es : List Equation) → n ≤ m → SpeakOf n es → SpeakOf m es
are_early_later n m [] up early = tt
are_early_later n m (e ∷ es) up early =
    (early_later n m e.0 up early.0, early_later n m e.1 up early.1, are_early_later n m es up early.2)

pub early_join : (n : ℕ) (es ds : List Equation) → SpeakOf n es → SpeakOf n ds → SpeakOf n (es ++ ds)
early_join n [] ds one other = other
early_join n (e ∷ es) ds one other = (one.0, one.1, early_join n es ds one.2 other)

-- What gives these the same solves what speaks of them alone.
pub early_solves : (n : ℕ) (s z : Substitution) (ds : List Equation) → AgreeUpTo n s z → SpeakOf n ds → Solves s ds → Solves z ds
early_solves n s z [] agree early solves = tt
early_solves n s z (d ∷ ds) agree early solves = (
  sym (early.0.same s z agree) ∙ solves.0 ∙ early.1.same s z agree,
  early_solves n s z ds agree early.2 solves.1,
)

-- ---- Values of references

pub value_same : (P : NamedProgram) (w : Words) (s z : Substitution) (r : Ref) → ((cell : ℕ) → s [] cell ≡ z [] cell) → value P w s r ≡ value P w z r
value_same P w s z Free agree = refl
value_same P w s z (Cell cell) agree = ap (λ (t : Term). Some t) (agree cell)
value_same P w s z (Node node base) agree =
    ap (λ (t : Term). Some t) ((placed_early 0 base (node_term P.skeleton.nodes node.0)).same s z (agree, λ k low. absurd (omega arith)))
value_same P w s z (Number pair) agree = refl
value_same P w s z (Half bits) agree = refl

pub value_then : (P : NamedProgram) (w : Words) (s b : Substitution) (r : Ref) (t : Term) → value P w s r ≡ Some t → value P w (then s b) r ≡ Some (apply b t)
value_then P w s b Free t e = absurd (cc)
value_then P w s b (Cell cell) t e = ap (option_map (apply b)) e
value_then P w s b (Node node base) t e =
    ap (λ (u : Term). Some u) (sym (apply_then s b (placed base (node_term P.skeleton.nodes node.0)))) ∙ ap (option_map (apply b)) e
value_then P w s b (Number pair) t e = ap (option_map (apply b)) e
value_then P w s b (Half bits) t e = absurd (cc)

pub value_of_ref : (P : NamedProgram) (w : Words) (s : Substitution) (words : ℕ) (r : Ref) → IsPart P words r → value P w s r ≡ Some (apply s (ref_term P r))
value_of_ref P w s words Free fits = absurd fits
value_of_ref P w s words (Cell cell) fits = refl
value_of_ref P w s words (Node node base) fits = refl
value_of_ref P w s words (Number pair) fits = absurd fits
value_of_ref P w s words (Half bits) fits = absurd fits

-- ---- A cell is given a term

pub is_other : (k n : ℕ) → k ≢ n → eqb k n ≡ false
is_other k n other = elim (bool_cases (eqb k n)) [ inl e ↦ absurd (other (eqb-true k n e)) | inr e ↦ e ]

is_only : (cell : ℕ) (u : Term) → only cell u [] cell ≡ u
is_only cell u = ap (λ (b : Bool). cond b u (cell_variable cell)) (eq-eqb cell cell refl)

pub only_other : (cell : ℕ) (u : Term) (k : ℕ) → k ≢ cell → only cell u [] k ≡ cell_variable k
only_other cell u k other = ap (λ (b : Bool). cond b u (cell_variable k)) (is_other k cell other)

module _ (P : NamedProgram) (later : List Ref) (has : List ℕ) (gives : List Ref) (s : Substitution) (is : IsGiven P later has gives s) where
  -- What is noted stays, whatever a cell becomes.
  noted_then : (cell : ℕ) (u : Term) (k : ℕ) (r : Ref) → IsNoted P later s k r → IsNoted P later (then s (only cell u)) k r
  noted_then cell u k r (inl fresh) = inl (fresh.0, ap (apply (only cell u)) fresh.1)
  noted_then cell u k r (inr told) = inr (value_then P (word_at later) s (only cell u) r (s outside k) told)

  pub given_then : (cell : ℕ) (u : Term) → Contains has cell → IsGiven P later has gives (then s (only cell u))
  given_then cell u among = record {
    solves = solves_then s (only cell u) (equations_of P later) is.solves;
    others = λ other low was not. ap (apply (only cell u)) (is.others other low was not)
        ∙ only_other cell u other (λ e. not (subst (Contains has) (sym e) among));
    unseen = λ k past. ap (apply (only cell u)) (is.unseen k past);
    seen = λ k low. noted_then cell u k (get_or gives k Free) (is.seen k low);
  }

-- what it is given it then is
pub becomes : (s : Substitution) (cell : ℕ) (x : Term) (has : List ℕ) → s [] cell ≡ cell_variable cell → Contains has cell
    → LacksEach has (apply s x) → apply (then s (only cell (apply s x))) (cell_variable cell) ≡ apply (then s (only cell (apply s x))) x
becomes s cell x has was among lacks =
    ap (apply (only cell (apply s x))) was ∙ is_only cell (apply s x)
    ∙ sym (lacks.stays cell among (apply s x)) ∙ apply_then s (only cell (apply s x)) x

-- ---- A variable is noted

-- the variable becomes the term, and nothing else changes
pub noting : ℕ → Term → Substitution → Substitution
noting n t s [] k = s [] k
noting n t s (m ∷ q) k = cond (eqb k n) t (s (m ∷ q) k)

pub is_noting : (n : ℕ) (t : Term) (s : Substitution) → noting n t s outside n ≡ t
unfolding noting
is_noting n t s = ap (λ (b : Bool). cond b t (s outside n)) (eq-eqb n n refl)

noting_other : (n : ℕ) (t : Term) (s : Substitution) (k : ℕ) → k ≢ n → noting n t s outside k ≡ s outside k
unfolding noting
noting_other n t s k other = ap (λ (b : Bool). cond b t (s outside k))
    (is_other k n other)

pub noting_cells : (n : ℕ) (t : Term) (s : Substitution) (cell : ℕ) → s [] cell ≡ noting n t s [] cell
unfolding noting
noting_cells n t s cell = refl

pub noting_agrees : (n : ℕ) (t : Term) (s : Substitution) → AgreeUpTo n s (noting n t s)
noting_agrees n t s = (noting_cells n t s, λ k low. sym (noting_other n t s k (λ e. omega arith)))

push_last : (given : List Ref) (r : Ref) → get_or (given ++ r ∷ []) (length given) Free ≡ r
push_last given r = get_or-append_seam given r [] Free

module _ (P : NamedProgram) (later : List Ref) (has : List ℕ) (given : List Ref) (s : Substitution) (is : IsGiven P later has given s) (r : Ref) where
  pushed : length (given ++ r ∷ []) ≡ length given + 1
  pushed = length-append given (r ∷ [])

  -- A place is an earlier one or the last.
  place_of : (k : ℕ) → k < length (given ++ r ∷ []) → (k < length given) ⊎ (k ≡ length given)
  place_of k low = elim (cases_lt k (length given)) [ inl before ↦ inl before | inr past ↦ inr (omega (arith, pushed)) ]

  earlier : (k : ℕ) → k < length given → get_or (given ++ r ∷ []) k Free ≡ get_or given k Free
  earlier k low = get_or_append_left given (r ∷ []) Free k low

  -- The next variable is itself,
  pub fresh_noted : r ≡ Free → IsGiven P later has (given ++ r ∷ []) s
  fresh_noted none_given = record {
    solves = is.solves;
    others = is.others;
    unseen = λ k past. is.unseen k (omega (arith, pushed));
    seen = λ k low. elim (place_of k low) [
      | inl before ↦ subst (IsNoted P later s k) (sym (earlier k before)) (is.seen k before)
      | inr last ↦ subst (λ (j : ℕ). IsNoted P later s j (get_or (given ++ r ∷ []) j Free)) (sym last)
          (subst (IsNoted P later s (length given)) (sym (push_last given r)) (inl (none_given, is.unseen (length given) (omega arith))))
    ];
  }

  -- or what the reference is.
  pub noting_given : (t : Term) → IsSound P later → value P (word_at later) s r ≡ Some t → IsGiven P later has (given ++ r ∷ []) (noting (length given) t s)
  noting_given t sound told = record {
    solves = solved_alike P later s z sound (λ cell low. noting_cells (length given) t s cell) is.solves;
    others = λ other low was not. sym (noting_cells (length given) t s other) ∙ is.others other low was not;
    unseen = λ k past. noting_other (length given) t s k (λ e. omega (arith, pushed)) ∙ is.unseen k (omega (arith, pushed));
    seen = λ k low. elim (place_of k low) [
      | inl before ↦ subst (IsNoted P later z k) (sym (earlier k before)) (still k before (is.seen k before))
      | inr last ↦ subst (λ (j : ℕ). IsNoted P later z j (get_or (given ++ r ∷ []) j Free)) (sym last)
          (subst (IsNoted P later z (length given)) (sym (push_last given r))
          (inr (moved r t told ∙ ap (λ (u : Term). Some u) (sym (is_noting (length given) t s)))))
    ];
  }
    where
      z : Substitution
      z = noting (length given) t s

      moved : (q : Ref) (u : Term) → value P (word_at later) s q ≡ Some u → value P (word_at later) z q ≡ Some u
      moved q u e = sym (value_same P (word_at later) s z q (noting_cells (length given) t s)) ∙ e

      still : (k : ℕ) → k < length given → IsNoted P later s k (get_or given k Free) → IsNoted P later z k (get_or given k Free)
      still k before (inl fresh) = inl (fresh.0, noting_other (length given) t s k (λ e. omega arith) ∙ fresh.1)
      still k before (inr told) = inr (moved (get_or given k Free) (s outside k) told
          ∙ ap (λ (u : Term). Some u) (sym (noting_other (length given) t s k (λ e. omega arith))))
