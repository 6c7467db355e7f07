-- Heads that differ from what was seen of a call have no common instance with it.
use Rattle.std.proofs.Common.{ℕ, zero, suc, ◌≡◌, ◌<◌, List, refl, sym, ap, ◌∙◌, inl, inr, arith}
use Rattle.and_model.specs.Terms.{Term, Terms, variable, number, compound, none, more, width, Substitution, apply, apply_all}
use Rattle.and_model.specs.Programs.{clause_at}
use Rattle.and_model.specs.declared.numbers.ClauseNo.{ClauseNo}
use Rattle.and_model.specs.declared.numbers.NameNo.{NameNo}
use Rattle.and_model.specs.declared.reference.Ref.{Ref}
use Rattle.and_program.specs.Shown.{shown_term, count_of, term_at, argument_of}
use Rattle.and_program.specs.Skeletons.{node_term}
use Rattle.and_program.specs.declared.node.NodeKind.{NodeKind}
use Rattle.and_program.specs.declared.node.NodeKind.TheVariants.{Variable, Number, Compound}
use Rattle.and_laws.proofs.Substitutions.{then, apply_then}
use Rattle.and_cells.specs.Ranges.{NamedProgram}
use Rattle.and_branch_laws.specs.Judging.{outside}
use Rattle.and_branch_laws.specs.Variables.{placed, cells_from}
use Rattle.and_clause_index.specs.Looks.{Fits, KindsDiffer, IsLook}
use Rattle.and_clause_index.specs.Served.{NodeHas}
use Rattle.and_clause_index.specs.declared.looking.Look.{Look}

-- ---- What terms begin with

pub width_applied : (s : Substitution) (ts : Terms) → width (apply_all s ts) ≡ width ts
width_applied s none = refl
width_applied s (more t ts) = ap suc (width_applied s ts)

pub count_later : (s : Substitution) (t : Term) (j : ℕ) → j < count_of (shown_term t) → j < count_of (shown_term (apply s t))
count_later s (variable q k) j low = absurd (omega arith)
count_later s (number z) j low = low
count_later s (compound c ts) j low = let w = width_applied s ts in omega arith

-- An instance of a term begins as the term does.
pub fits_later : (k : NodeKind) (t : Term) (s : Substitution) → Fits k t → Fits k (apply s t)
fits_later (Variable j) t s f = tt
fits_later (Number z) (variable q j) s f = absurd (cc)
fits_later (Number z) (number y) s f = f
fits_later (Number z) (compound d ts) s f = absurd (cc)
fits_later (Compound c n) (variable q j) s f = absurd (cc)
fits_later (Compound c n) (number y) s f = absurd (cc)
fits_later (Compound c n) (compound d ts) s f = ap (λ (m : ℕ). Compound (record { 0 = d }) m) (width_applied s ts) ∙ f

pub fits_shown : (t : Term) → Fits (shown_term t) t
fits_shown (variable q j) = tt
fits_shown (number z) = refl
fits_shown (compound c ts) = refl

-- ---- Arguments of instances

pub term_at_applied : (s : Substitution) (ts : Terms) (j : ℕ) → term_at (apply_all s ts) j ≡ apply s (term_at ts j)
term_at_applied s none j = refl
term_at_applied s (more t ts) zero = refl
term_at_applied s (more t ts) (suc j) = term_at_applied s ts j

pub argument_applied : (s : Substitution) (t : Term) (j : ℕ) → j < count_of (shown_term t)
    → argument_of (apply s t) j ≡ apply s (argument_of t j)
argument_applied s (variable q k) j low = absurd (omega arith)
argument_applied s (number z) j low = refl
argument_applied s (compound c ts) j low = term_at_applied s ts j

pub argument_placed : (s : Substitution) (base : ℕ) (t : Term) (j : ℕ) → j < count_of (shown_term t)
    → argument_of (apply s (placed base t)) j ≡ apply s (placed base (argument_of t j))
argument_placed s base t j low =
    ap (λ (u : Term). argument_of u j) (apply_then (cells_from base) s t)
    ∙ argument_applied (then (cells_from base) s) t j low
    ∙ sym (apply_then (cells_from base) s (argument_of t j))

-- ---- Terms apart

differ : (k : NodeKind) (head t : Term) (s : Substitution) → KindsDiffer k (shown_term head) → Fits k t → t ≡ apply s head → ⊥
differ (Variable j) head t s d f e = d
differ (Number z) (variable q j) t s d f e = d
differ (Number z) (number y) t s d f e = let both : Number z ≡ Number y = sym f ∙ ap shown_term e in d (cc)
differ (Number z) (compound c ts) t s d f e =
    let both : Number z ≡ Compound (record { 0 = c }) (width (apply_all s ts)) = sym f ∙ ap shown_term e in cc
differ (Compound c n) (variable q j) t s d f e = d
differ (Compound c n) (number y) t s d f e = let both : Compound c n ≡ Number y = sym f ∙ ap shown_term e in cc
differ (Compound c n) (compound b ts) t s (inl names) f e =
    let both : Compound c n ≡ Compound (record { 0 = b }) (width (apply_all s ts)) = sym f ∙ ap shown_term e in
    let same : c ≡ record { 0 = b } = cc in
    names (ap (λ (x : NameNo). x.0) same)
differ (Compound c n) (compound b ts) t s (inr counts) f e =
    let both : Compound c n ≡ Compound (record { 0 = b }) (width (apply_all s ts)) = sym f ∙ ap shown_term e in
    let same : n ≡ width (apply_all s ts) = cc in
    counts (same ∙ width_applied s ts)

-- A head whose first argument differs from what was seen of the call's is that of no candidate.
pub first_apart : (P : NamedProgram) (row : List Ref) (node base : ℕ) (look : Look) (c : ClauseNo) → IsLook P row node base look
    → 0 < count_of (shown_term (clause_at P.program c.0).head)
    → KindsDiffer look.first (shown_term (argument_of (clause_at P.program c.0).head 0)) → NodeHas P row node base c → ⊥
first_apart P row node base look c is there apart has =
    let (s, solves) = has.1 in
    let head : Term = (clause_at P.program c.0).head in
    let call : Term = apply s (placed base (node_term P.skeleton.nodes node)) in
    let clauses : Substitution = λ r j. s outside j in
    let same : call ≡ apply clauses head = solves.0 ∙ apply_then (λ r j. variable outside j) s head in
    differ look.first (argument_of head 0) (argument_of call 0) clauses apart (is s solves.1).first
    (ap (λ (u : Term). argument_of u 0) same ∙ argument_applied clauses head 0 there)
