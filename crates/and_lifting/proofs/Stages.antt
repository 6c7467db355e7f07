-- Unfoldings of a program with disjunctions, and trees of the lifted one that say the same.
use Rattle.std.proofs.Common.{ℕ, ◌≡◌, Bool, true, false, true≢false, List, [], ◌∷◌, ◌++◌, Option, Some, None, refl, ap, sym, ◌∙◌, subst, inl, inr, ◌⊎◌, arith}
use Rattle.and_model.specs.Terms.{Path, Term, variable, Substitution}
use Rattle.and_model.specs.Solutions.{Equation}
use Rattle.and_model.specs.Programs.{Program, Arithmetic, clause_at, is_of, Of, head_in}
use Rattle.and_model.specs.Trees.{Agenda, end, goal, equation, reckoning, agenda, Tree, QueryTree, query_agenda, done, left, by, equate, reckon, code, weight}
use Rattle.and_model.specs.Trees.{IsWhole, Open, path, call_of, IsLeftmost, fresh, reduce, blank, mapped, extend}
use Rattle.and_laws.proofs.Agreement.{Under, Apart, query_apart}
use Rattle.and_laws.proofs.Bodies.{fresh_code}
use Rattle.and_laws.proofs.Order.{blank_weighs, reduce_weight, none_whole}
use Rattle.and_laws.proofs.Splitting.{leftmost}
use Rattle.and_source.specs.Source.{SourceProgram, source_weight, IsNumbered}
use Rattle.and_source.specs.Unfolding.{SourceAgenda, source_end, source_agenda, Unfolding, source_extend, source_start, IsSourceWhole}
use Rattle.and_source.specs.Lifted.{lift}
use Rattle.and_lifting.proofs.Fronts.{front_equations, front_arithmetics, from_call, read_equations, read_arithmetics, read_rest, IsOpenBehind, behind}
use Rattle.and_lifting.proofs.Fronts.{read_blank, read_onward, read_whole, read_call}
use Rattle.and_lifting.proofs.Avoiding.{Frames}
use Rattle.and_lifting.proofs.Inside.{program_inside}
use Rattle.and_lifting.proofs.Matching.{Matches, match_end, match_goal, match_choice, matches_moved, body_matches, Base, Front, front}
use Rattle.and_lifting.proofs.Places.{from_call_under, from_call_apart, query_not_under}
use Rattle.and_lifting.proofs.Taking.{clause_weighs_same, advanced_weighs, base_narrower, Goes, goes_next}

-- The tree is read as far as the unfolding has come: what was taken off and what is still to be done say the same.
pub record Stage (P : SourceProgram) (u : Unfolding) (t : QueryTree (lift P)) : Type 0 where
  pub weighs : u.weight ≡ weight t
  pub up : Substitution
  pub base : Base up (Under (read_rest t)) u.equations u.arithmetics (read_equations t) (read_arithmetics t)
  pub matches : Matches P up (Under (read_rest t)) u.agenda (read_rest t)
  pub apart : Apart (read_rest t)
  pub open_behind : IsOpenBehind t

stage_of : (P : SourceProgram) (u : Unfolding) (t : QueryTree (lift P)) (ms : Agenda) (ds : List Equation) (hs : List Arithmetic) (up : Substitution)
    → read_equations t ≡ ds → read_arithmetics t ≡ hs → read_rest t ≡ ms → IsOpenBehind t → u.weight ≡ weight t
    → Base up (Under ms) u.equations u.arithmetics ds hs → Matches P up (Under ms) u.agenda ms → Apart ms → Stage P u t
stage_of P u t ms ds hs up e f g o w b m a = record {
  weighs = w;
  up = up;
  base = subst (λ x. Base up (Under x) u.equations u.arithmetics (read_equations t) (read_arithmetics t)) (sym g)
      (subst (λ l. Base up (Under ms) u.equations u.arithmetics l (read_arithmetics t)) (sym e)
      (subst (λ l. Base up (Under ms) u.equations u.arithmetics ds l) (sym f) b));
  matches = subst (λ x. Matches P up (Under x) u.agenda x) (sym g) m;
  apart = subst Apart (sym g) a;
  open_behind = o;
}

-- Both begin with the query.
pub start_stage : (P : SourceProgram) → IsNumbered P → Stage P (source_start P) (blank (query_agenda (lift P)))
start_stage P n =
    let ag : Agenda = query_agenda (lift P) in
    let U : Frames = Under ag in
    let V : Frames = Under (from_call ag) in
    let same : Substitution = λ q k. variable q k in
    let todo : SourceAgenda = source_agenda [] [] 0 P.query.body source_end in
    let w : ℕ = source_weight P.query in
    let not_query : U [] → ⊥ = query_not_under 0 (lift P).query.body in
    let base : Base same U [] [] [] [] = record {
      untouched = λ q k u. refl;
      own = λ k. refl;
      not_query = not_query;
      extends = record { entails = λ s p. tt; solved = λ s p. tt; through = λ s p q k. refl };
      steady = λ s r a p. tt;
      goals = refl;
      goals_steady = λ s r a. refl;
    } in
    let m : Matches P same U todo ag = body_matches P same U (λ q k. k) [] [] 0 P.query.body source_end end not_query (program_inside P n).0
    (λ v i. refl) match_end in
    let r : Front P same U todo [] [] w ag [] [] = front P same U todo [] [] w ag [] [] m base in
    let u : Unfolding = source_start P in
    let read = read_blank (lift P) ag in
    stage_of P u (blank ag) (from_call ag) (front_equations ag) (front_arithmetics ag) same read.0 read.1 read.2 read.3
    (advanced_weighs todo [] [] w ∙ omega (arith, clause_weighs_same P.query, blank_weighs (lift P) ag))
    (base_narrower same V U u.equations u.arithmetics (front_equations ag) (front_arithmetics ag) (from_call_under ag) r.base)
    (matches_moved P same same V U u.agenda (from_call ag) (λ q o k. refl) (from_call_under ag) r.matches)
    (from_call_apart ag (query_apart (lift P)))

-- A number goes on with neither, or with both.
abbrev pub Progress : (P : SourceProgram) (u : Unfolding) (t : QueryTree (lift P)) → Open t → ℕ → Type 0
Progress P u t o c =
    ((source_extend P u c ≡ None) × (is_of (lift P) (call_of t o) c ≡ false))
    ⊎ ((v : Unfolding) × (source_extend P u c ≡ Some v) × (h : Of (lift P) (call_of t o) c) × Stage P v (reduce t o c h))

pub progress : (P : SourceProgram) → IsNumbered P → (u : Unfolding) (t : QueryTree (lift P)) → Stage P u t → (o : Open t) → IsLeftmost t o → (c : ℕ)
    → Progress P u t o c
progress P n u t s o m c =
    let ms : Agenda = goal (path t o) (call_of t o) (behind t o) in
    let at : read_rest t ≡ ms = read_call t o m in
    let b : Base s.up (Under ms) u.equations u.arithmetics (read_equations t) (read_arithmetics t) =
    subst (λ x. Base s.up (Under x) u.equations u.arithmetics (read_equations t) (read_arithmetics t)) at s.base in
    let k : Matches P s.up (Under ms) u.agenda ms = subst (λ x. Matches P s.up (Under x) u.agenda x) at s.matches in
    elim (goes_next P n (program_inside P n).1 c u.equations u.arithmetics u.weight (path t o) (behind t o) (read_equations t)
    (read_arithmetics t) s.up u.agenda (call_of t o) b k (subst Apart at s.apart)) [
      | inl e ↦ inl (e.0, e.1)
      | inr x ↦
          let v : Unfolding = x.0 in
          let h : Of (lift P) (call_of t o) c = x.2 in
          let g : Goes P v u.weight (path t o) (call_of t o) (behind t o) (read_equations t) (read_arithmetics t) (clause_at (lift P) c) = x.3 in
          let r = read_onward t o c h m s.open_behind in
          let body : Agenda = agenda (path t o) 0 (clause_at (lift P) c).body (behind t o) in
          inr (
            v,
            x.1,
            h,
            stage_of P v (reduce t o c h) (from_call body) (read_equations t ++ (call_of t o, head_in (lift P) (path t o) c) ∷ front_equations body)
                (read_arithmetics t ++ front_arithmetics body) g.up r.0 r.1 r.2 r.3 (g.weighs
                ∙ omega (arith, s.weighs, reduce_weight t o c h)) g.base g.matches g.apart,
          )
    ]

-- Both are whole, or neither is.
at_end : (P : SourceProgram) (up : Substitution) (U : Frames) (ag : SourceAgenda) → Matches P up U ag end → ag ≡ source_end
at_end P up U ag match_end = refl

not_at_end : (P : SourceProgram) (up : Substitution) (U : Frames) (ag : SourceAgenda) (p : Path) (h : Term) (ks : Agenda) → Matches P up U ag (goal p h ks)
    → ag ≡ source_end → ⊥
not_at_end P up U ag p h ks (match_goal p' g h' rest ks' e v s u m) f = absurd (cc)
not_at_end P up U ag p h ks (match_choice q p' name alts ts rest ks' e v i j m) f = absurd (cc)

pub whole_down : (P : SourceProgram) (u : Unfolding) (t : QueryTree (lift P)) → Stage P u t → IsSourceWhole u → IsWhole t
whole_down P u t s w = none_whole t (λ any.
    let o : Open t = (leftmost t any).0 in
    let at = read_call t o (leftmost t any).1 in
    not_at_end P s.up (Under (goal (path t o) (call_of t o) (behind t o))) u.agenda (path t o) (call_of t o) (behind t o)
    (subst (λ x. Matches P s.up (Under x) u.agenda x) at s.matches) w)

pub whole_up : (P : SourceProgram) (u : Unfolding) (t : QueryTree (lift P)) → Stage P u t → IsWhole t → IsSourceWhole u
whole_up P u t s w = at_end P s.up (Under end) u.agenda (subst (λ x. Matches P s.up (Under x) u.agenda x) (read_whole t w).2 s.matches)

-- A whole tree is not extended, nor is one by a clause that is not of the call's predicate.
pub extend_whole : {P : Program} {ag : Agenda} (t : Tree P ag) (c : ℕ) → IsWhole t → extend t c ≡ None
extend_whole done c w = refl
extend_whole (left t) c w = elim w [ ]
extend_whole (by d k t) c w = ap (mapped (by d k)) (extend_whole t c w)
extend_whole (equate t) c w = ap (mapped equate) (extend_whole t c w)
extend_whole (reckon t) c w = ap (mapped reckon) (extend_whole t c w)

taking_none : (b : Bool) → b ≡ false → (elim b as (λ b. Option (b ≡ true)) [ true ↦ Some refl | false ↦ None ]) ≡ None
taking_none true e = absurd (true≢false e)
taking_none false e = refl

pub extend_none : {P : Program} {ag : Agenda} (t : Tree P ag) (o : Open t) (c : ℕ) → IsLeftmost t o → is_of P (call_of t o) c ≡ false → extend t c ≡ None
extend_none done o c m e = elim m [ ]
extend_none {P} (left {q = q} {g = g} t) (inl x) c m e = ap (mapped (λ h. by c h (fresh q 0 (clause_at P c).body t))) (taking_none (is_of P g c) e)
extend_none (left t) (inr o) c m e = elim m [ ]
extend_none (by d k t) o c m e = ap (mapped (by d k)) (extend_none t o c m e)
extend_none (equate t) o c m e = ap (mapped equate) (extend_none t o c m e)
extend_none (reckon t) o c m e = ap (mapped reckon) (extend_none t o c m e)

-- Where nothing is taken behind the leftmost open call, its clause comes last in the code.
blank_code : (P : Program) (ag : Agenda) → code (blank {P = P} ag) ≡ []
blank_code P end = refl
blank_code P (goal q g rest) = blank_code P rest
blank_code P (equation a b rest) = blank_code P rest
blank_code P (reckoning a rest) = blank_code P rest

pub start_code : (P : SourceProgram) → code (blank {P = lift P} (query_agenda (lift P))) ≡ []
start_code P = blank_code (lift P) (query_agenda (lift P))

pub reduce_code : {P : Program} {ag : Agenda} (t : Tree P ag) (o : Open t) (c : ℕ) (h : Of P (call_of t o) c) → IsLeftmost t o → IsOpenBehind t
    → code (reduce t o c h) ≡ code t ++ c ∷ []
reduce_code done o c h m b = elim m [ ]
reduce_code {P} (left {q = q} {g = g} {rest = rest} t) (inl x) c h m b =
    let none : code t ≡ [] = ap code b ∙ blank_code P rest in
    ap (λ l. c ∷ l) (fresh_code q 0 (clause_at P c).body t ∙ none) ∙ ap (λ l. l ++ c ∷ []) (sym none)
reduce_code (left t) (inr o) c h m b = elim m [ ]
reduce_code (by d k t) o c h m b = ap (λ l. d ∷ l) (reduce_code t o c h m b)
reduce_code (equate t) o c h m b = reduce_code t o c h m b
reduce_code (reckon t) o c h m b = reduce_code t o c h m b
