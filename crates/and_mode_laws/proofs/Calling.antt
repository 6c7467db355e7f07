-- A call and the head of the clause that took it.
use Rattle.std.proofs.Common.{ℕ, suc, ◌≡◌, ◌≤◌, refl, sym, ap, ◌∙◌, length, true, true≢false, ◌&&◌}
use Rattle.std.specs.Prelude.{ltb, leb}
use Rattle.std.proofs.lemmas.Bool.{and_parts, leb-true}
use Rattle.and_model.specs.Terms.{Path, Term, Terms, variable, number, compound, none, more, Substitution, apply, apply_all, framed}
use Rattle.and_model.specs.Programs.{Program, clause_at, same_predicate, Of, head_in}
use Rattle.and_laws.proofs.Substitutions.{apply_then, apply_all_then}
use Rattle.and_modes.specs.Modes.{Assignment, name_of, arguments_of, count_of, levels_of}
use Rattle.and_modes.specs.declared.level.Level.{Level}
use Rattle.and_modes.specs.declared.level.Side.{Side}
use Rattle.and_mode_laws.specs.Levels.{AllHaveLevels}
use Rattle.and_mode_laws.proofs.Meeting.{under}

-- a term of a clause in its frame, under a substitution
pub in_frame : (s : Substitution) (q : Path) (t : Term) → apply s (framed q t) ≡ apply (under (s q)) t
in_frame s q t = apply_then (λ r k. variable q k) s t

pub all_in_frame : (s : Substitution) (q : Path) (ts : Terms)
    → apply_all s (apply_all (λ r k. variable q k) ts) ≡ apply_all (under (s q)) ts
all_in_frame s q ts = apply_all_then (λ r k. variable q k) s ts

pub count-apply_all : (s : Substitution) (ts : Terms) → count_of (apply_all s ts) ≡ count_of ts
count-apply_all s none = refl
count-apply_all s (more t ts) = ap (λ (n : ℕ). suc n) (count-apply_all s ts)

-- the number of a clause that took a call
pub clause_there : (P : Program) (g : Term) (c : ℕ) → Of P g c → c ≤ length P.clauses
clause_there P g c h =
    let both = and_parts (ltb 0 c && leb c (length P.clauses)) (same_predicate g (clause_at P c).head) h in
    leb-true c (length P.clauses) (and_parts (ltb 0 c) (leb c (length P.clauses)) both.0).1

-- Two goals that have one predicate and, each under its own values, the same arguments.
pub record IsAlike (f g : ℕ → Term) (goal head : Term) : Type 0 where
  pub name : name_of goal ≡ name_of head
  pub count : count_of (arguments_of goal) ≡ count_of (arguments_of head)
  pub same : apply_all (under f) (arguments_of goal) ≡ apply_all (under g) (arguments_of head)

-- the parts of two structures that are the same
same_name : (c d : ℕ) (ts us : Terms) → compound c ts ≡ compound d us → c ≡ d
same_name c d ts us e = cc

same_arguments : (c d : ℕ) (ts us : Terms) → compound c ts ≡ compound d us → ts ≡ us
same_arguments c d ts us e = cc

alike_terms : (s : Substitution) (q p : Path) (goal head : Term) → same_predicate (framed q goal) head ≡ true
    → apply s (framed q goal) ≡ apply s (framed p head) → IsAlike (s q) (s p) goal head
alike_terms s q p (variable r k) head one e = absurd (true≢false (sym one))
alike_terms s q p (number z) head one e = absurd (true≢false (sym one))
alike_terms s q p (compound c ts) (variable r k) one e = absurd (true≢false (sym one))
alike_terms s q p (compound c ts) (number z) one e = absurd (true≢false (sym one))
alike_terms s q p (compound c ts) (compound d us) one e =
    let both : compound c (apply_all (under (s q)) ts) ≡ compound d (apply_all (under (s p)) us) =
    ap (compound c) (sym (all_in_frame s q ts)) ∙ e ∙ ap (compound d) (all_in_frame s p us) in
    let args : apply_all (under (s q)) ts ≡ apply_all (under (s p)) us =
    same_arguments c d (apply_all (under (s q)) ts) (apply_all (under (s p)) us) both in
    record {
      name = same_name c d (apply_all (under (s q)) ts) (apply_all (under (s p)) us) both;
      count = sym (count-apply_all (under (s q)) ts) ∙ ap count_of args ∙ count-apply_all (under (s p)) us;
      same = args;
    }

pub alike : (P : Program) (s : Substitution) (q p : Path) (goal : Term) (c : ℕ) → Of P (framed q goal) c
    → apply s (framed q goal) ≡ apply s (head_in P p c) → IsAlike (s q) (s p) goal (clause_at P c).head
alike P s q p goal c h e =
    alike_terms s q p goal (clause_at P c).head
    (and_parts (ltb 0 c && leb c (length P.clauses)) (same_predicate (framed q goal) (clause_at P c).head) h).1 e

-- Levels depend on the predicate alone.
pub same_levels : (m : Assignment) (side : Side) (goal head : Term) → name_of goal ≡ name_of head
    → count_of (arguments_of goal) ≡ count_of (arguments_of head)
    → levels_of m goal side ≡ levels_of m head side
same_levels m side goal head name count =
    ap (λ (n : ℕ). λ (place : ℕ). m n (count_of (arguments_of goal)) place side) name
    ∙ ap (λ (k : ℕ). λ (place : ℕ). m (name_of head) k place side) count

-- what has the levels of the head has those of the call, and the other way round
pub levels_alike : (m : Assignment) (side : Side) (f g : ℕ → Term) (goal head : Term) → IsAlike f g goal head
    → AllHaveLevels (levels_of m goal side) 0 (apply_all (under f) (arguments_of goal)) ≡ AllHaveLevels (levels_of m head side) 0
    (apply_all (under g) (arguments_of head))
levels_alike m side f g goal head like =
    ap (λ (levels : ℕ → Level). AllHaveLevels levels 0 (apply_all (under f) (arguments_of goal)))
    (same_levels m side goal head like.name like.count)
    ∙ ap (λ (ts : Terms). AllHaveLevels (levels_of m head side) 0 ts) like.same
