-- The names of the parts of a draft are noted.
use Rattle.std.proofs.Common.{ℕ, zero, suc, ◌+◌, ◌≡◌, true, List, [], ◌∷◌, ◌++◌, map, ap, sym, ◌∙◌, arith, subst}
use Rattle.std.proofs.lemmas.List.{append-nil}
use Rattle.and_model.specs.Lines.{Bytes}
use Rattle.and_syntax.specs.Written
use Rattle.and_syntax.specs.Written.{Written, Many, has, including, named, named_all}
use Rattle.and_syntax.specs.Tables.{disjunction_name, with_disjunctions}
use Rattle.and_drafts.specs.Parts
use Rattle.and_drafts.specs.Parts.{PartShape, written_at, many, postfix, postfix_all, roots, before_last, IsFormed}
use Rattle.and_clauses.specs.Lifts.{AllNamed}
use Rattle.and_judging.proofs.LiftedNames.{has-including, has-included}

-- The parts are those of one term.
pub one_formed : (ps : List PartShape) (ns : List ℕ) (w : Written) → IsFormed ps ns → map (written_at ps) ns ≡ w ∷ []
    → (ps ≡ postfix 0 w) × (ns ≡ before_last w ∷ [])
one_formed ps ns w f e =
    let z : 0 + before_last w ≡ before_last w = omega arith in
    (f.0 ∙ ap (λ ws. postfix_all 0 (many ws)) e ∙ append-nil (postfix 0 w), f.1 ∙ ap (λ ws. roots 0 (many ws)) e ∙ ap (λ k. k ∷ []) z)

-- ---- The names of parts.
pub AllNamed-append : (names : List Bytes) (ps qs : List PartShape) → AllNamed names ps → AllNamed names qs → AllNamed names (ps ++ qs)
AllNamed-append names [] qs a b = b
AllNamed-append names (p ∷ ps) qs a b = (a.0, AllNamed-append names ps qs a.1 b)

-- more names
pub AllNamed-more : (names more : List Bytes) (ps : List PartShape) → ((x : Bytes) → has x names ≡ true → has x more ≡ true) → AllNamed names ps
    → AllNamed more ps
AllNamed-more names more [] k a = tt
AllNamed-more names more (Parts.variable x ∷ ps) k a = (tt, AllNamed-more names more ps k a.1)
AllNamed-more names more (Parts.integer z ∷ ps) k a = (tt, AllNamed-more names more ps k a.1)
AllNamed-more names more (Parts.compound c ns ∷ ps) k a = (k c a.0, AllNamed-more names more ps k a.1)

mutual
  has_named : (x : Bytes) (names : List Bytes) (w : Written) → has x names ≡ true → has x (named names w) ≡ true
  has_named x names (Written.variable y) e = e
  has_named x names (Written.integer z) e = e
  has_named x names (Written.compound c ts) e = has_named_all x (including names c) ts (has-including x names c e)

  has_named_all : (x : Bytes) (names : List Bytes) (ts : Many) → has x names ≡ true → has x (named_all names ts) ≡ true
  has_named_all x names Written.none e = e
  has_named_all x names (Written.more t ts) e = has_named_all x (named names t) ts (has_named x names t e)

mutual
  named_of : (n : ℕ) (names : List Bytes) (w : Written) → AllNamed (named names w) (postfix n w)
  named_of n names (Written.variable x) = (tt, tt)
  named_of n names (Written.integer z) = (tt, tt)
  named_of n names (Written.compound c ts) =
      AllNamed-append (named_all (including names c) ts) (postfix_all n ts) (Parts.compound c (roots n ts) ∷ []) (named_of_all n (including names c) ts)
      (has_named_all c (including names c) ts (has-included names c), tt)

  named_of_all : (n : ℕ) (names : List Bytes) (ts : Many) → AllNamed (named_all names ts) (postfix_all n ts)
  named_of_all n names Written.none = tt
  named_of_all n names (Written.more t ts) =
      AllNamed-append (named_all (named names t) ts) (postfix n t) (postfix_all (n + Written.nodes_of t) ts)
      (AllNamed-more (named names t) (named_all (named names t) ts) (postfix n t) (λ x e. has_named_all x (named names t) ts e) (named_of n names t))
      (named_of_all (n + Written.nodes_of t) (named names t) ts)

-- the names of a term's parts are noted with it
pub all_named : (names : List Bytes) (ps : List PartShape) (ns : List ℕ) (w : Written) → IsFormed ps ns → map (written_at ps) ns ≡ w ∷ []
    → AllNamed (named names w) ps
all_named names ps ns w f e = subst (AllNamed (named names w)) (sym (one_formed ps ns w f e).0) (named_of 0 names w)

pub has_disjunctions : (x : Bytes) (d n : ℕ) (names : List Bytes) → has x names ≡ true → has x (with_disjunctions d n names) ≡ true
has_disjunctions x d zero names e = e
has_disjunctions x d (suc n) names e = has_disjunctions x (suc d) n (including names (disjunction_name d)) (has-including x names (disjunction_name d) e)

pub named_with : (d n : ℕ) (names : List Bytes) (ps : List PartShape) → AllNamed names ps → AllNamed (with_disjunctions d n names) ps
named_with d n names ps a = AllNamed-more names (with_disjunctions d n names) ps (λ x e. has_disjunctions x d n names e) a
