-- What is wrong with a body, part by part.
use Rattle.std.proofs.Common.{ℕ, suc, not, ltb, codes, length, map, ◌+◌, ◌<◌, ◌≡◌, Bool, true, false, ◌||◌, List, [], ◌∷◌, ◌++◌, reverse, refl, sym, ap, ◌∙◌}
use Rattle.std.proofs.Common.{arith, subst}
use Rattle.std.proofs.Math.Bool.{or_assoc}
use Rattle.std.proofs.lemmas.List.{reverse-append, length-map}
use Rattle.std.proofs.lemmas.Bool.Decides.{nat_tests}
use Rattle.std.specs.Str.{bytes_eq}
use Rattle.and_model.specs.Lines.{Bytes}
use Rattle.and_drafts.specs.Parts.{many}
use Rattle.and_syntax.specs.Written as written
use Rattle.and_syntax.specs.Written.{Written, compound, nodes_of}
use Rattle.and_translation.specs.Bodies.{Body, nothing, terminals, goals, nonterminal, both, either, impure, alternatives, has_impure}
use Rattle.and_translation.specs.Bodies.{has_impure_alternative, has_wide, has_wide_alternative, is_wide_head, is_head, count}
use Rattle.and_drafts.specs.declared.draft.ClauseDraft.{ClauseDraft}
use Rattle.and_grammar.specs.declared.checking.Found.{Found}
use Rattle.and_grammar.specs.declared.bodies.BodyPart.TheVariants.{Both, Either}
use Rattle.and_grammar.specs.Views.{term_at, body_at, Holds, IsBody, IsCall}
use Rattle.and_grammar.specs.Checked.{are_impure, are_wide, LooksAt, head_part}

impure_behind : (b : Body) → has_impure_alternative (alternatives b) ≡ has_impure b
impure_behind nothing = refl
impure_behind (terminals ts) = refl
impure_behind (goals t) = refl
impure_behind (nonterminal c ts) = refl
impure_behind (both a b) = refl
impure_behind (either rest) = refl
impure_behind impure = refl

wide_behind : (b : Body) → has_wide_alternative (alternatives b) ≡ has_wide b
wide_behind nothing = refl
wide_behind (terminals ts) = refl
wide_behind (goals t) = refl
wide_behind (nonterminal c ts) = refl
wide_behind (both a b) = refl
wide_behind (either rest) = refl
wide_behind impure = refl

or_false : (b : Bool) → b || false ≡ b
or_false true = refl
or_false false = refl

or_true : (b : Bool) → b || true ≡ true
or_true true = refl
or_true false = refl

pub nodes_some : (d : ClauseDraft) (n : ℕ) → 0 < nodes_of (term_at d n)
nodes_some d n = by (term_at d n)
  where
    by : (w : Written) → 0 < nodes_of w
    by (written.variable x) = omega arith
    by (written.integer z) = omega arith
    by (compound c ts) = omega arith

module _ (d : ClauseDraft) (n : ℕ) (rest after : List ℕ) (old new : Found) where
  two_left : (l r : ℕ) → has_impure (body_at d n) ≡ has_impure (body_at d l) || has_impure (body_at d r)
      → has_wide (body_at d n) ≡ has_wide (body_at d l) || has_wide (body_at d r)
      → Holds d l r n → after ≡ l ∷ r ∷ rest → new.impure ≡ old.impure → new.wide ≡ old.wide → LooksAt d (n ∷ rest) after old new
  two_left l r pure narrow h left same_impure same_wide =
      let il : Bool = has_impure (body_at d l) in
      let ir : Bool = has_impure (body_at d r) in
      let wl : Bool = has_wide (body_at d l) in
      let wr : Bool = has_wide (body_at d r) in
      subst (λ (ns : List ℕ). LooksAt d (n ∷ rest) ns old new) (sym left) (record {
        impure = ap (λ (b : Bool). b || (il || (ir || are_impure d rest))) same_impure
            ∙ ap (λ (b : Bool). old.impure || b) (sym (or_assoc il ir (are_impure d rest)) ∙ ap (λ (b : Bool). b || are_impure d rest) (sym pure));
        wide = ap (λ (b : Bool). b || (wl || (wr || are_wide d rest))) same_wide
            ∙ ap (λ (b : Bool). old.wide || b) (sym (or_assoc wl wr (are_wide d rest)) ∙ ap (λ (b : Bool). b || are_wide d rest) (sym narrow));
        within = λ f. (omega (arith, f.0, h.left), (omega (arith, f.0, h.right), f.1));
        less = omega (arith, h.smaller);
      })

  pub both_left : (l r : ℕ) → IsBody d n (Both l r) (body_at d n) → after ≡ l ∷ r ∷ rest → new.impure ≡ old.impure → new.wide ≡ old.wide
      → LooksAt d (n ∷ rest) after old new
  both_left l r is left same_impure same_wide = two_left l r (ap has_impure is.0) (ap has_wide is.0) is.1 left same_impure same_wide

  pub either_left : (l r : ℕ) → IsBody d n (Either l r) (body_at d n) → after ≡ l ∷ r ∷ rest → new.impure ≡ old.impure → new.wide ≡ old.wide
      → LooksAt d (n ∷ rest) after old new
  either_left l r is left same_impure same_wide =
      two_left l r (ap has_impure is.0 ∙ ap (λ (b : Bool). has_impure (body_at d l) || b) (impure_behind (body_at d r)))
      (ap has_wide is.0 ∙ ap (λ (b : Bool). has_wide (body_at d l) || b) (wide_behind (body_at d r))) is.1 left same_impure same_wide

  one_left : after ≡ rest → new.impure ≡ old.impure || has_impure (body_at d n) → new.wide ≡ old.wide || has_wide (body_at d n)
      → LooksAt d (n ∷ rest) after old new
  one_left left impure_now wide_now =
      subst (λ (ns : List ℕ). LooksAt d (n ∷ rest) ns old new) (sym left) (record {
        impure = ap (λ (b : Bool). b || are_impure d rest) impure_now ∙ or_assoc old.impure (has_impure (body_at d n)) (are_impure d rest);
        wide = ap (λ (b : Bool). b || are_wide d rest) wide_now ∙ or_assoc old.wide (has_wide (body_at d n)) (are_wide d rest);
        within = λ f. f.1;
        less = omega (arith, nodes_some d n);
      })

  -- nothing is wrong here
  pub none_wrong : (b : Body) → body_at d n ≡ b → has_impure b ≡ false → has_wide b ≡ false → after ≡ rest → new.impure ≡ old.impure → new.wide ≡ old.wide
      → LooksAt d (n ∷ rest) after old new
  none_wrong b is pure narrow left same_impure same_wide =
      one_left left (same_impure ∙ sym (ap (λ (v : Bool). old.impure || v) (ap has_impure is ∙ pure) ∙ or_false old.impure))
      (same_wide ∙ sym (ap (λ (v : Bool). old.wide || v) (ap has_wide is ∙ narrow) ∙ or_false old.wide))

  pub impure_here : body_at d n ≡ impure → after ≡ rest → new.impure ≡ true → new.wide ≡ old.wide → LooksAt d (n ∷ rest) after old new
  impure_here is left impure_now same_wide =
      one_left left (impure_now ∙ sym (ap (λ (v : Bool). old.impure || v) (ap has_impure is) ∙ or_true old.impure))
      (same_wide ∙ sym (ap (λ (v : Bool). old.wide || v) (ap has_wide is) ∙ or_false old.wide))

  pub call_here : IsCall d n (body_at d n) → after ≡ rest → new.impure ≡ old.impure → new.wide ≡ old.wide || is_wide_head (term_at d n)
      → LooksAt d (n ∷ rest) after old new
  call_here is left same_impure wide_now =
      one_left left (same_impure ∙ sym (ap (λ (v : Bool). old.impure || v) (ap has_impure is.same) ∙ or_false old.impure))
      (wide_now ∙ ap (λ (v : Bool). old.wide || v) (ap is_wide_head is.named ∙ sym (ap has_wide is.same)))

pub two_pushed : (before : List ℕ) (l r : ℕ) → reverse ((before ++ r ∷ []) ++ l ∷ []) ≡ l ∷ r ∷ reverse before
two_pushed before l r = reverse-append (before ++ r ∷ []) (l ∷ []) ∙ ap (λ (ns : List ℕ). l ∷ ns) (reverse-append before (r ∷ []))

module _ (d : ClauseDraft) (n : ℕ) where
  pub named_is_head : (c : Bytes) (ns : List ℕ) → term_at d n ≡ compound c (many (map (term_at d) ns)) → head_part c ns ≡ is_head (term_at d n)
  named_is_head c [] is = sym (ap is_head is)
  named_is_head c (m ∷ []) is = sym (ap is_head is)
  named_is_head c (l ∷ r ∷ []) is = ap (λ (b : Bool). not (bytes_eq c (codes ".") || b)) (or_false (bytes_eq c (codes ","))) ∙ sym (ap is_head is)
  named_is_head c (l ∷ m ∷ r ∷ ns) is = sym (ap is_head is)

  pub named_is_wide : (c : Bytes) (ns : List ℕ) (k : ℕ) → term_at d n ≡ compound c (many (map (term_at d) ns)) → length ns ≡ k
      → ltb 253 k ≡ is_wide_head (term_at d n)
  named_is_wide c ns k is few =
      let all : count (many (map (term_at d) ns)) ≡ k = counted (map (term_at d) ns) ∙ length-map ns (term_at d) ∙ few in
      wide_by k ∙ ap (λ (m : ℕ). ltb 255 (suc (suc m))) (sym all) ∙ sym (ap is_wide_head is)
    where
      counted : (us : List Written) → count (many us) ≡ length us
      counted [] = refl
      counted (u ∷ us) = ap suc (counted us)

      wide_by : (m : ℕ) → ltb 253 m ≡ ltb 255 (suc (suc m))
      wide_by m = grind (arith, nat_tests)

pub one_place : (place : ℕ) (start todo : List ℕ) → start ≡ [] → todo ≡ start ++ place ∷ [] → reverse todo ≡ place ∷ []
one_place place start todo e f = ap reverse (f ∙ ap (λ (ns : List ℕ). ns ++ place ∷ []) e)

pub last_place : (before rest : List ℕ) (n : ℕ) → before ≡ rest ++ n ∷ [] → reverse before ≡ n ∷ reverse rest
last_place before rest n e = ap reverse e ∙ reverse-append rest (n ∷ [])

pub or_nothing : (b : Bool) → b || false ≡ b
or_nothing b = or_false b
