-- Bodies that are one thing after another.
use Rattle.std.proofs.Common.{ℕ, suc, ◌≡◌, Bool, true, false, ◌||◌, List, Option, Some, None, IfSome, refl, sym, ap, ◌∙◌, subst}
use Rattle.and_syntax.specs.Written.{Written}
use Rattle.and_translation.specs.Bodies.{Body, nothing, goals, terminals, nonterminal, both, behind_first, has_impure, has_wide, is_wide_head, is_wide}
use Rattle.and_translation.specs.Translation.{walk}
use Rattle.and_drafts.specs.declared.draft.ClauseDraft.{ClauseDraft}
use Rattle.and_grammar.specs.Views.{term_at, body_at, IsCall}
use Rattle.and_grammar.specs.Plain.{Advances}

-- two bodies, one after the other
pub both_advance : (b l r : Body) (first : Bool) (s m k : ℕ) → b ≡ both l r → Advances l first s m → Advances r false m k → Advances b first s k
both_advance b l r first s m k is one other = subst (λ (x : Body). Advances x first s k) (sym is) (by first one)
  where
    pure : has_impure l ≡ false → has_impure (both l r) ≡ false
    pure e = ap (λ (x : Bool). x || has_impure r) e ∙ other.pure

    narrow : has_wide l ≡ false → has_wide (both l r) ≡ false
    narrow e = ap (λ (x : Bool). x || has_wide r) e ∙ other.narrow

    by : (f : Bool) → Advances l f s m → Advances (both l r) f s k
    by true o = record {
      pure = pure o.pure;
      narrow = narrow o.narrow;
      behind = ap (λ (n : ℕ). (walk r n (walk (behind_first l) s (suc s)).next).behind) o.behind ∙ ap (λ (n : ℕ). (walk r m n).behind) o.next ∙ other.behind;
      next = ap (λ (n : ℕ). (walk r n (walk (behind_first l) s (suc s)).next).next) o.behind ∙ ap (λ (n : ℕ). (walk r m n).next) o.next ∙ other.next;
    }
    by false o = record {
      pure = pure o.pure;
      narrow = narrow o.narrow;
      behind = ap (λ (n : ℕ). (walk r n (walk l s (suc s)).next).behind) o.behind ∙ ap (λ (n : ℕ). (walk r m n).behind) o.next ∙ other.behind;
      next = ap (λ (n : ℕ). (walk r n (walk l s (suc s)).next).next) o.behind ∙ ap (λ (n : ℕ). (walk r m n).next) o.next ∙ other.next;
    }

-- what takes no state
pub nothing_stays : (b : Body) (first : Bool) (s : ℕ) → b ≡ nothing → Advances b first s s
nothing_stays b first s is = subst (λ (x : Body). Advances x first s s) (sym is) (by first)
  where
    by : (f : Bool) → Advances nothing f s s
    by true = record { pure = refl; narrow = refl; behind = refl; next = refl }
    by false = record { pure = refl; narrow = refl; behind = refl; next = refl }

pub goals_stay : (b : Body) (first : Bool) (s : ℕ) (t : Written) → b ≡ goals t → Advances b first s s
goals_stay b first s t is = subst (λ (x : Body). Advances x first s s) (sym is) (by first)
  where
    by : (f : Bool) → Advances (goals t) f s s
    by true = record { pure = refl; narrow = refl; behind = refl; next = refl }
    by false = record { pure = refl; narrow = refl; behind = refl; next = refl }

-- terminals take the next one, but for the first
pub first_stay : (b : Body) (first : Bool) (s : ℕ) (ts : List Written) → b ≡ terminals ts → first ≡ true → Advances b first s s
first_stay b first s ts is now =
    subst (λ (f : Bool). Advances b f s s) (sym now) (subst (λ (x : Body). Advances x true s s) (sym is)
    (record { pure = refl; narrow = refl; behind = refl; next = refl }))

pub others_advance : (b : Body) (first : Bool) (s k : ℕ) (ts : List Written) → b ≡ terminals ts → first ≡ false → k ≡ suc s → Advances b first s k
others_advance b first s k ts is later e =
    subst (λ (n : ℕ). Advances b first s n) (sym e) (subst (λ (f : Bool). Advances b f s (suc s)) (sym later)
    (subst (λ (x : Body). Advances x false s (suc s)) (sym is) (record { pure = refl; narrow = refl; behind = refl; next = refl })))

-- and so does a nonterminal
pub call_advances : (d : ClauseDraft) (n : ℕ) (first : Bool) (s k : ℕ) → IsCall d n (body_at d n) → is_wide_head (term_at d n) ≡ false → k ≡ suc s
    → Advances (body_at d n) first s k
call_advances d n first s k is narrow e =
    let few : is_wide is.arguments ≡ false = ap is_wide_head (sym is.named) ∙ narrow in
    subst (λ (m : ℕ). Advances (body_at d n) first s m) (sym e) (subst (λ (x : Body). Advances x first s (suc s)) (sym is.same) (by first few))
  where
    by : (f : Bool) → is_wide is.arguments ≡ false → Advances (nonterminal is.name is.arguments) f s (suc s)
    by true few = record { pure = refl; narrow = few; behind = refl; next = refl }
    by false few = record { pure = refl; narrow = few; behind = refl; next = refl }

pub if_some : {X : Type 0} (o : Option X) (P Q : X → Type 0) → ((x : X) → P x → Q x) → IfSome o P → IfSome o Q
if_some None P Q f h = tt
if_some (Some x) P Q f h = f x h
