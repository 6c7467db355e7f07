-- What is known of pairs goes on to be known.
use Rattle.std.proofs.Common.{ℕ, suc, ◌≡◌, inl, inr, true, false, cond, List, [], ◌∷◌, ◌++◌, map, sym, ap, subst, Contains, refl}
use Rattle.std.proofs.lemmas.List.Elements.{Contains-append_left}
use Rattle.and_model.specs.Store.{Setting, Known, is_free}
use Rattle.and_model.specs.declared.reference.Ref.{Ref}
use Rattle.and_model.specs.declared.reference.Ref.TheVariants.{Number}
use Rattle.and_store_laws.specs.Steps.{setting, knows_place, learnt, KnowsWritten}
use Rattle.and_store_laws.proofs.Lists.{map_append}

settings_in : (ks ls : List Known) (s : Setting) → Contains (map (λ (k : Known). k.setting) ks) s → Contains (map (λ (k : Known). k.setting) (ks ++ ls)) s
settings_in ks ls s c = subst (λ l. Contains l s) (sym (map_append (λ (k : Known). k.setting) ks ls))
    (Contains-append_left (map (λ (k : Known). k.setting) ks) (map (λ (k : Known). k.setting) ls) s c)

places_in : (ks ls : List Known) (n : ℕ) → Contains (map (λ (s : Setting). s.place) (map (λ (k : Known). k.setting) ks)) n
    → Contains (map (λ (s : Setting). s.place) (map (λ (k : Known). k.setting) (ks ++ ls))) n
places_in ks ls n c =
    subst (λ l. Contains (map (λ (s : Setting). s.place) l) n) (sym (map_append (λ (k : Known). k.setting) ks ls))
    (subst (λ l. Contains l n) (sym (map_append (λ (s : Setting). s.place) (map (λ (k : Known). k.setting) ks) (map (λ (k : Known). k.setting) ls)))
    (Contains-append_left (map (λ (s : Setting). s.place) (map (λ (k : Known). k.setting) ks))
    (map (λ (s : Setting). s.place) (map (λ (k : Known). k.setting) ls)) n c))

pub knows_more : (ks ls : List Known) (pair : ℕ) → KnowsWritten ks pair → KnowsWritten (ks ++ ls) pair
knows_more ks ls pair (inl w) = inl (places_in ks ls pair w.0, places_in ks ls (suc pair) w.1)
knows_more ks ls pair (inr w) = inr (w.0, settings_in ks ls (setting w.0 (Number pair)) w.1)

-- learning adds at the end, or nothing
pub learnt_is : (place : ℕ) (r : Ref) (known : List Known) → (more : List Known) × (learnt place r known ≡ known ++ more)
learnt_is place r known = elim (is_free r) as (λ b. (more : List Known)
    × (cond b known (cond (knows_place place known) known (known ++ record { setting = setting place r; is_own = false } ∷ [])) ≡ known ++ more)) [
      | true ↦ ([], sym (nil known))
      | false ↦ elim (knows_place place known) as (λ b. (more : List Known)
          × (cond b known (known ++ record { setting = setting place r; is_own = false } ∷ []) ≡ known ++ more)) [
            | true ↦ ([], sym (nil known))
            | false ↦ (record { setting = setting place r; is_own = false } ∷ [], refl)
          ]
    ]
  where
    nil : (ks : List Known) → ks ++ [] ≡ ks
    nil [] = refl
    nil (k ∷ ks) = ap (λ l. k ∷ l) (nil ks)

pub knows_learnt : (place : ℕ) (r : Ref) (known : List Known) (pair : ℕ) → KnowsWritten known pair → KnowsWritten (learnt place r known) pair
knows_learnt place r known pair k = let l = learnt_is place r known in subst (λ l. KnowsWritten l pair) (sym l.1) (knows_more known l.0 pair k)
