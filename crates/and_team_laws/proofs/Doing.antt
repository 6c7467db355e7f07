-- What the events of a history did, with one event more.
use Rattle.std.proofs.Common.{ℕ, ◌≡◌, ◌+◌, Bool, false, ◌||◌, List, [], ◌∷◌, ◌++◌, append_assoc, append-nil, sym, subst, arith}
use Rattle.and_model.specs.Programs.{Program}
use Rattle.and_model.specs.Listing.{Entry}
use Rattle.and_histories.specs.Histories.{HistoryEntry}
use Rattle.and_team_laws.specs.Done.{Did, DidAll}
use Rattle.and_team_laws.proofs.Bools.{or_assoc, or_false}

module _ (P : Program) (limit : ℕ) where
  pub did_alike : (history : List HistoryEntry) (es ks : List Entry) (f g m n : ℕ) (b d : Bool) → DidAll P limit history es f m b
      → es ≡ ks → f ≡ g → m ≡ n → b ≡ d → DidAll P limit history ks g n d
  did_alike history es ks f g m n b d w p q r s =
      subst (λ z. DidAll P limit history z g n d) p (subst (λ z. DidAll P limit history es z n d) q
      (subst (λ z. DidAll P limit history es f z d) r (subst (λ z. DidAll P limit history es f m z) s w)))

  pub did_more : (history : List HistoryEntry) (e : HistoryEntry) (es ks : List Entry) (f m g n : ℕ) (b d : Bool)
      → DidAll P limit history es f m b → Did P limit e.event ks g n d
      → DidAll P limit (history ++ e ∷ []) (es ++ ks) (f + g) (m + n) (b || d)
  did_more history e es ks f m g n b d DidAll.none did =
      did_alike (e ∷ []) (ks ++ []) ks (g + 0) (0 + g) (n + 0) (0 + n) (d || false) d
      (DidAll.more e [] ks [] g n 0 0 d false did DidAll.none) (append-nil ks) (omega arith) (omega arith) (or_false d)
  did_more history e es ks f m g n b d (DidAll.more e' rest js others f1 m1 f2 m2 b1 b2 here x) did =
      let r : DidAll P limit (rest ++ e ∷ []) (others ++ ks) (f2 + g) (m2 + n) (b2 || d) = did_more rest e others ks f2 m2 g n b2 d x did in
      did_alike (e' ∷ rest ++ e ∷ []) (js ++ (others ++ ks)) ((js ++ others) ++ ks) (f1 + (f2 + g)) ((f1 + f2) + g) (m1 + (m2 + n))
      ((m1 + m2) + n) (b1 || (b2 || d)) ((b1 || b2) || d)
      (DidAll.more e' (rest ++ e ∷ []) js (others ++ ks) f1 m1 (f2 + g) (m2 + n) b1 (b2 || d) here r)
      (sym (append_assoc js others ks)) (omega arith) (omega arith) (or_assoc b1 b2 d)
