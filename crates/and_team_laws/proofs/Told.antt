-- The answers of a history, and that no key was given up.
use Rattle.std.proofs.Common.{ℕ, ◌≡◌, Bool, false, List, [], ◌∷◌, ◌++◌, refl, sym, ap, ◌∙◌, subst, arith}
use Rattle.and_model.specs.Prefixes.{IsPrefix}
use Rattle.and_model.specs.Programs.{Program}
use Rattle.and_model.specs.Trees.{QueryTree, decided}
use Rattle.and_model.specs.Listing.{Entry}
use Rattle.and_laws.proofs.Agreeing.{step_above}
use Rattle.and_laws.proofs.Codes.{decided_code}
use Rattle.and_laws.proofs.Keys.{below_decided, reached_decided}
use Rattle.and_laws.proofs.Members.{entry}
use Rattle.and_laws.proofs.PrefixLemmas.{prefix_then}
use Rattle.and_histories.specs.PlainTree.{Key, Event}
use Rattle.and_histories.specs.Histories.{HistoryEntry}
use Rattle.and_walk_laws.specs.Walks.{Walks}
use Rattle.and_team_laws.specs.Done.{Did, DidAll, answered_in, given_up_in, keys_answered, keys_given_up, AreAnswers}
use Rattle.and_team_laws.proofs.Passing.{passes_by}

no_entry : (e : Entry) (es : List Entry) → [] ≡ e ∷ es → ⊥
no_entry e es is = cc

only_entry : (d e : Entry) → d ∷ [] ≡ e ∷ [] → d ≡ e
only_entry d e is = cc

module _ (P : Program) (limit : ℕ) where
  -- Where a walk without forks finds one entry, the entry's code goes on from what the tree has decided.
  pub told_code : (t : QueryTree P) (es : List Entry) (f m : ℕ) (b : Bool) → Walks P limit t es f m b → (e : Entry) → es ≡ e ∷ [] → f ≡ 0
      → IsPrefix (decided t) e.code
  told_code t es f m b (Walks.stepped t' v ks g n d st w) e is none =
      prefix_then (decided t') (decided v) e.code (below_decided (step_above t' v st)) (told_code v ks g n d w e is none)
  told_code t es f m b (Walks.over t' v st x) e is none = absurd (no_entry e [] is)
  told_code t es f m b (Walks.dead t' x) e is none = absurd (no_entry e [] is)
  told_code t es f m b (Walks.ended t' o x a) e is none =
      subst (λ c. IsPrefix (decided t') c) (ap (λ (z : Entry). z.code) (only_entry (entry t' o) e is)) (decided_code t')
  told_code t es f m b (Walks.forked t' cs ks g n d s o v w) e is none = absurd (omega (arith, none))

  event_answers : (event : Event) (es : List Entry) (f m : ℕ) (b : Bool) → Did P limit event es f m b → (keys : List Key) (others : List Entry)
      → AreAnswers keys others → AreAnswers (answered_in event ++ keys) (es ++ others)
  event_answers event es f m b (Did.forked team key clauses t is_cut reached is) keys others a = a
  event_answers event es f m b (Did.told team key t e reached walks) keys others a = (
    prefix_then key (decided t) e.code (reached_decided P limit key t reached) (told_code t (e ∷ []) 0 0 false walks e refl refl),
    a,
  )
  event_answers event es f m b (Did.ended team key t forks failed is_cut reached walks none) keys others a = a
  event_answers event es f m b (Did.passed event' is) keys others a =
      subst (λ ks. AreAnswers (ks ++ keys) others) (sym (passes_by event' is).1) a

  pub history_answers : (history : List HistoryEntry) (es : List Entry) (f m : ℕ) (b : Bool) → DidAll P limit history es f m b
      → AreAnswers (keys_answered history) es
  history_answers history es f m b DidAll.none = tt
  history_answers history es f m b (DidAll.more e rest ks others f1 m1 f2 m2 b1 b2 did x) =
      event_answers e.event ks f1 m1 b1 did (keys_answered rest) others (history_answers rest others f2 m2 b2 x)

  event_gives : (event : Event) (es : List Entry) (f m : ℕ) (b : Bool) → Did P limit event es f m b → given_up_in event ≡ []
  event_gives event es f m b (Did.forked team key clauses t is_cut reached is) = refl
  event_gives event es f m b (Did.told team key t e reached walks) = refl
  event_gives event es f m b (Did.ended team key t forks failed is_cut reached walks none) = refl
  event_gives event es f m b (Did.passed event' is) = (passes_by event' is).2

  pub history_gives_none : (history : List HistoryEntry) (es : List Entry) (f m : ℕ) (b : Bool) → DidAll P limit history es f m b
      → keys_given_up history ≡ []
  history_gives_none history es f m b DidAll.none = refl
  history_gives_none history es f m b (DidAll.more e rest ks others f1 m1 f2 m2 b1 b2 did x) =
      ap (λ keys. keys ++ keys_given_up rest) (event_gives e.event ks f1 m1 b1 did) ∙ history_gives_none rest others f2 m2 b2 x
