-- Own settings of a row that is not told, each of which follows from what was asked for and what was known before it.
use Rattle.std.proofs.lemmas.List.{length-append}
use Rattle.std.proofs.Common.{ℕ, length, arith, ◌≡◌, ◌⊎◌, true, false, List, [], ◌∷◌, ◌++◌, None, refl, sym, ap, subst, ◌∙◌, inl, inr}
use Rattle.std.specs.Prelude.{Contains}
use Rattle.std.proofs.lemmas.Bool.{true≢false}
use Rattle.std.proofs.lemmas.List.Elements.{All-contains, Contains-append_left, Contains-append_right}
use Rattle.and_model.specs.Terms.{Substitution}
use Rattle.and_model.specs.Solutions.{Solves}
use Rattle.and_model.specs.Store.{Setting, Known, is_half}
use Rattle.and_model.specs.declared.reference.Ref.{Ref}
use Rattle.and_model.specs.declared.reference.Ref.TheVariants.{Cell}
use Rattle.and_program.specs.Skeletons.{AllFall}
use Rattle.and_cells.specs.Ranges.{NamedProgram}
use Rattle.and_cells.specs.Seen.{Seen, Knows, IsAmong, Keeps, OnlyReads, Gains}
use Rattle.and_cells.specs.Meaning.{Words, equations_between}
use Rattle.and_laws.proofs.Ordered.{contains_first}
use Rattle.and_cells.specs.Known.{HasKnown, SolvesKnown, SolvesSettings}
use Rattle.and_cell_laws.proofs.Images.{contains_origin}
use Rattle.and_unify.specs.declared.pairs.Pair.{Pair}
use Rattle.and_unify.specs.Pairs.{equations_of_pairs}
use Rattle.and_unify.specs.Following.{OwnFollow}
use Rattle.and_unify.specs.Turns
use Rattle.and_unify.specs.Turns.{Steps, sets, one_class, joins}
use Rattle.and_unify.proofs.TurnAgree.{PairAgrees, solves_from_agree}
use Rattle.and_unify.proofs.TurnSound.{Sound, set_agrees}

-- An element at which two joined lists are cut differently is in the first of the others, with more behind it, or in the second.
cut_joined : {X : Type 0} (xs : List X) (k : X) (ys os ks : List X) → xs ++ k ∷ ys ≡ os ++ ks → ((rest : List X) × (os ≡ xs ++ k ∷ rest)) ⊎ Contains ks k
cut_joined xs k ys [] ks e = inr (subst (λ l. Contains l k) e (Contains-append_right xs (k ∷ ys) k (contains_first k ys)))
cut_joined [] k ys (o ∷ os) ks e = let first : k ≡ o = cc in inl (os, ap (λ x. x ∷ os) (sym first))
cut_joined (x ∷ xs) k ys (o ∷ os) ks e =
    let first : x ≡ o = cc in
    let rest : xs ++ k ∷ ys ≡ os ++ ks = cc in
    elim (cut_joined xs k ys os ks rest) [
      | inl p ↦ inl (p.0, ap (λ l. o ∷ l) p.1 ∙ ap (λ y. y ∷ xs ++ k ∷ p.0) (sym first))
      | inr at ↦ inr at
    ]

-- It is in the first, or the first stands before it.
cut_behind : {X : Type 0} (xs : List X) (k : X) (ys os ks : List X) → xs ++ k ∷ ys ≡ os ++ ks
    → ((rest : List X) × (os ≡ xs ++ k ∷ rest)) ⊎ ((rest : List X) × (xs ≡ os ++ rest))
cut_behind xs k ys [] ks e = inr (xs, refl)
cut_behind [] k ys (o ∷ os) ks e = let first : k ≡ o = cc in inl (os, ap (λ x. x ∷ os) (sym first))
cut_behind (x ∷ xs) k ys (o ∷ os) ks e =
    let first : x ≡ o = cc in
    let rest : xs ++ k ∷ ys ≡ os ++ ks = cc in
    elim (cut_behind xs k ys os ks rest) [
      | inl p ↦ inl (p.0, ap (λ l. o ∷ l) p.1 ∙ ap (λ y. y ∷ xs ++ k ∷ p.0) (sym first))
      | inr p ↦ inr (p.0, ap (λ l. x ∷ l) p.1 ∙ ap (λ y. y ∷ os ++ p.0) first)
    ]

-- Where the second has one element, the first list ends just before it.
cut_last : {X : Type 0} (xs : List X) (k : X) (ys os : List X) (last : X) → xs ++ k ∷ ys ≡ os ++ last ∷ []
    → ((rest : List X) × (os ≡ xs ++ k ∷ rest)) ⊎ ((k ≡ last) × (xs ≡ os))
cut_last [] k ys [] last e = inr (cc, refl)
cut_last [] k ys (o ∷ os) last e = let first : k ≡ o = cc in inl (os, ap (λ x. x ∷ os) (sym first))
cut_last (x ∷ []) k ys [] last e = absurd (cc)
cut_last (x ∷ z ∷ xs) k ys [] last e = absurd (cc)
cut_last (x ∷ xs) k ys (o ∷ os) last e =
    let first : x ≡ o = cc in
    let rest : xs ++ k ∷ ys ≡ os ++ last ∷ [] = cc in
    elim (cut_last xs k ys os last rest) [
      | inl p ↦ inl (p.0, ap (λ l. o ∷ l) p.1 ∙ ap (λ y. y ∷ xs ++ k ∷ p.0) (sym first))
      | inr p ↦ inr (p.0, ap (λ l. x ∷ l) p.1 ∙ ap (λ y. y ∷ os) first)
    ]

-- What solves the settings that are listed solves what is known of a row that is not told.
pub known_from_settings : (P : NamedProgram) (w : Words) (s : Seen) (t : Substitution) → s.told ≡ None → SolvesSettings P w s.known t → SolvesKnown P w s t
known_from_settings P w s t untold solves place r knows whole =
    let listed : IsAmong None s.known place r = subst (λ o. IsAmong o s.known place r) untold knows in
    let (k, at, is) = contains_origin (λ (k : Known). k.setting) s.known (record { place = place; value = r }) listed in
    let same_place : place ≡ k.setting.place = ap (λ (x : Setting). x.place) is in
    let same_value : r ≡ k.setting.value = ap (λ (x : Setting). x.value) is in
    let at_k : Solves t (equations_between P w (Cell k.setting.place) k.setting.value) = solves k at (ap is_half (sym same_value) ∙ whole) in
    subst (λ n. Solves t (equations_between P w (Cell n) r)) (sym same_place)
    (subst (λ x. Solves t (equations_between P w (Cell k.setting.place) x)) (sym same_value) at_k)

-- Each own setting follows, as long as lists only grow by what is learnt,
pub follow_reads : (P : NamedProgram) (asked : List Pair) (first old new : Seen) → OnlyReads old new → OwnFollow P asked first old → OwnFollow P asked first new
follow_reads P asked first old new reads follow before after k is own w has t solves asks =
    let cut : (first.known ++ before) ++ k ∷ after ≡ old.known ++ reads.learnt = sym is ∙ reads.gains in
    elim (cut_joined (first.known ++ before) k after old.known reads.learnt cut) [
      | inl p ↦ follow before p.0 k p.1 own w (λ place r known. has place r (reads.keeps place r known)) t solves asks
      | inr at ↦ absurd (true≢false (sym own ∙ All-contains (λ (x : Known). x.is_own ≡ false) reads.learnt k reads.none_own at))
    ]

-- and as what is set follows when it is set.
follow_sets : (P : NamedProgram) (asked : List Pair) (first old new : Seen) (cell : ℕ) (to : Ref)
    → ((place : ℕ) (r : Ref) → Knows old place r → Knows new place r)
    → Gains old.known new.known (record { setting = record { place = cell; value = to }; is_own = true })
    → ((w : Words) → HasKnown old w → (t : Substitution) → SolvesSettings P w old.known t → Solves t (equations_of_pairs P w asked)
    → Solves t (equations_between P w (Cell cell) to))
    → OwnFollow P asked first old → OwnFollow P asked first new
follow_sets P asked first old new cell to knows (inl same) now follow before after k is own w has t solves asks =
    follow before after k (sym same ∙ is) own w (λ place r known. has place r (knows place r known)) t solves asks
follow_sets P asked first old new cell to knows (inr more) now follow before after k is own w has t solves asks =
    let last : Known = record { setting = record { place = cell; value = to }; is_own = true } in
    let has_old : HasKnown old w = λ place r known. has place r (knows place r known) in
    let cut : (first.known ++ before) ++ k ∷ after ≡ old.known ++ last ∷ [] = sym is ∙ more in
    elim (cut_last (first.known ++ before) k after old.known last cut) [
      | inl p ↦ follow before p.0 k p.1 own w has_old t solves asks
      | inr p ↦
          let claim : Solves t (equations_between P w (Cell cell) to) = now w has_old t (subst (λ ks. SolvesSettings P w ks t) p.1 solves) asks in
          subst (λ (x : Known). Solves t (equations_between P w (Cell x.setting.place) x.setting.value)) (sym p.0) claim
    ]

-- So a step keeps that each own setting follows, where what is to do does.
pub follow_steps : (P : NamedProgram) (p : Pair) (old new : Seen) (links more_links : List (Ref × Ref)) (list longer : List Pair) (bound further : List ℕ)
    (asked : List Pair) (first : Seen) (Asked Todo : Pair → Type 0)
    → AllFall 0 P.skeleton.nodes → old.told ≡ None → Todo p
    → ((w : Words) (t : Substitution) → Solves t (equations_of_pairs P w asked) → (q : Pair) → Asked q → PairAgrees P w t q)
    → Steps P p old new links more_links list longer bound further → Sound P old Asked Todo (λ w t. SolvesKnown P w old t)
    → OwnFollow P asked first old → OwnFollow P asked first new
follow_steps P p old new links more_links list longer bound further asked first Asked Todo fall untold own asks (Turns.alike m e f g) sound follow =
    follow_reads P asked first old new m.lead.reads follow
follow_steps P p old new links more_links list longer bound further asked first Asked Todo fall untold own asks (sets cell m e f g) sound follow =
    let before : OwnFollow P asked first m.before = follow_reads P asked first old m.before m.lead.reads follow in
    let still : m.before.told ≡ None = m.lead.reads.told ∙ untold in
    let now : (w : Words) → HasKnown m.before w → (t : Substitution) → SolvesSettings P w m.before.known t → Solves t (equations_of_pairs P w asked)
    → Solves t (equations_between P w (Cell cell) m.to) =
    λ w has t settings solves.
    let known : SolvesKnown P w m.before t = known_from_settings P w m.before t still settings in
    let known_old : SolvesKnown P w old t = λ place r k h. known place r (m.lead.reads.keeps place r k) h in
    let todos = (sound w (λ place r k. has place r (m.lead.reads.keeps place r k)) t known_old (asks w t solves)).1 in
    solves_from_agree P w t (Cell cell) m.to (set_agrees P p.left p.right cell old new m w t has known (todos p own)) in
    follow_sets P asked first m.before new cell m.to (λ place r k. (m.sets.adds place r).1 (inl k)) m.sets.gains now before
follow_steps P p old new links more_links list longer bound further asked first Asked Todo fall untold own asks (one_class one other m c e f g) sound follow =
    follow_reads P asked first old new m.lead.reads follow
follow_steps P p old new links more_links list longer bound further asked first Asked Todo fall untold own asks (joins one other m c f g) sound follow =
    follow_reads P asked first old new m.lead.reads follow

-- What one call set and then a next, from pairs that follow from those that were asked for, follows from these.
pub follow_on : (P : NamedProgram) (asked left : List Pair) (first mid now : Seen) → Keeps mid now → mid.told ≡ None
    → ((w : Words) → HasKnown mid w → (t : Substitution) → SolvesKnown P w mid t → Solves t (equations_of_pairs P w asked)
    → Solves t (equations_of_pairs P w left))
    → OwnFollow P asked first mid → OwnFollow P left mid now → OwnFollow P asked first now
follow_on P asked left first mid now keeps untold leads one two before after k is own w has t solves asks =
    let (gained, grows) = keeps.known in
    let has_mid : HasKnown mid w = λ place r known. has place r (keeps.knows place r known) in
    let cut : (first.known ++ before) ++ k ∷ after ≡ mid.known ++ gained = sym is ∙ grows in
    elim (cut_behind (first.known ++ before) k after mid.known gained cut) [
      | inl p ↦ one before p.0 k p.1 own w has_mid t solves asks
      | inr (rest, begins) ↦
          let settings : SolvesSettings P w (mid.known ++ rest) t = subst (λ ks. SolvesSettings P w ks t) begins solves in
          let known : SolvesKnown P w mid t = known_from_settings P w mid t untold (λ x at. settings x (Contains-append_left mid.known rest x at)) in
          let whole : now.known ≡ mid.known ++ rest ++ k ∷ after = is ∙ ap (λ ks. ks ++ k ∷ after) begins in
          two rest after k whole own w has t settings (leads w has_mid t known asks)
    ]

-- nothing is a list with an element
is_longer : {X : Type 0} (xs before : List X) (k : X) (after : List X) → xs ≡ xs ++ before ++ k ∷ after → ⊥
is_longer xs before k after e =
    let len : length xs ≡ length (xs ++ before ++ k ∷ after) = ap (λ l. length l) e in
    let one = length-append (xs ++ before) (k ∷ after) in
    let two = length-append xs before in
    omega arith

-- Where nothing became known, nothing has to follow.
pub follow_nothing : (P : NamedProgram) (asked : List Pair) (first : Seen) → OwnFollow P asked first first
follow_nothing P asked first before after k is own w has t solves asks = absurd (is_longer first.known before k after is)
