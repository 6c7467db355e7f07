-- Closing equations under arithmetic goals.
use Rattle.std.proofs.Common.{◌≡◌, List, [], ◌∷◌, ◌++◌, refl, ap, sym, ◌∙◌, inl, inr, ◌⊎◌}
use Rattle.and_model.specs.Terms.{Terms, apply_all}
use Rattle.and_model.specs.Solutions.{Equation, Solves, Solvable, Entails}
use Rattle.and_model.specs.Programs.{Arithmetic}
use Rattle.and_model.specs.Candidates.{In}
use Rattle.and_model.specs.Closure.{needs, added, Known, Ready, First, first, after, NoneReady, Closes, Ran, none_yet, Without, here, there, ClosesAnyhow}
use Rattle.and_laws.proofs.Solving.{solves_join, solves_front, solves_back}

-- What is known stays known when equations are added.
pub known_more : (es ds : List Equation) (g : Arithmetic) (ts : Terms) → Entails ds es → Known es g ts → Known ds g ts
known_more es ds g ts h k = (k.0, λ s p. k.1 s (h s p))

-- Closing only adds equations.
pub closing_keeps : (es : List Equation) (gs : List Arithmetic) (ds : List Equation) (ws : List Arithmetic) → ClosesAnyhow es gs ds ws → Entails ds es
closing_keeps es gs ds ws (ClosesAnyhow.unsolved xs ys none) s p = p
closing_keeps es gs ds ws (ClosesAnyhow.waiting xs ys none) s p = p
closing_keeps es gs ds ws (ClosesAnyhow.run xs ys g bs ts zs vs w k r) s p = solves_back s (added g ts) xs (closing_keeps (added g ts ++ xs) bs zs vs r s p)

-- a goal of the list is the one that is taken out, or one of the others
in_or_first : (g a : Arithmetic) (gs bs : List Arithmetic) → Without gs g bs → In a gs → (a ≡ g) ⊎ In a bs
in_or_first g a gs bs (here x xs) (inl e) = inl e
in_or_first g a gs bs (here x xs) (inr i) = inr i
in_or_first g a gs bs (there y ys x zs w) (inl e) = inr (inl e)
in_or_first g a gs bs (there y ys x zs w) (inr i) = elim (in_or_first x a ys zs w i) [ inl e ↦ inl e | inr j ↦ inr (inr j) ]

-- and so were the others
in_without : (g a : Arithmetic) (gs bs : List Arithmetic) → Without gs g bs → In a bs → In a gs
in_without g a gs bs (here x xs) i = inr i
in_without g a gs bs (there y ys x zs w) (inl e) = inl e
in_without g a gs bs (there y ys x zs w) (inr i) = inr (in_without x a ys zs w i)

-- a goal that is taken out was in the list
first_in : (g : Arithmetic) (gs bs : List Arithmetic) → Without gs g bs → In g gs
first_in g gs bs (here x xs) = inl refl
first_in g gs bs (there y ys x zs w) = inr (first_in x ys zs w)

-- where no goal is known, none of the list is
none_ready_in : (es : List Equation) (gs : List Arithmetic) (a : Arithmetic) → NoneReady es gs → In a gs → Ready es a → ⊥
none_ready_in es [] a n i r = elim i [ ]
none_ready_in es (g ∷ gs) a n (inl e) r = n.0 (rw e at r)
none_ready_in es (g ∷ gs) a n (inr i) r = none_ready_in es gs a n.1 i r

-- A goal that is known at the end was run: what it adds follows from the end.
pub closing_ran : (es : List Equation) (gs : List Arithmetic) (ds : List Equation) (ws : List Arithmetic) → ClosesAnyhow es gs ds ws
    → (a : Arithmetic) (ts : Terms) → In a gs → Known ds a ts → Entails ds (added a ts)
closing_ran es gs ds ws (ClosesAnyhow.unsolved xs ys none) a ts i k s p = absurd (none (s, p))
closing_ran es gs ds ws (ClosesAnyhow.waiting xs ys none) a ts i k s p = absurd (none_ready_in xs ys a none i (ts, k))
closing_ran es gs ds ws (ClosesAnyhow.run xs ys g bs us zs vs w kg r) a ts i k s p =
    elim (in_or_first g a ys bs w i) [ inl e ↦ was e | inr j ↦ closing_ran (added g us ++ xs) bs zs vs r a ts j k s p ]
  where
    after_all : Solves s (added g us ++ xs)
    after_all = closing_keeps (added g us ++ xs) bs zs vs r s p

    was : a ≡ g → Solves s (added a ts)
    was e =
        let one : apply_all s (needs g) ≡ us = kg.1 s (solves_back s (added g us) xs after_all) in
        let two : apply_all s (needs a) ≡ ts = k.1 s p in
        let same : us ≡ ts = sym one ∙ ap (λ x. apply_all s (needs x)) (sym e) ∙ two in
        let begun : Solves s (added g us) = solves_front s (added g us) xs after_all in
        let moved : Solves s (added a us) = rw e begun in
        rw same at moved

-- Nothing else is added: what entails the beginning, and what each goal adds that is known there, entails the end.
pub closing_least : (es : List Equation) (gs : List Arithmetic) (ds : List Equation) (ws : List Arithmetic) → ClosesAnyhow es gs ds ws
    → (cs : List Equation) → Entails cs es → ((a : Arithmetic) (ts : Terms) → In a gs → Known cs a ts → Entails cs (added a ts)) → Entails cs ds
closing_least es gs ds ws (ClosesAnyhow.unsolved xs ys none) cs h all = h
closing_least es gs ds ws (ClosesAnyhow.waiting xs ys none) cs h all = h
closing_least es gs ds ws (ClosesAnyhow.run xs ys g bs us zs vs w kg r) cs h all =
    let new : Entails cs (added g us ++ xs) = λ s p. solves_join s (added g us) xs (all g us (first_in g ys bs w) (known_more xs cs g us h kg) s p) (h s p) in
    closing_least (added g us ++ xs) bs zs vs r cs new (λ a ts i k. all a ts (in_without g a ys bs w i) k)

-- More equations and goals close to more equations.
pub closing_monotone : (es : List Equation) (gs : List Arithmetic) (ds : List Equation) (ws : List Arithmetic) → ClosesAnyhow es gs ds ws
    → (es2 : List Equation) (gs2 : List Arithmetic) (ds2 : List Equation) (ws2 : List Arithmetic) → ClosesAnyhow es2 gs2 ds2 ws2
    → Entails es2 es → ((a : Arithmetic) → In a gs → In a gs2) → Entails ds2 ds
closing_monotone es gs ds ws r es2 gs2 ds2 ws2 r2 h sub =
    closing_least es gs ds ws r ds2 (λ s p. h s (closing_keeps es2 gs2 ds2 ws2 r2 s p)) (λ a ts i k. closing_ran es2 gs2 ds2 ws2 r2 a ts (sub a i) k)

-- the first known goal is some goal of the list
without : (es : List Equation) (gs : List Arithmetic) (g : Arithmetic) (bs : List Arithmetic) → First es gs g bs → Without gs g bs
without es gs g bs (first x xs) = here x xs
without es gs g bs (after y ys x zs none f) = there y ys x zs (without es ys x zs f)

-- Closing is closing in some order.
pub closes_anyhow : (es : List Equation) (gs : List Arithmetic) (ds : List Equation) (ws : List Arithmetic) → Closes es gs ds ws → ClosesAnyhow es gs ds ws
closes_anyhow es gs ds ws (Closes.unsolved xs ys none) = ClosesAnyhow.unsolved xs ys none
closes_anyhow es gs ds ws (Closes.waiting xs ys none) = ClosesAnyhow.waiting xs ys none
closes_anyhow es gs ds ws (Closes.run xs ys g bs ts zs vs so f k c) =
    ClosesAnyhow.run xs ys g bs ts zs vs (without xs ys g bs f) k (closes_anyhow (added g ts ++ xs) bs zs vs c)

-- Waits es gs ws: the goals ws are those of gs, in their order, that are not known under es.
pub data Waits (es : List Equation) : List Arithmetic → List Arithmetic → Type 0 where
  nothing : Waits es [] []
  waits : (g : Arithmetic) (gs ws : List Arithmetic) → (Ready es g → ⊥) → Waits es gs ws → Waits es (g ∷ gs) (g ∷ ws)
  gone : (g : Arithmetic) (gs ws : List Arithmetic) → Ready es g → Waits es gs ws → Waits es (g ∷ gs) ws

-- a goal that is known may be taken out first
left_after : (es : List Equation) (gs : List Arithmetic) (g : Arithmetic) (bs ws : List Arithmetic) → Without gs g bs → Ready es g
    → Waits es bs ws → Waits es gs ws
left_after es gs g bs ws (here x xs) r l = gone x xs ws r l
left_after es gs g bs ws (there y ys x zs w) r (waits y' zs' vs none l) = waits y ys vs none (left_after es ys x zs vs w r l)
left_after es gs g bs ws (there y ys x zs w) r (gone y' zs' vs ready l) = gone y ys vs ready (left_after es ys x zs vs w r l)

-- where none is known, all wait
left_all : (es : List Equation) (gs : List Arithmetic) → NoneReady es gs → Waits es gs gs
left_all es [] n = nothing
left_all es (g ∷ gs) n = waits g gs gs n.0 (left_all es gs n.1)

-- the goals that wait at the end are those that are not known there
pub closing_left : (es : List Equation) (gs : List Arithmetic) (ds : List Equation) (ws : List Arithmetic) → ClosesAnyhow es gs ds ws
    → Solvable ds → Waits ds gs ws
closing_left es gs ds ws (ClosesAnyhow.unsolved xs ys none) so = absurd (none so)
closing_left es gs ds ws (ClosesAnyhow.waiting xs ys none) so = left_all xs ys none
closing_left es gs ds ws (ClosesAnyhow.run xs ys g bs us zs vs w kg r) so =
    left_after zs ys g bs vs w (us, known_more xs zs g us (λ s p. solves_back s (added g us) xs (closing_keeps (added g us ++ xs) bs zs vs r s p)) kg)
    (closing_left (added g us ++ xs) bs zs vs r so)

-- and these are determined by what is known
left_same : (es ds : List Equation) → ((g : Arithmetic) → Ready es g → Ready ds g) → ((g : Arithmetic) → Ready ds g → Ready es g)
    → (gs vs ws : List Arithmetic) → Waits es gs vs → Waits ds gs ws → vs ≡ ws
left_same es ds f b gs vs ws nothing nothing = refl
left_same es ds f b gs vs ws (waits g hs xs none l) (waits g' hs' ys none2 m) = ap (λ k. g ∷ k) (left_same es ds f b hs xs ys l m)
left_same es ds f b gs vs ws (waits g hs xs none l) (gone g' hs' ys ready m) = absurd (none (b g ready))
left_same es ds f b gs vs ws (gone g hs xs ready l) (waits g' hs' ys none m) = absurd (none (f g ready))
left_same es ds f b gs vs ws (gone g hs xs ready l) (gone g' hs' ys ready2 m) = left_same es ds f b hs xs ys l m

-- Whichever known goals are run first, the ends entail each other, and the same goals wait.
pub closure_order : (es : List Equation) (gs : List Arithmetic) (ds : List Equation) (ws : List Arithmetic) (cs : List Equation) (vs : List Arithmetic)
    → ClosesAnyhow es gs ds ws → ClosesAnyhow es gs cs vs → Entails ds cs × Entails cs ds × (Solvable ds → ws ≡ vs)
closure_order es gs ds ws cs vs r q =
    let one : Entails ds cs = closing_monotone es gs cs vs q es gs ds ws r (λ s p. p) (λ a i. i) in
    let two : Entails cs ds = closing_monotone es gs ds ws r es gs cs vs q (λ s p. p) (λ a i. i) in (
      one,
      two,
      λ so. left_same ds cs (λ g k. (k.0, known_more ds cs g k.0 two k.1)) (λ g k. (k.0, known_more cs ds g k.0 one k.1)) gs ws vs
          (closing_left es gs ds ws r so) (closing_left es gs cs vs q (so.0, one so.0 so.1)),
    )

-- Where some goals were run, and the rest is closed, the whole is closed.
pub ran_then_closes : (es : List Equation) (gs : List Arithmetic) (ds : List Equation) (ws : List Arithmetic) (cs : List Equation) (vs : List Arithmetic)
    → Ran es gs ds ws → ClosesAnyhow ds ws cs vs → ClosesAnyhow es gs cs vs
ran_then_closes es gs ds ws cs vs (none_yet xs ys) q = q
ran_then_closes es gs ds ws cs vs (Ran.one xs ys g bs ts zs us w k r) q =
    ClosesAnyhow.run xs ys g bs ts cs vs w k (ran_then_closes (added g ts ++ xs) bs zs us cs vs r q)

-- what some of the goals have added is no more than what must be
pub ran_least : (es : List Equation) (gs : List Arithmetic) (ds : List Equation) (ws : List Arithmetic) → Ran es gs ds ws
    → (cs : List Equation) → Entails cs es → ((a : Arithmetic) (ts : Terms) → In a gs → Known cs a ts → Entails cs (added a ts)) → Entails cs ds
ran_least es gs ds ws (none_yet xs ys) cs h all = h
ran_least es gs ds ws (Ran.one xs ys g bs us zs vs w kg r) cs h all =
    let new : Entails cs (added g us ++ xs) = λ s p. solves_join s (added g us) xs (all g us (first_in g ys bs w) (known_more xs cs g us h kg) s p) (h s p) in
    ran_least (added g us ++ xs) bs zs vs r cs new (λ a ts i k. all a ts (in_without g a ys bs w i) k)

-- What some of the goals have added follows from the closure.
pub closed_entails_ran : (es : List Equation) (gs : List Arithmetic) (ds : List Equation) (ws : List Arithmetic) (cs : List Equation) (vs : List Arithmetic)
    → Ran es gs ds ws → Closes es gs cs vs → Entails cs ds
closed_entails_ran es gs ds ws cs vs r c =
    let q : ClosesAnyhow es gs cs vs = closes_anyhow es gs cs vs c in
    ran_least es gs ds ws r cs (closing_keeps es gs cs vs q) (λ a ts i k. closing_ran es gs cs vs q a ts i k)
