-- What one turn of a round does to the list of hands.
use Rattle.std.proofs.Common.{◌≡◌, ◌≢◌, ℕ, suc, ◌+◌, ◌-◌, ◌<◌, ◌≤◌, inl, inr, List, [], ◌∷◌, ◌++◌, length, set, get_or, get_or-set_same, get_or-set_other}
use Rattle.std.proofs.Common.{length-set, length-append, sym, ap, ◌∙◌, subst, arith}
use Rattle.std.proofs.Math.ListN.{get_or-append}
use Rattle.std.proofs.Math.Seq.{get_or-append_seam}
use Rattle.std.proofs.lemmas.Bool.{cases_eq, cases_lt}
use Rattle.std.proofs.lemmas.List.{get_or_default}
use Rattle.and_shares.specs.Balance.{share}
use Rattle.and_goals.specs.Hands.{HandSeen, OtherSeen, IsFurther}
use Rattle.and_goals.proofs.Rounds.{Between, Turned, same_target}

-- the hands at two places are replaced
abbrev pub replaced : List HandSeen → (i : ℕ) → HandSeen → (j : ℕ) → HandSeen → List HandSeen
replaced hs i g j m = set (set hs i g) j m

module _ (hs : List HandSeen) (i j : ℕ) (g m : HandSeen) where
  at_first : i < length hs → i ≢ j → (d : HandSeen) → get_or (replaced hs i g j m) i d ≡ g
  at_first below apart d = get_or-set_other (set hs i g) j i m d apart ∙ get_or-set_same hs i g d below

  at_second : j < length hs → (d : HandSeen) → get_or (replaced hs i g j m) j d ≡ m
  at_second below d = get_or-set_same (set hs i g) j m d (let l = length-set hs i g in omega arith)

  at_other : (p : ℕ) (d : HandSeen) → p ≢ i → p ≢ j → get_or (replaced hs i g j m) p d ≡ get_or hs p d
  at_other p d not_i not_j = get_or-set_other (set hs i g) j p m d not_j ∙ get_or-set_other hs i p g d not_i

  -- what the first hand keeps is kept at all places but the second, and so on
  kept_by_first : {X : Type 0} (F : HandSeen → X) (e : HandSeen) → i < length hs → i ≢ j → F g ≡ F (get_or hs i e)
      → (p : ℕ) (d : HandSeen) → p ≢ j → F (get_or (replaced hs i g j m) p d) ≡ F (get_or hs p d)
  kept_by_first F e below apart same p d not_j = elim (cases_eq p i) [
    | inl is ↦ subst (λ (k : ℕ). F (get_or (replaced hs i g j m) k d) ≡ F (get_or hs k d)) (sym is)
        (ap F (at_first below apart d) ∙ same ∙ ap F (get_or_default hs i e d below))
    | inr not_i ↦ ap F (at_other p d not_i not_j)
  ]

  kept_by_second : {X : Type 0} (F : HandSeen → X) (e : HandSeen) → j < length hs → F m ≡ F (get_or hs j e)
      → (p : ℕ) (d : HandSeen) → p ≢ i → F (get_or (replaced hs i g j m) p d) ≡ F (get_or hs p d)
  kept_by_second F e below same p d not_i = elim (cases_eq p j) [
    | inl is ↦ subst (λ (k : ℕ). F (get_or (replaced hs i g j m) k d) ≡ F (get_or hs k d)) (sym is)
        (ap F (at_second below d) ∙ same ∙ ap F (get_or_default hs j e d below))
    | inr not_j ↦ ap F (at_other p d not_i not_j)
  ]

  kept_by_both : {X : Type 0} (F : HandSeen → X) (e f : HandSeen) → i < length hs → j < length hs → i ≢ j → F g ≡ F (get_or hs i e)
      → F m ≡ F (get_or hs j f)
      → (p : ℕ) (d : HandSeen) → F (get_or (replaced hs i g j m) p d) ≡ F (get_or hs p d)
  kept_by_both F e f i_below j_below apart same_g same_m p d = elim (cases_eq p i) [
    | inl is ↦ kept_by_first F e i_below apart same_g p d (λ also. apart (sym is ∙ also))
    | inr not_i ↦ kept_by_second F f j_below same_m p d not_i
  ]

pub apart : (n place further of : ℕ) → suc further < n → IsFurther n place further of → place ≢ of
apart n place further of few to_of is = elim to_of.1 [ inl a ↦ absurd (omega arith) | inr a ↦ absurd (omega arith) ]

-- a hand gives a way to its deque away
abbrev pub gives : HandSeen → HandSeen
gives h = record h { own = share (h.own.parts - 1) h.own.put h.own.taken }

-- and another hand gets it
abbrev pub gets : OtherSeen → HandSeen → HandSeen
gets o h = record h { others = h.others ++ o ∷ [] }

-- a hand takes in what another knew of its deque
abbrev pub takes_in : OtherSeen → HandSeen → HandSeen
takes_in o h = record h { own = share (h.own.parts + 1) h.own.put (h.own.taken ++ o.known.taken) }

pub dealt_turn : (n further place of : ℕ) (hs : List HandSeen) (x y g m : HandSeen) (o : OtherSeen)
    → place < n → suc further < n → n ≤ 8 → IsFurther n place further of → Between n further (suc further) further place hs
    → g ≡ gives (get_or hs of x) → o.deque ≡ (get_or hs of x).deque → m ≡ gets o (get_or (set hs of g) place y)
    → Turned n (suc further) place of hs (replaced hs of g place m)
dealt_turn n further place of hs x y g m o below few most to_of b g_is o_is m_was = record {
  len = length-set (set hs of g) place m ∙ length-set hs of g ∙ b.len;
  deques = λ p d p_below. kept_by_both hs of place g m (λ (h : HandSeen). h.deque) x y of_in place_in
      other (ap (λ h. h.deque) g_is) (ap (λ h. h.deque) m_is) p d;
  parts = λ d.
      let at = ap (λ h. h.own.parts) (at_first hs of place g m of_in other d ∙ g_is) in
      let was = b.kept place of x (omega arith) below to_of in
      omega arith;
  parts_kept = λ p d p_below not_of. kept_by_second hs of place g m (λ (h : HandSeen). h.own.parts) y place_in
      (ap (λ h. h.own.parts) m_is) p d not_of;
  count = λ d.
      let at = ap (λ h. length h.others) (at_second hs of place g m place_in d ∙ m_is) in
      let more = length-append (get_or hs place y).others (o ∷ []) in
      let c = count in
      omega arith;
  others = others;
  others_kept = λ p d p_below not_place. kept_by_first hs of place g m (λ (h : HandSeen). h.others) x of_in
      other (ap (λ h. h.others) g_is) p d not_place;
}
  where
    of_in : of < length hs
    of_in = let l = b.len in let t = to_of.0 in omega arith

    place_in : place < length hs
    place_in = let l = b.len in omega arith

    other : of ≢ place
    other is = apart n place further of few to_of (sym is)

    m_is : m ≡ gets o (get_or hs place y)
    m_is = m_was ∙ ap (gets o) (get_or-set_other hs of place g y (apart n place further of few to_of))

    count : length (get_or hs place y).others ≡ further
    count = b.due place y (omega arith) below

    others : (d : HandSeen) (q to : ℕ) (e : OtherSeen) → q < suc further → IsFurther n place q to
        → (get_or (get_or (replaced hs of g place m) place d).others q e).deque ≡ (get_or hs to d).deque
    others d q to e q_below is =
        let at = ap (λ h. (get_or h.others q e).deque) (at_second hs of place g m place_in d ∙ m_is) in
        let known : List OtherSeen = (get_or hs place y).others in
        at ∙ elim (cases_eq q further) [
          | inl last ↦ (
              let to_is : of ≡ to = same_target n further place of to to_of (subst (λ (k : ℕ). IsFurther n place k to) last is) in
              ap (λ (k : ℕ). (get_or (known ++ o ∷ []) k e).deque) (last ∙ sym count) ∙ ap (λ h. h.deque) (get_or-append_seam known o [] e) ∙ o_is
              ∙ ap (λ h. h.deque) (get_or_default hs of x d of_in) ∙ ap (λ (k : ℕ). (get_or hs k d).deque) to_is
              )
          | inr not_last ↦ (
              let front : q < length known = earlier q q_below not_last in
              ap (λ h. h.deque) (get_or-append known (o ∷ []) e q front) ∙ b.others place y below q to e front is
              ∙ ap (λ h. h.deque) (get_or_default hs to y d (subst (λ (l : ℕ). to < l) (sym b.len) is.0))
              )
        ]
      where
        earlier : (k : ℕ) → k < suc further → (k ≡ further → ⊥) → k < length (get_or hs place y).others
        earlier k early not_last = (let c = count in elim (cases_lt k further)
            [ inl less ↦ omega arith | inr from ↦ absurd (not_last (omega arith)) ])

module _ (n further place of : ℕ) (hs : List HandSeen) (x y u : HandSeen) (o : OtherSeen) (below : place < n) (few : suc further < n)
    (to_of : IsFurther n place further of)
    (b : Between n further further (suc further) place hs) (u_is : get_or hs place x ≡ gets o u) where
  left_count : length u.others ≡ further
  left_count =
      let l = b.due place x (omega arith) below in
      let same = ap (λ (h : HandSeen). length h.others) u_is in
      let more = length-append u.others (o ∷ []) in
      omega arith

  -- what a hand gives up is the way to the deque at the place that is so much further
  pub given_up : o.deque ≡ (get_or (set hs place u) of y).deque
  given_up =
      let long : further < length (get_or hs place x).others = (let l = b.due place x (omega arith) below in omega arith) in
      let knew : (get_or (get_or hs place x).others further o).deque ≡ (get_or hs of x).deque = b.others place x below further of o long to_of in
      let is_last : get_or (u.others ++ o ∷ []) further o ≡ o = ap (λ (k : ℕ). get_or (u.others ++ o ∷ []) k o) (sym left_count)
      ∙ get_or-append_seam u.others o [] o in
      ap (λ (p : OtherSeen). p.deque) (sym is_last) ∙ ap (λ (h : HandSeen). (get_or h.others further o).deque) (sym u_is) ∙ knew
      ∙ ap (λ (h : HandSeen). h.deque) (get_or_default hs of x y (subst (λ (l : ℕ). of < l) (sym b.len) to_of.0))
      ∙ ap (λ (h : HandSeen). h.deque) (sym (get_or-set_other hs place of u y (λ is. apart n place further of few to_of (sym is))))

  pub gathered_turn : (v : HandSeen) → v ≡ takes_in o (get_or (set hs place u) of y) → Turned n further place of hs (replaced hs place u of v)
  gathered_turn v v_was = record {
    len = length-set (set hs place u) of v ∙ length-set hs place u ∙ b.len;
    deques = λ p d p_below. kept_by_both hs place of u v (λ (h : HandSeen). h.deque) x y place_in of_in
        other (sym (ap (λ h. h.deque) u_is)) (ap (λ h. h.deque) v_is) p d;
    parts = λ d.
        let at = ap (λ h. h.own.parts) (at_second hs place of u v of_in d ∙ v_is) in
        let was = b.kept place of y (omega arith) below to_of in
        omega arith;
    parts_kept = λ p d p_below not_of. kept_by_first hs place of u v (λ (h : HandSeen). h.own.parts) x place_in
        other (sym (ap (λ h. h.own.parts) u_is)) p d not_of;
    count = λ d. (let at = ap (λ h. length h.others) (at_first hs place of u v place_in other d) in let c = left_count in omega arith);
    others = λ d q to e q_below is.
        let at = ap (λ h. (get_or h.others q e).deque) (at_first hs place of u v place_in other d) in
        let c = left_count in
        let front : q < length u.others = omega arith in
        let long : q < length (get_or hs place x).others = (let l = b.due place x (omega arith) below in omega arith) in
        at ∙ ap (λ h. h.deque) (sym (get_or-append u.others (o ∷ []) e q front)) ∙ ap (λ (h : HandSeen). (get_or h.others q e).deque) (sym u_is)
        ∙ b.others place x below q to e long is ∙ ap (λ h. h.deque) (get_or_default hs to x d (subst (λ (l : ℕ). to < l) (sym b.len) is.0));
    others_kept = λ p d p_below not_place. kept_by_second hs place of u v (λ (h : HandSeen). h.others) y of_in
        (ap (λ h. h.others) v_is) p d not_place;
  }
    where
      of_in : of < length hs
      of_in = let l = b.len in let t = to_of.0 in omega arith

      place_in : place < length hs
      place_in = let l = b.len in omega arith

      other : place ≢ of
      other = apart n place further of few to_of

      v_is : v ≡ takes_in o (get_or hs of y)
      v_is = v_was ∙ ap (takes_in o) (get_or-set_other hs place of u y (λ is. other (sym is)))
