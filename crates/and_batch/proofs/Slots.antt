-- Texts that lie at the places of their numbers.
use Rattle.std.proofs.Common.{◌≡◌, ℕ, zero, suc, ◌<◌, ◌⊎◌, ⊎_elim, inl, inr, List, [], ◌∷◌, ◌++◌, length, map, set, length-set, replicate, reverse, take}
use Rattle.std.proofs.Common.{drop, take_all, append-nil, slice_get, sym, refl, ap, ◌∙◌, arith, subst}
use Rattle.std.specs.Prelude.{Option, Some, None, Contains, All}
use Rattle.std.proofs.lemmas.List.{map-append, drop_all}
use Rattle.std.proofs.lemmas.List.Elements.{Contains-push_cases, All-contains_itself, All-pop}
use Rattle.std.proofs.lemmas.Option.{slice_get-map}
use Rattle.std.specs.Option.{option_map}
use Rattle.and_batch.specs.Balance.{below}
use Rattle.and_batch.specs.Dones.{DoneSeen, done, numbers_of}
use Rattle.and_batch.specs.Working.{IsEachOnce, LieByNumber, AreFilled, AreTextsOf, IsByNumber}
use Rattle.and_batch.proofs.BelowCount.{once_each, once_few}

-- what lies there, or what else
lying : {X : Type 0} → X → Option (Option X) → X
lying d None = d
lying d (Some None) = d
lying d (Some (Some x)) = x

IsLying : {X : Type 0} → Option (Option X) → Type 0
IsLying None = ⊥
IsLying (Some None) = ⊥
IsLying (Some (Some x)) = Unit {0}

nothing : {X : Type 0} (x : X) → None ≡ Some (Some x) → ⊥
unfolding IsLying
nothing x e = subst IsLying (sym e) tt

pub no_text : {X : Type 0} (x : X) → Some None ≡ Some (Some x) → ⊥
unfolding IsLying
no_text x e = subst IsLying (sym e) tt

same_text : {X : Type 0} (x y : X) → Some (Some x) ≡ Some (Some y) → x ≡ y
unfolding lying
same_text x y e = ap (lying x) e

set_there : {X : Type 0} (xs : List (Option X)) (n k : ℕ) (t u : X) → slice_get (set xs n (Some t)) k ≡ Some (Some u)
    → ((k ≡ n) × (t ≡ u)) ⊎ (slice_get xs k ≡ Some (Some u))
set_there [] n k t u is = inr is
set_there (x ∷ xs) zero zero t u is = inl (refl, same_text t u is)
set_there (x ∷ xs) zero (suc k) t u is = inr is
set_there (x ∷ xs) (suc n) zero t u is = inr is
set_there (x ∷ xs) (suc n) (suc k) t u is = ⊎_elim (λ e. inl (ap suc e.0, e.1)) (λ e. inr e) (set_there xs n k t u is)

still_there : {X : Type 0} (xs : List (Option X)) (n k : ℕ) (t u : X) → slice_get xs k ≡ Some (Some u)
    → (v : X) × (slice_get (set xs n (Some t)) k ≡ Some (Some v))
still_there [] n k t u is = (u, is)
still_there (x ∷ xs) zero zero t u is = (t, refl)
still_there (x ∷ xs) zero (suc k) t u is = (u, is)
still_there (x ∷ xs) (suc n) zero t u is = (u, is)
still_there (x ∷ xs) (suc n) (suc k) t u is = still_there xs n k t u is

put_there : {X : Type 0} (xs : List (Option X)) (n : ℕ) (t : X) → n < length xs → slice_get (set xs n (Some t)) n ≡ Some (Some t)
put_there [] n t less = absurd (omega arith)
put_there (x ∷ xs) zero t less = refl
put_there (x ∷ xs) (suc n) t less = put_there xs n t (omega arith)

none_lies : {X : Type 0} (n k : ℕ) (u : X) → slice_get (replicate n None) k ≡ Some (Some u) → ⊥
none_lies zero k u is = nothing u is
none_lies (suc n) zero u is = no_text u is
none_lies (suc n) (suc k) u is = none_lies n k u is

-- each place has its text, or the job of its number is still among these
abbrev pub LeftOrThere : List DoneSeen → List (Option (List ℕ)) → Type 0
LeftOrThere ds slots = (k : ℕ) → k < length slots → Contains (numbers_of ds) k ⊎ ((text : List ℕ) × (slice_get slots k ≡ Some (Some text)))

pub begun_by_number : (ds : List DoneSeen) (n : ℕ) (slots : List (Option (List ℕ))) → slots ≡ replicate n None → LieByNumber ds slots
begun_by_number ds n slots is = λ k text at. absurd (none_lies n k text (ap (λ l. slice_get l k) (sym is) ∙ at))

pub placed_by_number : (ds : List DoneSeen) (slots : List (Option (List ℕ))) (d : DoneSeen) → LieByNumber ds slots → Contains ds d
    → LieByNumber ds (set slots d.number (Some d.text))
placed_by_number ds slots d by is = λ k text at.
    ⊎_elim (λ (e : (k ≡ d.number) × (d.text ≡ text)). subst (λ (p : ℕ × List ℕ). Contains ds (done p.0 p.1)) (λ i. (sym e.0 i, e.1 i)) is)
    (λ old. by k text old) (set_there slots d.number k d.text text at)

pub placed_or_left : (ds es : List DoneSeen) (slots : List (Option (List ℕ))) (d : DoneSeen) → ds ≡ es ++ d ∷ [] → d.number < length slots
    → length (set slots d.number (Some d.text)) ≡ length slots → LeftOrThere ds slots → LeftOrThere es (set slots d.number (Some d.text))
placed_or_left ds es slots d is less len each = λ k within.
    ⊎_elim (λ (left : Contains (numbers_of ds) k). ⊎_elim (λ c. inl c)
    (λ (here : d.number ≡ k). inr (
      d.text,
      subst (λ j. slice_get (set slots d.number (Some d.text)) j ≡ Some (Some d.text)) here (put_there slots d.number d.text less),
    ))
    (Contains-push_cases (numbers_of es) d.number k
    (subst (λ ns. Contains ns k) (ap numbers_of is ∙ map-append (λ (d : DoneSeen). d.number) es (d ∷ [])) left)))
    (λ there. inr (still_there slots d.number k d.text there.0 there.1)) (each k (omega arith))

pub all_there : (slots : List (Option (List ℕ))) → LeftOrThere [] slots → AreFilled slots
all_there slots each = λ k within. ⊎_elim (λ (none : Contains [] k). absurd (omega (arith, none.1))) (λ there. there) (each k within)

-- how far texts lie at the places of their numbers, where these are the jobs that are left
pub record Placing (whole : List DoneSeen) (count : ℕ) (left : List DoneSeen) (slots : List (Option (List ℕ))) : Type 0 where
  pub len : length slots ≡ count
  pub by_number : LieByNumber whole slots
  pub among : All (Contains whole) left
  pub few : All (λ (d : DoneSeen). d.number < length slots) left
  pub each : LeftOrThere left slots

pub placing_first : (ds : List DoneSeen) (slots : List (Option (List ℕ))) → IsEachOnce (below (length slots)) ds
    → slots ≡ replicate (length slots) None → Placing ds (length slots) ds slots
placing_first ds slots once none = record {
  len = refl;
  by_number = begun_by_number ds (length slots) slots none;
  among = All-contains_itself ds;
  few = once_few (length slots) ds once;
  each = λ k within. inl (once_each (length slots) ds once k within);
}

set_as : (slots : List (Option (List ℕ))) (d : DoneSeen) (n : ℕ) (t : List ℕ) → n ≡ d.number → t ≡ d.text
    → set slots d.number (Some d.text) ≡ set slots n (Some t)
set_as slots d n t number text = λ i. set slots (sym number i) (Some (sym text i))

pub placing_next : (whole : List DoneSeen) (count : ℕ) (ds es : List DoneSeen) (slots : List (Option (List ℕ))) (d : DoneSeen) (n : ℕ) (t : List ℕ)
    → Placing whole count ds slots → ds ≡ es ++ d ∷ [] → n ≡ d.number → t ≡ d.text → Placing whole count es (set slots n (Some t))
placing_next whole count ds es slots d n t p is number text =
    let among = All-pop (Contains whole) ds es (Some d) is p.among in
    let few = All-pop (λ (d : DoneSeen). d.number < length slots) ds es (Some d) is p.few in
    let long = length-set slots d.number (Some d.text) in
    subst (λ l. Placing whole count es l) (set_as slots d n t number text) (record {
      len = long ∙ p.len;
      by_number = placed_by_number whole slots d p.by_number among.1;
      among = among.0;
      few = subst (λ m. All (λ (d : DoneSeen). d.number < m) es) (sym long) few.0;
      each = placed_or_left ds es slots d is few.1 long p.each;
    })

pub placing_last : (ds : List DoneSeen) (slots : List (Option (List ℕ))) → LeftOrThere ds slots → ds ≡ [] → AreFilled slots
placing_last ds slots each none = all_there slots (subst (λ es. LeftOrThere es slots) none each)

-- what a slice was made is what the vector holds
pub written_back : {X : Type 0} (n : ℕ) (new items : List X) → length new ≡ length items → n ≡ length items
    → take n (new ++ drop (length new) items) ≡ new
written_back n new items same long =
    ap (λ l. take n (new ++ l)) (drop_all (length new) items (omega arith)) ∙ ap (take n) (append-nil new) ∙ take_all n new (omega arith)

-- ---- taking the texts out, the last first

-- the texts that were taken out are those of the last places
abbrev pub TakenFrom : List (Option (List ℕ)) → List (Option (List ℕ)) → List (List ℕ) → Type 0
TakenFrom whole left texts = whole ≡ left ++ map (λ (text : List ℕ). Some text) (reverse texts)

hole : {X : Type 0} (xs ys : List (Option X)) → slice_get ((xs ++ None ∷ []) ++ ys) (length xs) ≡ Some None
hole [] ys = refl
hole (x ∷ xs) ys = hole xs ys

hole_within : {X : Type 0} (xs ys : List (Option X)) → length xs < length ((xs ++ None ∷ []) ++ ys)
hole_within [] ys = omega arith
hole_within (x ∷ xs) ys = let r = hole_within xs ys in omega arith

pub no_hole : (whole left more : List (Option (List ℕ))) (texts : List (List ℕ)) → AreFilled whole → TakenFrom whole left texts → left ≡ more ++ None ∷ [] → ⊥
no_hole whole left more texts filled taken is =
    let rest = map (λ (text : List ℕ). Some text) (reverse texts) in
    let all : whole ≡ (more ++ None ∷ []) ++ rest = taken ∙ ap (λ l. l ++ rest) is in
    let within = hole_within more rest in
    let text = filled (length more) (subst (λ l. length more < length l) (sym all) within) in
    no_text text.0 (sym (hole more rest) ∙ ap (λ l. slice_get l (length more)) (sym all) ∙ text.1)

pub by_number : (ds : List DoneSeen) (slots : List (Option (List ℕ))) (texts : List (List ℕ)) → LieByNumber ds slots → AreTextsOf slots texts
    → IsByNumber ds texts
by_number ds slots texts by are = λ k text at.
    by k text (ap (λ l. slice_get l k) are ∙ slice_get-map (λ (t : List ℕ). Some t) texts k ∙ ap (option_map (λ (t : List ℕ). Some t)) at)
