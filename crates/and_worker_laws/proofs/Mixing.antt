-- What was run of tasks in two goes.
use Rattle.std.proofs.Common.{◌≡◌, List, [], ◌∷◌, ◌++◌, refl, ap, sym, subst}
use Rattle.and_model.specs.Programs.{Arithmetic}
use Rattle.and_model.specs.Closure.{Without}
use Rattle.and_phase_laws.specs.Journals.{frame, run, setting, failing, Journal, TakenOut, RunOut, goals_of_runs}
use Rattle.and_branch_laws.specs.Tasks as among
use Rattle.and_branch_laws.specs.Tasks.{Task, take, arithmetic_among}
use Rattle.and_worker_laws.specs.Leaving.{Leaves}

-- Mixes xs ys all: these are the goals of the one list and of the other, in whatever way they stand among each other.
pub data Mixes : (xs ys all : List Arithmetic) → Type 0 where
  over : Mixes [] [] []
  first : (x : Arithmetic) (xs ys zs : List Arithmetic) → Mixes xs ys zs → Mixes (x ∷ xs) ys (x ∷ zs)
  second : (y : Arithmetic) (xs ys zs : List Arithmetic) → Mixes xs ys zs → Mixes xs (y ∷ ys) (y ∷ zs)

mixed_without : (xs ys zs : List Arithmetic) → Mixes xs ys zs → (a : Arithmetic) (hs : List Arithmetic) → Without xs a hs
    → (ks : List Arithmetic) × Without zs a ks × Mixes hs ys ks
mixed_without xs ys zs Mixes.over a hs w = elim w [ ]
mixed_without xs ys zs (Mixes.first x ps bs cs m) a hs (Without.here b ds) = (cs, Without.here b cs, m)
mixed_without xs ys zs (Mixes.first x ps bs cs m) a hs (Without.there b ds c es w) =
    let (ks, v, n) = mixed_without ps bs cs m a es w in
    (b ∷ ks, Without.there b cs a ks v, Mixes.first b es bs ks n)
mixed_without xs ys zs (Mixes.second y ps bs cs m) a hs w =
    let (ks, v, n) = mixed_without ps bs cs m a hs w in
    (y ∷ ks, Without.there y cs a ks v, Mixes.second y hs bs ks n)

mixed_none : (ys zs : List Arithmetic) → Mixes [] ys zs → zs ≡ ys
mixed_none ys zs Mixes.over = refl
mixed_none ys zs (Mixes.second y xs bs cs m) = ap (λ l. y ∷ l) (mixed_none bs cs m)

-- Where the one list is taken out, the other is left.
pub mixed_out : (ps xs ys zs : List Arithmetic) → Mixes xs ys zs → TakenOut xs ps [] → TakenOut zs ps ys
mixed_out [] xs ys zs m o = mixed_none ys zs (subst (λ l. Mixes l ys zs) o m)
mixed_out (a ∷ ps) xs ys zs m o =
    let (hs, w, r) = o in
    let (ks, v, n) = mixed_without xs ys zs m a hs w in
    (ks, v, mixed_out ps hs ys ks n r)

pub out_joined : (ps bs xs ys ws : List Arithmetic) → TakenOut xs ps ys → TakenOut ys bs ws → TakenOut xs (ps ++ bs) ws
out_joined [] bs xs ys ws o r = subst (λ l. TakenOut l bs ws) (sym o) r
out_joined (a ∷ ps) bs xs ys ws o r = let (hs, w, k) = o in (hs, w, out_joined ps bs hs ys ws k r)

pub out_parted : (ps bs xs ws : List Arithmetic) → TakenOut xs (ps ++ bs) ws → (gs : List Arithmetic) × TakenOut xs ps gs × TakenOut gs bs ws
out_parted [] bs xs ws o = (xs, refl, o)
out_parted (a ∷ ps) bs xs ws o =
    let (hs, w, r) = o in
    let (gs, k, m) = out_parted ps bs hs ws r in
    (gs, (hs, w, k), m)

-- The goals of a journal's runs are taken out by the journal.
pub run_out : (j : Journal) (gs ws : List Arithmetic) → TakenOut gs (goals_of_runs j) ws → RunOut gs j ws
run_out [] gs ws o = o
run_out (frame w q g c ∷ before) gs ws o = run_out before gs ws o
run_out (run w a ts ∷ before) gs ws o =
    let (hs, k, m) = out_parted (goals_of_runs before) (a ∷ []) gs ws o in
    let (ks, v, e) = m in
    (hs, run_out before gs hs k, subst (λ l. Without hs a l) e v)
run_out (setting w e ∷ before) gs ws o = run_out before gs ws o
run_out (failing w ∷ before) gs ws o = run_out before gs ws o

-- Of what is left of tasks less is left.
pub leaves_less : (ts : List Task) (ps : List Arithmetic) (us : List Task) (bs : List Arithmetic) (vs : List Task) → Leaves ts ps us → Leaves us bs vs
    → (cs : List Arithmetic) × Leaves ts cs vs × Mixes ps bs cs
leaves_less ts ps us bs vs Leaves.over Leaves.over = ([], Leaves.over, Mixes.over)
leaves_less ts ps us bs vs (Leaves.stays t xs gone ys l) (Leaves.stays s zs rest ws m) =
    let (cs, k, n) = leaves_less xs gone ys rest ws l m in
    (cs, Leaves.stays t xs cs ws k, n)
leaves_less ts ps us bs vs (Leaves.stays t xs gone ys l) (Leaves.goes a zs rest ws m) =
    let (cs, k, n) = leaves_less xs gone ys rest ws l m in
    (a ∷ cs, Leaves.goes a xs cs ws k, Mixes.second a gone rest cs n)
leaves_less ts ps us bs vs (Leaves.goes a xs gone ys l) m =
    let (cs, k, n) = leaves_less xs gone ys bs vs l m in
    (a ∷ cs, Leaves.goes a xs cs vs k, Mixes.first a gone bs cs n)

-- The arithmetic among tasks is what is gone and what is left.
pub leaves_mix : (ts : List Task) (gone : List Arithmetic) (us : List Task) → Leaves ts gone us → Mixes gone (arithmetic_among us) (arithmetic_among ts)
leaves_mix ts gone us Leaves.over = Mixes.over
leaves_mix ts gone us (Leaves.stays (take q g) xs bs ys l) = leaves_mix xs bs ys l
leaves_mix ts gone us (Leaves.stays (among.run a) xs bs ys l) = Mixes.second a bs (arithmetic_among ys) (arithmetic_among xs) (leaves_mix xs bs ys l)
leaves_mix ts gone us (Leaves.goes a xs bs ys l) = Mixes.first a bs (arithmetic_among ys) (arithmetic_among xs) (leaves_mix xs bs ys l)
