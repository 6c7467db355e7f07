-- What was run among tasks.
use Rattle.std.proofs.Common.{◌≡◌, List, [], ◌∷◌, ◌++◌, refl, ap, subst}
use Rattle.and_model.specs.Solutions.{Equation}
use Rattle.and_model.specs.Programs.{Arithmetic}
use Rattle.and_model.specs.Closure.{Ran, none_yet, one, Without, added}
use Rattle.and_phase_laws.specs.Journals.{TakenOut, goals_run}
use Rattle.and_branch_laws.specs.Tasks as among
use Rattle.and_branch_laws.specs.Tasks.{Task, take, run, Drops, RanAmong, arithmetic_among}
use Rattle.and_worker_laws.specs.Leaving.{Leaves, over, stays, goes}

-- Where none is gone, all are left.
all_left : (ts us : List Task) → Leaves ts [] us → us ≡ ts
all_left ts us over = refl
all_left ts us (stays t xs gone ys l) = ap (λ zs. t ∷ zs) (all_left xs ys l)

-- One of those that are gone can go first.
one_goes : (ts : List Task) (gone : List Arithmetic) (us : List Task) (a : Arithmetic) (rest : List Arithmetic) → Leaves ts gone us → Without gone a rest
    → (vs : List Task) × Drops ts a vs × Leaves vs rest us
one_goes ts gone us a rest over w = elim w [ ]
one_goes ts gone us a rest (stays t xs bs ys l) w =
    let (vs, d, m) = one_goes xs bs ys a rest l w in
    (t ∷ vs, among.behind t xs a vs d, stays t vs rest ys m)
one_goes ts gone us a rest (goes b xs bs ys l) (Without.here c cs) = (xs, among.here b xs, l)
one_goes ts gone us a rest (goes b xs bs ys l) (Without.there c cs d ds w) =
    let (vs, d, m) = one_goes xs bs ys a ds l w in
    (run b ∷ vs, among.behind (run b) xs a vs d, goes b vs ds ys m)

pub ran_among : (es : List Equation) (goals : List Arithmetic) (ds : List Equation) (waits gone : List Arithmetic) (ts us : List Task)
    → (ran : Ran es goals ds waits) → TakenOut gone (goals_run ran) [] → Leaves ts gone us → RanAmong es ts ds us
ran_among es goals ds waits gone ts us (none_yet xs ys) out l =
    subst (λ zs. RanAmong es zs es us) (all_left ts us (subst (λ bs. Leaves ts bs us) out l)) (among.none_yet es us)
ran_among es goals ds waits gone ts us (one xs ys g bs values zs ws w k r) out l =
    let (hs, without, rest) = out in
    let (vs, d, m) = one_goes ts gone us g hs l without in
    among.one es ts g vs values ds us d k (ran_among (added g values ++ es) bs zs ws hs vs us r rest m)

-- ---- The other way round

-- All tasks are left where none is gone.
none_gone : (ts : List Task) → Leaves ts [] ts
none_gone [] = over
none_gone (t ∷ ts) = stays t ts [] ts (none_gone ts)

-- One that went first is one of those that are gone.
went_first : (ts : List Task) (a : Arithmetic) (us : List Task) (rest : List Arithmetic) (vs : List Task) → Drops ts a us → Leaves us rest vs
    → (gone : List Arithmetic) × Leaves ts gone vs × Without gone a rest
went_first ts a us rest vs (among.here b xs) l = (a ∷ rest, goes a us rest vs l, Without.here a rest)
went_first ts a us rest vs (among.behind t xs b ys d) (stays x zs bs ws l) =
    let (gone, m, w) = went_first xs a ys rest ws d l in
    (gone, stays t xs gone ws m, w)
went_first ts a us rest vs (among.behind t xs b ys d) (goes c zs bs ws l) =
    let (gone, m, w) = went_first xs a ys bs vs d l in
    (c ∷ gone, goes c xs gone vs m, Without.there c gone a bs w)

-- The arithmetic among tasks loses it.
arithmetic_without : (ts : List Task) (a : Arithmetic) (us : List Task) → Drops ts a us → Without (arithmetic_among ts) a (arithmetic_among us)
arithmetic_without ts a us (among.here b xs) = Without.here a (arithmetic_among us)
arithmetic_without ts a us (among.behind (take q g) xs b ys d) = arithmetic_without xs a ys d
arithmetic_without ts a us (among.behind (run c) xs b ys d) = Without.there c (arithmetic_among xs) a (arithmetic_among ys) (arithmetic_without xs a ys d)

-- What was run among tasks.
pub record WasRun (es ds : List Equation) (ts us : List Task) : Type 0 where
  pub gone : List Arithmetic
  pub left : Leaves ts gone us
  pub ran : Ran es (arithmetic_among ts) ds (arithmetic_among us)
  pub out : TakenOut gone (goals_run ran) []

pub was_run : (es : List Equation) (ts : List Task) (ds : List Equation) (us : List Task) → RanAmong es ts ds us → WasRun es ds ts us
was_run es ts ds us (among.none_yet xs ys) = record { gone = []; left = none_gone ts; ran = none_yet es (arithmetic_among ts); out = refl }
was_run es ts ds us (among.one xs ys a zs values ws vs d k rest) =
    let r = was_run (added a values ++ es) zs ds us rest in
    let (gone, l, w) = went_first ts a zs r.gone us d r.left in
    record {
      gone = gone;
      left = l;
      ran = one es (arithmetic_among ts) a (arithmetic_among zs) values ds (arithmetic_among us) (arithmetic_without ts a zs d) k r.ran;
      out = (r.gone, w, r.out);
    }
