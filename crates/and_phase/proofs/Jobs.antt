-- Jobs that are made of hands and passes, and what comes back of them.
use Rattle.std.proofs.Common.{ℕ, zero, suc, ◌+◌, ◌≡◌, List, [], ◌∷◌, ◌++◌, length, All, Option, Some, IfSome, sym, ap, ◌∙◌, subst, arith}
use Rattle.std.proofs.lemmas.List.{length_push, same_from_push}
use Rattle.std.proofs.lemmas.List.Elements.{All-nil, All-append, All-push}
use Rattle.std.proofs.lemmas.List.Elements as elements
use Rattle.and_cells.specs.Ranges.{NamedProgram}
use Rattle.and_store.specs.Passes.{PassSeen, StoreId, fresh, fresh_from}
use Rattle.and_store_laws.proofs.Lists.{all_front}
use Rattle.and_handed.specs.Handed.{HandsOn}
use Rattle.and_handed.specs.declared.told.Ended.{Ended}
use Rattle.and_handed.specs.declared.told.HandedOn.{HandedOn}
use Rattle.and_workers.specs.declared.worker.Beginning.{Beginning}
use Rattle.and_closing_laws.specs.Phases.{AllHandOn}

-- One fresh pass more is the last one.
fresh_more : (store : StoreId) (k n : ℕ) → fresh_from store k (suc n) ≡ fresh_from store k n ++ fresh store (k + n) ∷ []
fresh_more store k zero = let e : k ≡ k + 0 = omega arith in ap (λ (m : ℕ). fresh store m ∷ []) e
fresh_more store k (suc n) =
    let e : suc k + n ≡ k + suc n = omega arith in
    ap (λ (l : List PassSeen). fresh store k ∷ l)
    (fresh_more store (suc k) n ∙ ap (λ (m : ℕ). fresh_from store (suc k) n ++ fresh store m ∷ []) e)

-- the job has the pass of its number
abbrev pub IsFresh : StoreId → Beginning → Type 0
IsFresh store j = j.pass ≡ fresh store j.number

-- Of so many hands and these passes some are left, and the others have become jobs. Where the passes were fresh, so are the jobs', and those that
-- are left are the first.
pub record HasJobs (hands : ℕ) (passes : List PassSeen) (left : ℕ) (rest : List PassSeen) (jobs : List Beginning) : Type 0 where
  pub count : length jobs + left ≡ hands
  pub fresh : (store : StoreId) → passes ≡ fresh_from store 0 hands → (rest ≡ fresh_from store 0 left) × All (IsFresh store) jobs

pub no_jobs : (hands : ℕ) (passes : List PassSeen) → HasJobs hands passes hands passes []
no_jobs hands passes = record { count = omega arith; fresh = λ store e. (e, All-nil (IsFresh store)) }

pub job_more : (hands : ℕ) (passes : List PassSeen) (left after : ℕ) (rest less : List PassSeen) (jobs new : List Beginning) (j : Beginning)
    → HasJobs hands passes left rest jobs → left ≡ suc after → rest ≡ less ++ j.pass ∷ [] → j.number ≡ after → new ≡ jobs ++ j ∷ []
    → HasJobs hands passes after less new
job_more hands passes left after rest less jobs new j has one last number put = record {
  count = let l = ap length put ∙ length_push jobs j in let c = has.count in omega arith;
  fresh = λ store e.
      let before = has.fresh store e in
      let none : 0 + after ≡ after = omega arith in
      let split = same_from_push less (fresh_from store 0 after) j.pass (fresh store after)
      (sym last ∙ before.0 ∙ ap (λ (n : ℕ). fresh_from store 0 n) one ∙ fresh_more store 0 after
      ∙ ap (λ (n : ℕ). fresh_from store 0 after ++ fresh store n ∷ []) none) in (
        split.0,
        subst (All (IsFresh store)) (sym put)
            (All-push (IsFresh store) jobs j before.1 (split.1 ∙ ap (λ (n : ℕ). fresh store n) (sym number))),
      );
}

-- The worker's pass is one of the store,
abbrev pub IsOf : StoreId → Ended → Type 0
IsOf store e = e.pass.store ≡ store

-- and it hands on what it may.
abbrev pub MayHandOn : NamedProgram → Ended → Type 0
MayHandOn P e = IfSome e.told (λ told. HandsOn P told e.pass)

-- Of these workers some are left, and of the others there are the passes and what they hand on.
pub record HasTakenIn (ended left : List Ended) (passes : List PassSeen) (tolds : List HandedOn) : Type 0 where
  pub count : length passes + length left ≡ length ended
  pub store : (store : StoreId) → All (IsOf store) ended → All (IsOf store) left × All (λ (p : PassSeen). p.store ≡ store) passes
  pub hand_on : (P : NamedProgram) → All (MayHandOn P) ended → All (MayHandOn P) left × AllHandOn P tolds passes

pub none_in : (ended : List Ended) → HasTakenIn ended ended [] []
none_in ended = record {
  count = omega arith;
  store = λ store all. (all, All-nil (λ (p : PassSeen). p.store ≡ store));
  hand_on = λ P all. (all, tt);
}

hand_on_more : (P : NamedProgram) (tolds : List HandedOn) (passes : List PassSeen) (t : HandedOn) (p : PassSeen) → AllHandOn P tolds passes → HandsOn P t p
    → AllHandOn P (tolds ++ t ∷ []) (passes ++ p ∷ [])
hand_on_more P [] [] t p all one = (one, tt)
hand_on_more P [] (q ∷ qs) t p all one = absurd all
hand_on_more P (u ∷ us) [] t p all one = absurd all
hand_on_more P (u ∷ us) (q ∷ qs) t p all one = (all.0, hand_on_more P us qs t p all.1 one)

all_last : {X : Type 0} (Q : X → Type 0) (xs : List X) (x : X) → All Q (xs ++ x ∷ []) → Q x
all_last Q xs x all = elements.All-contains Q (xs ++ x ∷ []) x all (elements.Contains-push xs x)

pub one_in : (ended left less : List Ended) (passes after : List PassSeen) (tolds new : List HandedOn) (e : Ended) (t : HandedOn)
    → HasTakenIn ended left passes tolds → left ≡ less ++ e ∷ [] → e.told ≡ Some t → after ≡ passes ++ e.pass ∷ [] → new ≡ tolds ++ t ∷ []
    → HasTakenIn ended less after new
one_in ended left less passes after tolds new e t has last told put puts = record {
  count =
      let l = ap length put ∙ length_push passes e.pass in let m = ap length last ∙ length_push less e in let c = has.count in omega arith;
  store = λ store all.
      let before = has.store store all in
      let each = subst (All (IsOf store)) last before.0 in (
        all_front (IsOf store) less (e ∷ []) each,
        subst (All (λ (p : PassSeen). p.store ≡ store)) (sym put)
            (All-push (λ (p : PassSeen). p.store ≡ store) passes e.pass before.1 (all_last (IsOf store) less e each)),
      );
  hand_on = λ P all.
      let before = has.hand_on P all in
      let each = subst (All (MayHandOn P)) last before.0 in
      let one = subst (λ (o : Option HandedOn). IfSome o (λ told. HandsOn P told e.pass)) told (all_last (MayHandOn P) less e each) in (
        all_front (MayHandOn P) less (e ∷ []) each,
        subst (λ (l : List HandedOn). AllHandOn P l after) (sym puts)
            (subst (λ (l : List PassSeen). AllHandOn P (tolds ++ t ∷ []) l) (sym put) (hand_on_more P tolds passes t e.pass before.1 one)),
      );
}
