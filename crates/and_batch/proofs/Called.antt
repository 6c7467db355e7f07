-- What is known of results, each of a call of its own.
use Rattle.std.proofs.Common.{◌≡◌, List, length, arith}
use Rattle.std.specs.Prelude.{All, Result, Ok, Err, IfOk}
use Rattle.std.specs.Fork.{GivesJobs}
use Rattle.std.specs.Fn.{FnReturns}
use denote.Param.Members.{Shared}

pub if_ok_both : {X E : Type 0} (r : Result X E) (P Q S : X → Type 0) → IfOk r P → IfOk r Q → ((x : X) → P x → Q x → S x) → IfOk r S
if_ok_both (Ok x) P Q S p q f = f x p q
if_ok_both (Err e) P Q S p q f = tt

-- what each call says of its result holds of all results
pub all_called : {J X F : Type 0} (g : Shared F (J × Unit {0}) X) (f : F) (P : X → Type 0) (js : List J) (rs : List X)
    → length rs ≡ length js → GivesJobs g f js rs → ((j : J) (r : X) → FnReturns g f (j, tt) r → P r) → All P rs
all_called g f P js rs long gives says = λ i d within. let job = (gives i d (omega arith)).1 in says job.job _ job.call
