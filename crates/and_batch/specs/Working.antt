-- What workers hand on (this project's own).
use Rattle.std.specs.Prelude.{◌≡◌, ℕ, ◌<◌, List, [], ◌++◌, length, map, All, Contains, IfOk, Result, slice_get}
use Rattle.std.specs.Prelude.{Option, Some}
use Rattle.std.specs.declared.alloc.AllocError.{AllocError}
use Rattle.crossbeam_queue.specs.declared.array_queue.Doing.{Doing}
use Rattle.crossbeam_queue.specs.declared.array_queue.Slotted.{Slotted}
use Rattle.crossbeam_queue.specs.Passes.{view, IsPassOf}
use Rattle.and_shares.specs.declared.share.Share.{Share}
use Rattle.and_batch.specs.declared.working.Worked.{Worked}
use Rattle.and_shares.specs.Balance.{share}
use Rattle.and_shares.specs.Bags.{weigh}
use Rattle.and_batch.specs.Dones.{DoneSeen, done, numbers_of}

-- each text is due for its number
abbrev pub AreDue : (ℕ → List ℕ → Type 0) → List DoneSeen → Type 0
AreDue due ds = All (λ (d : DoneSeen). due d.number d.text) ds

-- the jobs that were done are those whose numbers were taken since
abbrev pub TookThese : (v w : Share ℕ) → List DoneSeen → Type 0
TookThese v w ds = w ≡ share v.parts v.put (v.taken ++ numbers_of ds)

-- What a worker hands on that began with one part of the right to know the queue, and with no number taken.
abbrev pub IsWorked : {Q A : Type 0} → Slotted (Option ℕ) (Doing ℕ (Share ℕ)) Q A → (ℕ → List ℕ → Type 0)
    → Result Worked AllocError → Type 0
IsWorked q due result = IfOk result
    (λ w. IsPassOf q w.pass × TookThese (share 1 [] []) (view w.pass) w.dones.items × AreDue due w.dones.items)

-- What the worker hands on that leads and began with that right: the same, and its tools.
abbrev pub IsLed : {Q A D : Type 0} → Slotted (Option ℕ) (Doing ℕ (Share ℕ)) Q A → (ℕ → List ℕ → Type 0) → (D → Type 0)
    → Share ℕ → Worked × D → Type 0
IsLed q due fit v w = IsPassOf q w.0.pass × TookThese v (view w.0.pass) w.0.dones.items
    × AreDue due w.0.dones.items × fit w.1

-- the job of each of the numbers was done once, and no other
abbrev pub IsEachOnce : (numbers : List ℕ) → List DoneSeen → Type 0
IsEachOnce numbers ds = (weight : ℕ → ℕ) → weigh weight numbers ≡ weigh weight (numbers_of ds)

-- each text that lies at a place came of the job of that number
abbrev pub LieByNumber : List DoneSeen → List (Option (List ℕ)) → Type 0
LieByNumber ds slots = (k : ℕ) (text : List ℕ) → slice_get slots k ≡ Some (Some text) → Contains ds (done k text)

-- a text lies at each place
abbrev pub AreFilled : List (Option (List ℕ)) → Type 0
AreFilled slots = (k : ℕ) → k < length slots → (text : List ℕ) × (slice_get slots k ≡ Some (Some text))

-- these are the texts that lie at the places, in order
abbrev pub AreTextsOf : List (Option (List ℕ)) → List (List ℕ) → Type 0
AreTextsOf slots texts = slots ≡ map (λ (text : List ℕ). Some text) texts

-- the text at each place came of the job of that number
abbrev pub IsByNumber : List DoneSeen → List (List ℕ) → Type 0
IsByNumber ds texts = (k : ℕ) (text : List ℕ) → slice_get texts k ≡ Some text → Contains ds (done k text)

-- the text at each place is due for it
abbrev pub IsDueAtEach : (ℕ → List ℕ → Type 0) → List (List ℕ) → Type 0
IsDueAtEach due texts = (k : ℕ) (text : List ℕ) → slice_get texts k ≡ Some text → due k text
