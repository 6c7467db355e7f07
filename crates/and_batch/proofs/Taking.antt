-- What is known of numbers as jobs are done.
use Rattle.std.proofs.Common.{◌≡◌, ℕ, ◌+◌, List, [], ◌∷◌, ◌++◌, append_assoc, append-nil, sym, ap, ◌∙◌, arith, subst}
use Rattle.std.proofs.lemmas.List.{nil_from_length, map-append}
use Rattle.std.specs.Prelude.{All}
use Rattle.std.proofs.lemmas.List.Elements.{All-same, All-push, All-append}
use Rattle.crossbeam_queue.specs.Fifo.{Held}
use Rattle.and_shares.specs.declared.share.Share.{Share}
use Rattle.and_shares.specs.Balance.{share, HasLeft}
use Rattle.and_batch.specs.Dones.{DoneSeen, numbers_of}
use Rattle.and_batch.specs.Working.{AreDue, TookThese}

numbers-append : (ds es : List DoneSeen) → numbers_of (ds ++ es) ≡ numbers_of ds ++ numbers_of es
numbers-append ds es = map-append (λ (d : DoneSeen). d.number) ds es

pub took_none : (v : Share ℕ) → TookThese v v []
took_none v = ap (λ ns. share v.parts v.put ns) (sym (append-nil v.taken))

pub took_one : (v w u : Share ℕ) (ds es : List DoneSeen) (d : DoneSeen) (n : ℕ) → TookThese v w ds → u ≡ share w.parts w.put (w.taken ++ n ∷ [])
    → d.number ≡ n → es ≡ ds ++ d ∷ [] → TookThese v u es
took_one v w u ds es d n took is number more =
    let joined : (v.taken ++ numbers_of ds) ++ n ∷ [] ≡ v.taken ++ numbers_of es
    = append_assoc v.taken (numbers_of ds) (n ∷ [])
    ∙ ap (λ ns. v.taken ++ ns) (ap (λ k. numbers_of ds ++ k ∷ []) (sym number) ∙ sym (numbers-append ds (d ∷ [])) ∙ ap numbers_of (sym more)) in
    is ∙ ap (λ (s : Share ℕ). share s.parts s.put (s.taken ++ n ∷ [])) took ∙ ap (λ ns. share v.parts v.put ns) joined

-- a queue that was found empty holds nothing of what was put
pub none_left : (v w : Share ℕ) → w ≡ v → Held 0 (HasLeft 9 v) → HasLeft 9 w []
none_left v w same held =
    let none = nil_from_length held.0 held.1 in
    subst (λ u. HasLeft 9 u []) (sym same) (subst (λ ns. HasLeft 9 v ns) none held.2)

-- what a worker took joins what the whole has taken
pub took_in : (v w u : Share ℕ) (ds : List DoneSeen) → TookThese (share 1 [] []) w ds
    → u ≡ share (v.parts + w.parts) (v.put ++ w.put) (v.taken ++ w.taken) → u ≡ share (v.parts + 1) v.put (v.taken ++ numbers_of ds)
took_in v w u ds took is =
    is ∙ ap (λ (s : Share ℕ). share (v.parts + s.parts) (v.put ++ s.put) (v.taken ++ s.taken)) took
    ∙ ap (λ ns. share (v.parts + 1) ns (v.taken ++ numbers_of ds)) (append-nil v.put)

pub numbers_joined : (ds es all : List DoneSeen) (taken ns : List ℕ) → taken ≡ numbers_of ds → ns ≡ taken ++ numbers_of es → all ≡ ds ++ es
    → ns ≡ numbers_of all
numbers_joined ds es all taken ns is more joined =
    more ∙ ap (λ l. l ++ numbers_of es) is ∙ sym (numbers-append ds es) ∙ ap numbers_of (sym joined)

pub took_begun : (v : Share ℕ) (ds : List DoneSeen) → ds ≡ [] → TookThese v v ds
took_begun v ds none = took_none v ∙ ap (λ es. share v.parts v.put (v.taken ++ numbers_of es)) (sym none)

-- a worker that does nothing
pub took_nothing : (w : Share ℕ) (ds : List DoneSeen) → w ≡ share 1 [] [] → ds ≡ [] → TookThese (share 1 [] []) w ds
took_nothing w ds fresh none = subst (λ es. TookThese (share 1 [] []) w es) (sym none) fresh

-- who began with all that was put, and with no number taken
pub taken_by : (parts : ℕ) (put : List ℕ) (w : Share ℕ) (ds : List DoneSeen) → TookThese (share parts put []) w ds → w.taken ≡ numbers_of ds
taken_by parts put w ds took = ap (λ (s : Share ℕ). s.taken) took

-- ---- what holds of each

pub all_more : {X : Type 0} (P : X → Type 0) (xs ys : List X) (x : X) → All P xs → P x → ys ≡ xs ++ x ∷ [] → All P ys
all_more P xs ys x all here more = All-same P ys (xs ++ x ∷ []) more (All-push P xs x all here)

pub due_none : (due : ℕ → List ℕ → Type 0) (ds : List DoneSeen) → ds ≡ [] → AreDue due ds
due_none due ds none = All-same (λ (d : DoneSeen). due d.number d.text) ds [] none (λ k d less. absurd (omega arith))

pub due_more : (due : ℕ → List ℕ → Type 0) (ds es : List DoneSeen) (d : DoneSeen) → AreDue due ds → due d.number d.text → es ≡ ds ++ d ∷ [] → AreDue due es
due_more due ds es d all here more = all_more (λ (d : DoneSeen). due d.number d.text) ds es d all here more

pub due_joined : (due : ℕ → List ℕ → Type 0) (ds es all : List DoneSeen) → AreDue due ds → AreDue due es → all ≡ ds ++ es → AreDue due all
due_joined due ds es all first second joined =
    let P : DoneSeen → Type 0 = λ d. due d.number d.text in All-same P all (ds ++ es) joined (All-append P ds es first second)
