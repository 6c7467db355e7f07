-- A worker that has done nothing yet is at work, and one that stops hands on what it did.
use Rattle.std.proofs.Common.{ℕ, ◌≡◌, ◌<◌, List, [], append-nil, map, None, Result, Ok, Err, refl, sym, ap, subst, ◌∙◌, All, Contains}
use Rattle.std.proofs.lemmas.List.Elements.{All-nil}
use Rattle.and_model.specs.Store.{Known, sets}
use Rattle.and_cells.specs.Ranges.{NamedProgram, IsInRange}
use Rattle.and_cells.specs.Seen.{IsWrittenIfNumber}
use Rattle.and_workers.specs.Waiting.{Waiting}
use Rattle.and_unify.specs.declared.pairs.Pair.{Pair}
use Rattle.and_store.specs.Passes.{PassSeen, StoreId, fresh}
use Rattle.and_store.specs.Worked.{seen_by}
use Rattle.and_store_laws.proofs.Lists.{contains_none, contains_there}
use Rattle.and_store_laws.specs.Steps.{entry}
use Rattle.and_workers.specs.AtWork.{IsAtWork, IsTurned, GoesOn, IsStopped}
use Rattle.and_workers.specs.declared.worker.Turn.{Turn}
use Rattle.and_workers.specs.declared.worker.Turn.TheVariants.{Worked, Idle, Over}
use Rattle.and_handed.specs.Handed.{settings_from, HandsOn, EndsBy, HasDone, PairsLeft, IsSole, WasRun, frame_of}
use Rattle.and_handed.specs.declared.told.HandedOn.{HandedOn}

-- A worker at work with no pair to do beside those put off hands on what it did.
pub work_is_handed_on : (P : NamedProgram) (told : HandedOn) (waiting : List Waiting) (p : PassSeen) → IsAtWork P told [] waiting p → HandsOn P told p
work_is_handed_on P told waiting p work spoilt =
    subst (EndsBy P told p) (sym work.live)
    (work.no_fail, subst (λ pairs. HasDone P told pairs p) (append-nil told.pairs) work.done)

none_in : {X : Type 0} (xs : List X) (x : X) → xs ≡ [] → Contains xs x → ⊥
none_in xs x none c = contains_none x (subst (λ l. Contains l x) none c)

pub fresh_at_work : (P : NamedProgram) (told : HandedOn) (waiting : List Waiting) (p : PassSeen) (store : StoreId) (number : ℕ) → p ≡ fresh store number
    → told.made.items ≡ [] → told.ran.items ≡ [] → told.pairs ≡ [] → told.cause ≡ None → waiting ≡ [] → IsAtWork P told [] waiting p
fresh_at_work P told waiting p store number is made ran pairs cause waits =
    let p0 = fresh store number in
    subst (IsAtWork P told [] waiting) (sym is) (record {
      done = record {
        acted = record {
          frames = ap (map (frame_of P.program)) (sym made);
          made = subst (All (IsSole P p0)) (sym made) (All-nil (IsSole P p0));
          ran = subst (All (WasRun P store.about.first told p0)) (sym ran) (All-nil (WasRun P store.about.first told p0));
          settings = λ before after s nothing half w fits t solves asked.
              absurd (none_in [] (entry number (sets s)) refl (subst (λ l. Contains l (entry number (sets s))) (sym nothing)
              (contains_there before after (entry number (sets s)))));
        };
        pairs_left = subst (λ l. PairsLeft P told l p0) (sym (append-nil told.pairs ∙ pairs)) (record {
          in_range = All-nil (λ (e : Pair). IsInRange P store.about.words e.left × IsInRange P store.about.words e.right);
          written = All-nil (λ (e : Pair). IsWrittenIfNumber (seen_by p0) e.left × IsWrittenIfNumber (seen_by p0) e.right);
          asked = λ w fits t solves asked. tt;
          all = λ w fits t solves solved. record {
            made = λ m c. absurd (none_in told.made.items m made c);
            ran = λ r c. absurd (none_in told.ran.items r ran c);
          };
        });
      };
      no_fail = refl;
      known = All-nil (λ (k : Known). Contains (settings_from store.about.first []) k.setting);
      fit = λ place r knows. absurd (contains_none _ knows);
      waits = subst (All (λ (w : Waiting). w.cell < store.about.words)) (sym waits) (All-nil (λ (w : Waiting). w.cell < store.about.words));
      live = cause;
    })

pub going_on : {E : Type 0} (P : NamedProgram) (told : HandedOn) (waiting : List Waiting) (p : PassSeen) (turned : Result Turn E) → GoesOn turned
    → IsTurned P told waiting p turned → IsAtWork P told [] waiting p
going_on P told waiting p (Ok Worked) on work = work
going_on P told waiting p (Ok Idle) on work = work
going_on P told waiting p (Ok Over) on work = absurd on
going_on P told waiting p (Err e) on work = absurd on

pub stopped : {E : Type 0} (P : NamedProgram) (told : HandedOn) (waiting : List Waiting) (p : PassSeen) (turned : Result Turn E) → IsStopped turned
    → IsTurned P told waiting p turned → HandsOn P told p
stopped P told waiting p (Ok Worked) stop work = absurd stop
stopped P told waiting p (Ok Idle) stop work = work_is_handed_on P told waiting p work
stopped P told waiting p (Ok Over) stop over = over
stopped P told waiting p (Err e) stop work = absurd stop
