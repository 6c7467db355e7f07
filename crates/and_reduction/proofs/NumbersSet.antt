-- A free cell that is set to a number.
use Rattle.std.proofs.Common.{ℕ, suc, ◌≡◌, ◌≢◌, ◌<◌, List, [], ◌∷◌, length, false, refl, sym, ap, ◌∙◌, subst, ◌⊎◌, inl}
use Rattle.std.specs.Prelude.{All, Contains, set, IfSome}
use Rattle.std.proofs.lemmas.Option.{same_Some}
use Rattle.std.proofs.lemmas.List.Elements.{All-nil, All-cons, All-contains}
use Rattle.and_model.specs.declared.reference.Ref.{Ref}
use Rattle.and_model.specs.declared.reference.Ref.TheVariants.{Free, Cell, Number}
use Rattle.and_program.specs.Skeletons.{AllFall}
use Rattle.and_laws.proofs.Ordered.{contains_first}
use Rattle.and_cells.specs.Ranges.{NamedProgram, IsInRange}
use Rattle.and_cells.specs.Rows.{plain, IsSound}
use Rattle.and_cells.specs.Seen.{word_at, IsSetTo, IsWrittenIfNumber, LeadsTo, Sets, OnlyReads, EndsAt, FoundFree, here}
use Rattle.and_cells.specs.Meaning.{IsSettled}
use Rattle.and_cells.specs.Ends.{Ends}
use Rattle.and_cells.proofs.Chains.{reads_nothing}
use Rattle.and_cells.proofs.Keeping.{word_set_here}
use Rattle.and_cells.proofs.PlainRows.{plain_sets, written_in_row}
use Rattle.and_unify.specs.declared.pairs.Pair.{Pair}
use Rattle.and_unify.specs.declared.settling.Settled.{Settled as Answer}
use Rattle.and_unify.specs.declared.settling.Settled.TheVariants.{Solved, NoSolution, Memory}
use Rattle.and_unify.specs.Meeting.{MeetFree}
use Rattle.and_unify.specs.Pairs.{AreInRange, AreWritten, NameNoHalf}
use Rattle.and_unify.specs.Running.{Runs, start, stepped}
use Rattle.and_unify.specs.Setting.{HaveBeenSet}
use Rattle.and_unify.specs.Settling.{AreNewFrom, EndsFrom, Settles, SetsPlaces}
use Rattle.and_unify.specs.Turns as turns
use Rattle.and_unify.specs.declared.unifying.Unified.TheVariants as unified
use Rattle.and_unify.specs.Places.{sides, IsPlace}
use Rattle.and_unify.specs.Unifying.{Unifies}
use Rattle.and_unify.proofs.TurnAnswers.{sets_end}
use Rattle.and_unify.proofs.DescentKept.{Held, same_end}
use Rattle.and_unify.proofs.DescentRuns.{held_asked}
use Rattle.and_unify.proofs.SettlingTerms.{Binds, binds}
use Rattle.and_unify.proofs.SettlingSeen.{ends_above}
use Rattle.and_unify.proofs.SettlingDone.{have_been_set, sets_places, judged}
use Rattle.and_reduction.specs.Asked.{the_pair}
use Rattle.and_reduction.specs.Trails.{Noted, KeepsNoted, AreNoted}
use Rattle.and_reduction.proofs.NotedSteps.{settling_noted, settles_less}

module _ (P : NamedProgram) (row : List Ref) (left : Ref) (pair : ℕ) where
  -- what is known of both sides
  pub sides_in_range : AreInRange P (length row) (the_pair left (Number pair)) → IsInRange P (length row) left × IsInRange P (length row) (Number pair)
  sides_in_range all =
      All-contains (λ (p : Pair). IsInRange P (length row) p.left × IsInRange P (length row) p.right) (the_pair left (Number pair))
      (record { left = left; right = Number pair }) all (contains_first (record { left = left; right = Number pair }) [])

  pub sides_written : AreWritten (plain row) (the_pair left (Number pair)) → IsWrittenIfNumber (plain row) left × IsWrittenIfNumber (plain row) (Number pair)
  sides_written all =
      All-contains (λ (p : Pair). IsWrittenIfNumber (plain row) p.left × IsWrittenIfNumber (plain row) p.right) (the_pair left (Number pair))
      (record { left = left; right = Number pair }) all (contains_first (record { left = left; right = Number pair }) [])

  -- both words of the pair are set
  pub pair_written : (new : List Ref) → new ≡ row → IsSound P row → AreWritten (plain row) (the_pair left (Number pair))
      → (word_at new pair ≢ Free) × (word_at new (suc pair) ≢ Free)
  pair_written new is sound all =
      subst (λ (r : List Ref). (word_at r pair ≢ Free) × (word_at r (suc pair) ≢ Free)) (sym is)
      (written_in_row P row pair sound ((sides_written all).1 pair refl))

-- looks change no row
pub same_row : (row new : List Ref) → OnlyReads (plain row) (plain new) → new ≡ row
same_row row new reads = same_Some new row reads.told

-- a cell at which a chain ends is free
pub ends_free : (row new : List Ref) (end : Ref) (cell : ℕ) → end ≡ Cell cell → EndsAt 0 end (plain row) (plain new) → word_at row cell ≡ Free
ends_free row new end cell is ends =
    let found : FoundFree 0 cell (plain row) (plain new) = subst (λ (r : Ref). EndsAt 0 r (plain row) (plain new)) is ends in
    subst (λ t. IfSome t (λ r. word_at r cell ≡ Free)) found.reads.told found.misses.free

module _ (P : NamedProgram) (row new : List Ref) (left : Ref) (cell pair floor : ℕ) (asked : List Pair) (is_asked : asked ≡ the_pair left (Number pair))
    (fall : AllFall 0 P.skeleton.nodes) (sound : IsSound P row) (range : AreInRange P (length row) asked) (written : AreWritten (plain row) asked)
    (leads : LeadsTo (plain row) left (Cell cell)) (below : cell < length row) (free : word_at row cell ≡ Free) (is : new ≡ set row cell (Number pair)) where
  is_set : Sets cell (Number pair) (plain row) (plain new)
  is_set = subst (λ (r : List Ref). Sets cell (Number pair) (plain row) (plain r)) (sym is) (plain_sets row cell (Number pair) below free (λ e. absurd (cc)))

  met : MeetFree P left (Number pair) cell (plain row) (plain new)
  met = record {
    one = Cell cell;
    other = Number pair;
    to = Number pair;
    before = plain row;
    lead = record { reads = reads_nothing (plain row); left_leads = leads; right_leads = here (Number pair) };
    differ = λ e. absurd (cc);
    ends = inl (refl, refl);
    below = below;
    in_range = (sides_in_range P row left pair (subst (AreInRange P (length row)) is_asked range)).1;
    written = (sides_written P row left pair (subst (AreWritten (plain row)) is_asked written)).1;
    sets = is_set;
  }

  runs : Runs P (plain row) asked [] (plain new) [] (cell ∷ [])
  runs =
      let one : Pair = record { left = left; right = Number pair } in
      subst (λ (ps : List Pair). Runs P (plain row) ps [] (plain new) [] (cell ∷ [])) (sym is_asked)
      (stepped (plain row) (plain new) one [] [] [] (cell ∷ []) start (λ links. (links, turns.sets cell met refl refl refl)))

  held : Held P (plain row) asked [] (plain new) (Contains []) (cell ∷ [])
  held = held_asked P (plain row) asked [] (plain new) [] (cell ∷ []) fall range written runs

  made : (place : ℕ) (r : Ref) → IsSetTo new place r → IsSetTo row place r ⊎ (Contains (cell ∷ []) place × IsPlace P (plain row) (sides asked) r)
  made = sets_end P (plain row) asked [] (plain new) held.links (Contains []) (cell ∷ []) held.kept

  been_set : HaveBeenSet row new (cell ∷ [])
  been_set = have_been_set P row new asked [] (cell ∷ []) refl held.kept.keeps made held.kept.lists

  -- What is noted is noted still.
  pub number_noted : (old later : Noted) → AreNoted old later (cell ∷ []) → KeepsNoted old later row new
  number_noted old later are = settling_noted old later (cell ∷ []) row new been_set are

  -- What was set is something to which the row and the pair led.
  pub number_places : SetsPlaces P row new asked
  number_places = sets_places P row new asked (cell ∷ []) made

  -- The row is settled with the number.
  pub number_settles : IsSettled P row → NameNoHalf P (word_at row) asked → AreNewFrom P row asked floor → IsSound P new → (answer : Answer)
      → answer ≢ NoSolution → Settles P row new asked answer
  number_settles settled no_half is_new sound_now answer some = by answer some
    where
      here_set : word_at new cell ≡ Number pair
      here_set = ap (λ (r : List Ref). word_at r cell) is ∙ word_set_here row cell cell (Number pair) below refl

      ends : (from : ℕ) → Ends P new from false (Cell cell)
      ends from = Ends.set cell (Number pair) (here_set, λ e. absurd (cc)) (Ends.number pair)

      solved : Settles P row new asked Solved
      solved =
          let bound : Binds P row new asked floor (cell ∷ []) =
          binds P row new asked floor (cell ∷ []) fall sound range settled no_half is_new held.kept.keeps made in
          let u : Unifies P (plain row) (plain new) asked [] unified.Same =
          same_end P (plain row) (plain new) asked [] (cell ∷ []) [] [] fall range (refl, refl) held in
          let all : All (EndsFrom P new floor) (cell ∷ []) =
          All-cons (EndsFrom P new floor) cell [] ((λ low. ends 0), (λ up. ends floor)) (All-nil (EndsFrom P new floor)) in
          judged P row new asked floor (cell ∷ []) bound held.kept.keeps written u.follows Solved
          (λ w has whole t known. u.equal (inl refl) w has whole t known tt)
          (λ is. record {
            sound = sound_now;
            below = λ place at low whole. (All-contains (EndsFrom P new floor) (cell ∷ []) place all at).0 low;
            above = λ place at whole. ends_above P new floor place (All-contains (EndsFrom P new floor) (cell ∷ []) place all at);
          })
          (λ is. absurd (cc))

      by : (a : Answer) → a ≢ NoSolution → Settles P row new asked a
      by Solved other = solved
      by NoSolution other = absurd (other refl)
      by Memory other = settles_less P row new asked Solved solved
