-- What every turn keeps, however what is to do is kept in lists.
use Rattle.std.proofs.Common.{ℕ, ◌≡◌, ◌⊎◌, List, [], ◌∷◌, Some, None, sym, subst, ◌∙◌, inl, inr}
use Rattle.std.specs.Prelude.{Contains}
use Rattle.std.proofs.lemmas.List.Elements.{Contains-append_left, Contains-push}
use Rattle.and_model.specs.Terms.{Substitution}
use Rattle.and_model.specs.Solutions.{Solves}
use Rattle.and_model.specs.declared.reference.Ref.{Ref}
use Rattle.and_model.specs.declared.reference.Ref.TheVariants.{Cell}
use Rattle.and_program.specs.Skeletons.{AllFall}
use Rattle.and_cells.specs.Ranges.{NamedProgram}
use Rattle.and_cells.specs.Seen.{Seen, Knows, Keeps, OnlyReads}
use Rattle.and_cells.specs.Meaning.{Words, equations_between}
use Rattle.and_cells.proofs.Chains.{reads_keeps, keeps_more}
use Rattle.and_laws.proofs.Ordered.{contains_first, contains_more, contains_cases, contains_none}
use Rattle.and_laws.proofs.Solving.{solves_join, solves_front, solves_back}
use Rattle.and_cells.specs.Known.{SolvesKnown}
use Rattle.and_unify.specs.declared.pairs.Pair.{Pair}
use Rattle.and_unify.specs.Pairs.{equations_of_pairs}
use Rattle.and_unify.specs.Places.{sides, IsPlace, set}
use Rattle.and_unify.specs.Following.{OwnFollow}
use Rattle.and_unify.specs.Turns
use Rattle.and_unify.specs.Turns.{Steps, sets, one_class, joins}
use Rattle.and_unify.proofs.TurnAgree.{PairAgrees, agree_from_solves, solves_from_agree}
use Rattle.and_unify.proofs.TurnClosed.{Closed, Leaves, steps_keep, closed_steps, closed_reads, closed_renamed}
use Rattle.and_unify.proofs.TurnSound.{Sound, step_adds, sound_steps, sound_reads, reads_back, step_learns, told_solved, steps_told, steps_untold}
use Rattle.and_unify.proofs.TurnFollow.{follow_reads, follow_steps}
use Rattle.and_unify.specs.Setting.{Lists}
use Rattle.and_unify.proofs.SettingLists.{lists_later, lists_steps}
use Rattle.and_unify.proofs.TurnPlaces.{IsFit, fit_later, fits_steps, place_later, place_leads, place_set, part_left, part_right}

-- both sides of a pair are places of these roots
abbrev pub SidesAt : NamedProgram → Seen → List Ref → Pair → Type 0
SidesAt P s roots p = IsPlace P s roots p.left × IsPlace P s roots p.right

-- which they stay as more is known
sides_later : (P : NamedProgram) (old new : Seen) (roots : List Ref) (p : Pair) → ((place : ℕ) (r : Ref) → Knows old place r → Knows new place r)
    → SidesAt P old roots p → SidesAt P new roots p
sides_later P old new roots p knows at = (place_later P old new roots p.left knows at.0, place_later P old new roots p.right knows at.1)

-- What is kept of a row that is told: all follows from what was known first, each word that was set is on the list,
-- and what it was set to and the sides of what is to do are places that the sides asked for lead to.
pub record Told (P : NamedProgram) (first : Seen) (asked : List Pair) (s : Seen) (Todo : Pair → Type 0) (bound : List ℕ) : Type 0 where
  pub row : List Ref
  pub told : s.told ≡ Some row
  pub sound : Sound P s (Contains asked) Todo (λ w t. SolvesKnown P w first t)
  pub sets : (place : ℕ) (r : Ref) → Knows s place r → Knows first place r ⊎ (Contains bound place × IsPlace P first (sides asked) r)
  pub sides : (p : Pair) → Todo p → SidesAt P first (sides asked) p

-- What is kept of a row that is not told: what is to do follows from what is known, and each own setting from what was known before it.
pub record Untold (P : NamedProgram) (first : Seen) (asked : List Pair) (s : Seen) (Todo : Pair → Type 0) : Type 0 where
  pub told : s.told ≡ None
  pub sound : Sound P s (Contains asked) Todo (λ w t. SolvesKnown P w s t)
  pub follow : OwnFollow P asked first s

-- All that is kept.
pub record Kept (P : NamedProgram) (first : Seen) (asked : List Pair) (began : List ℕ) (s : Seen) (links : List (Ref × Ref)) (Todo : Pair
    → Type 0) (bound : List ℕ) : Type 0 where
  pub keeps : Keeps first s
  pub closed : Closed P s links Todo (Contains asked)
  pub fits : (p : Pair) → Todo p → IsFit P first.words s p
  pub if_told : (row : List Ref) → first.told ≡ Some row → Told P first asked s Todo bound
  pub if_untold : first.told ≡ None → Untold P first asked s Todo
  pub lists : Lists first s began bound
  pub leads : (p : Pair) → Todo p → SidesAt P s (sides asked) p

-- What solves the equations of pairs makes their sides agree, and the converse.
pub pairs_agree_from_solves : (P : NamedProgram) (w : Words) (t : Substitution) (ps : List Pair) → Solves t (equations_of_pairs P w ps) → (p : Pair)
    → Contains ps p → PairAgrees P w t p
pairs_agree_from_solves P w t [] s p at = absurd (contains_none p at)
pairs_agree_from_solves P w t (q ∷ ps) s p at =
    let one = equations_between P w q.left q.right in
    elim (contains_cases q p ps at) [
      | inl e ↦ subst (PairAgrees P w t) (sym e) (agree_from_solves P w t q.left q.right (solves_front t one (equations_of_pairs P w ps) s))
      | inr i ↦ pairs_agree_from_solves P w t ps (solves_back t one (equations_of_pairs P w ps) s) p i
    ]

-- the converse
pub solves_from_pairs_agree : (P : NamedProgram) (w : Words) (t : Substitution) (ps : List Pair) → ((p : Pair) → Contains ps p → PairAgrees P w t p)
    → Solves t (equations_of_pairs P w ps)
solves_from_pairs_agree P w t [] each = tt
solves_from_pairs_agree P w t (q ∷ ps) each =
    solves_join t (equations_between P w q.left q.right) (equations_of_pairs P w ps) (solves_from_agree P w t q.left q.right (each q (contains_first q ps)))
    (solves_from_pairs_agree P w t ps (λ p at. each p (contains_more q p ps at)))

-- the places to which what is known of a told row sets cells
set_places : (P : NamedProgram) (first : Seen) (asked : List Pair) (s : Seen) (bound : List ℕ)
    → ((place : ℕ) (r : Ref) → Knows s place r → Knows first place r ⊎ (Contains bound place × IsPlace P first (sides asked) r))
    → (cell : ℕ) (x : Ref) → Knows s cell x → IsPlace P first (sides asked) (Cell cell) → IsPlace P first (sides asked) x
set_places P first asked s bound sets_of cell x k at = elim (sets_of cell x k) [ inl before ↦ set cell x at before | inr is ↦ is.1 ]

-- Looks keep all.
told_reads : (P : NamedProgram) (first : Seen) (asked : List Pair) (old new : Seen) (Todo : Pair → Type 0) (bound : List ℕ) → OnlyReads old new
    → Told P first asked old Todo bound → Told P first asked new Todo bound
told_reads P first asked old new Todo bound reads k = record {
  row = k.row;
  told = reads.told ∙ k.told;
  sound = sound_reads P old new (Contains asked) Todo (λ w t. SolvesKnown P w first t) (λ w t. SolvesKnown P w first t) reads (λ w t a. a)
      (λ w t has a before place r knows whole. before place r (reads_back old new k.row place r reads k.told knows) whole) k.sound;
  sets = λ place r knows. k.sets place r (reads_back old new k.row place r reads k.told knows);
  sides = k.sides;
}

-- the same of a row that is not told
untold_reads : (P : NamedProgram) (first : Seen) (asked : List Pair) (old new : Seen) (Todo : Pair → Type 0) → OnlyReads old new
    → Untold P first asked old Todo → Untold P first asked new Todo
untold_reads P first asked old new Todo reads k = record {
  told = reads.told ∙ k.told;
  sound = sound_reads P old new (Contains asked) Todo (λ w t. SolvesKnown P w old t) (λ w t. SolvesKnown P w new t) reads
      (λ w t a place r knows. a place r (reads.keeps place r knows))
      (λ w t has a before. a) k.sound;
  follow = follow_reads P asked first old new reads k.follow;
}

-- so they keep all that is kept
pub kept_reads : (P : NamedProgram) (first : Seen) (asked : List Pair) (began : List ℕ) (old new : Seen) (links : List (Ref × Ref)) (Todo : Pair
    → Type 0) (bound : List ℕ) → OnlyReads old new
    → Kept P first asked began old links Todo bound → Kept P first asked began new links Todo bound
kept_reads P first asked began old new links Todo bound reads k = record {
  keeps = keeps_more first old new k.keeps (reads_keeps old new reads);
  closed = closed_reads P old new links Todo (Contains asked) reads.keeps k.closed;
  fits = λ p todo. fit_later P first.words old new p reads.keeps (k.fits p todo);
  if_told = λ row told. told_reads P first asked old new Todo bound reads (k.if_told row told);
  if_untold = λ told. untold_reads P first asked old new Todo reads (k.if_untold told);
  lists = lists_later first old new began bound reads.keeps k.lists;
  leads = λ p todo. sides_later P old new (sides asked) p reads.keeps (k.leads p todo);
}

-- The same where what is to do is stated otherwise.
pub kept_same : (P : NamedProgram) (first : Seen) (asked : List Pair) (began : List ℕ) (s : Seen) (links : List (Ref × Ref)) (Todo Other : Pair
    → Type 0) (bound : List ℕ)
    → ((p : Pair) → Todo p → Other p) → ((p : Pair) → Other p → Todo p) → Kept P first asked began s links Todo bound
    → Kept P first asked began s links Other bound
kept_same P first asked began s links Todo Other bound to from k = record {
  keeps = k.keeps;
  closed = closed_renamed P s links Todo Other (Contains asked) to k.closed;
  fits = λ p todo. k.fits p (from p todo);
  if_told = λ row told. let i = k.if_told row told in record {
    row = i.row;
    told = i.told;
    sound = λ w has t a asks. let (now, todos) = i.sound w has t a asks in (now, λ p todo. todos p (from p todo));
    sets = i.sets;
    sides = λ p todo. i.sides p (from p todo);
  };
  if_untold = λ told. let i = k.if_untold told in record {
    told = i.told;
    sound = λ w has t a asks. let (now, todos) = i.sound w has t a asks in (now, λ p todo. todos p (from p todo));
    follow = i.follow;
  };
  lists = k.lists;
  leads = λ p todo. k.leads p (from p todo);
}

-- A step keeps the list of cells that were set, and adds cells of the row.
step_bounds : (P : NamedProgram) (p : Pair) (old new : Seen) (links more_links : List (Ref × Ref)) (list longer : List Pair) (bound further : List ℕ)
    → Steps P p old new links more_links list longer bound further → (cell : ℕ) → Contains bound cell → Contains further cell
step_bounds P p old new links more_links list longer bound further (Turns.alike m e f g) cell at = subst (λ xs. Contains xs cell) (sym g) at
step_bounds P p old new links more_links list longer bound further (sets own m e f g) cell at =
    subst (λ xs. Contains xs cell) (sym g) (Contains-append_left bound (own ∷ []) cell at)
step_bounds P p old new links more_links list longer bound further (one_class one other m c e f g) cell at = subst (λ xs. Contains xs cell) (sym g) at
step_bounds P p old new links more_links list longer bound further (joins one other m c f g) cell at = subst (λ xs. Contains xs cell) (sym g) at

-- What a step sets of a told row is on the list, and a place.
told_sets : (P : NamedProgram) (p : Pair) (old new : Seen) (links more_links : List (Ref × Ref)) (list longer : List Pair) (bound further : List ℕ)
    (first : Seen) (asked : List Pair) (Todo : Pair → Type 0)
    → Steps P p old new links more_links list longer bound further → Todo p → Told P first asked old Todo bound → (place : ℕ) (r : Ref) → Knows new place r
    → Knows first place r ⊎ (Contains further place × IsPlace P first (sides asked) r)
told_sets P p old new links more_links list longer bound further first asked Todo steps own k place r knows =
    elim (step_learns P p old new links more_links list longer bound further k.row k.told steps place r knows) [
      | inl before ↦ elim (k.sets place r before) [
        | inl known ↦ inl known
        | inr is ↦ inr (step_bounds P p old new links more_links list longer bound further steps place is.0, is.1)
      ]
      | inr (m, is, on) ↦
          let listed : Contains further place = subst (λ xs. Contains xs place) (sym on) (Contains-push bound place) in
          let each = set_places P first asked old bound k.sets in
          let at : (cell : ℕ) (x : Ref) → Knows m.before cell x → IsPlace P first (sides asked) (Cell cell) → IsPlace P first (sides asked) x =
          λ cell x h. each cell x (reads_back old m.before k.row cell x m.lead.reads k.told h) in
          let (left, right) = k.sides p own in
          let one : IsPlace P first (sides asked) m.one = place_leads P first m.before (sides asked) p.left m.one at m.lead.left_leads left in
          let other : IsPlace P first (sides asked) m.other = place_leads P first m.before (sides asked) p.right m.other at m.lead.right_leads right in
          let set_to : IsPlace P first (sides asked) m.to = elim m.ends [
            | inl e ↦ subst (IsPlace P first (sides asked)) e.1 other
            | inr e ↦ subst (IsPlace P first (sides asked)) e.1 one
          ] in
          inr (listed, subst (IsPlace P first (sides asked)) is set_to)
    ]

-- A step keeps what is kept of a told row,
told_steps : (P : NamedProgram) (p : Pair) (old new : Seen) (links more_links : List (Ref × Ref)) (list longer : List Pair) (bound further : List ℕ)
    (first : Seen) (asked : List Pair) (Todo Later : Pair → Type 0)
    → AllFall 0 P.skeleton.nodes → Leaves p list longer Todo Later → Steps P p old new links more_links list longer bound further
    → Told P first asked old Todo bound → Told P first asked new Later further
told_steps P p old new links more_links list longer bound further first asked Todo Later fall leaves steps k =
    let (row, told) = steps_told P p old new links more_links list longer bound further k.row k.told steps in
    let now = told_sets P p old new links more_links list longer bound further first asked Todo steps leaves.was k in
    let each = set_places P first asked new further now in record {
      row = row;
      told = told;
      sound = sound_steps P p old new links more_links list longer bound further (Contains asked) Todo Later (λ w t. SolvesKnown P w first t)
          (λ w t. SolvesKnown P w first t) fall leaves steps (λ w t a. a)
          (λ w t has a solves own. told_solved P p old new links more_links list longer bound further k.row k.told steps w t has solves own) k.sound;
      sets = now;
      sides = λ q later. elim (leaves.comes q later) [
        | inl was ↦ k.sides q was
        | inr at ↦ elim (step_adds P p old new links more_links list longer bound further steps q at) [
          | inl listed ↦ k.sides q (leaves.list_was q listed)
          | inr is ↦
              let (left, right) = k.sides p leaves.was in
              (part_left P first new old.words (sides asked) p q each is left, part_right P first new old.words (sides asked) p q each is right)
        ]
      ];
    }

-- and of one that is not told.
untold_steps : (P : NamedProgram) (p : Pair) (old new : Seen) (links more_links : List (Ref × Ref)) (list longer : List Pair) (bound further : List ℕ)
    (first : Seen) (asked : List Pair) (Todo Later : Pair → Type 0)
    → AllFall 0 P.skeleton.nodes → Leaves p list longer Todo Later → Steps P p old new links more_links list longer bound further
    → Untold P first asked old Todo → Untold P first asked new Later
untold_steps P p old new links more_links list longer bound further first asked Todo Later fall leaves steps k =
    let keep = steps_keep P p old new links more_links list longer bound further steps in record {
      told = steps_untold P p old new links more_links list longer bound further k.told steps;
      sound = sound_steps P p old new links more_links list longer bound further (Contains asked) Todo Later (λ w t. SolvesKnown P w old t)
          (λ w t. SolvesKnown P w new t) fall leaves steps
          (λ w t a place r knows. a place r (keep.knows place r knows)) (λ w t has a solves own. a) k.sound;
      follow = follow_steps P p old new links more_links list longer bound further asked first (Contains asked) Todo fall k.told leaves.was
          (λ w t s q at. pairs_agree_from_solves P w t asked s q at) steps k.sound k.follow;
    }

-- After a step the sides of what is to do are places, where they were before.
sides_steps : (P : NamedProgram) (p : Pair) (old new : Seen) (links more_links : List (Ref × Ref)) (list longer : List Pair) (bound further : List ℕ)
    (roots : List Ref) (Todo Later : Pair → Type 0)
    → Leaves p list longer Todo Later → Steps P p old new links more_links list longer bound further → ((q : Pair) → Todo q → SidesAt P old roots q)
    → (q : Pair) → Later q → SidesAt P new roots q
sides_steps P p old new links more_links list longer bound further roots Todo Later leaves steps at q later =
    let knows = (steps_keep P p old new links more_links list longer bound further steps).knows in
    let was : (q : Pair) → Todo q → SidesAt P new roots q = λ q todo. sides_later P old new roots q knows (at q todo) in
    elim (leaves.comes q later) [
      | inl todo ↦ was q todo
      | inr among ↦ elim (step_adds P p old new links more_links list longer bound further steps q among) [
        | inl listed ↦ was q (leaves.list_was q listed)
        | inr is ↦
            let own = was p leaves.was in
            let each = place_set P new roots in
            (part_left P new new old.words roots p q each is own.0, part_right P new new old.words roots p q each is own.1)
      ]
    ]

-- So a step keeps all.
pub kept_steps : (P : NamedProgram) (p : Pair) (old new : Seen) (links more_links : List (Ref × Ref)) (list longer : List Pair) (bound further : List ℕ)
    (first : Seen) (asked : List Pair) (began : List ℕ) (Todo Later : Pair → Type 0)
    → AllFall 0 P.skeleton.nodes → Leaves p list longer Todo Later → Steps P p old new links more_links list longer bound further
    → Kept P first asked began old links Todo bound → Kept P first asked began new more_links Later further
kept_steps P p old new links more_links list longer bound further first asked began Todo Later fall leaves steps k =
    let keep = steps_keep P p old new links more_links list longer bound further steps in record {
      keeps = keeps_more first old new k.keeps keep;
      closed = closed_steps P p old new links more_links list longer bound further Todo Later (Contains asked) leaves steps k.closed;
      fits = fits_steps P p old new links more_links list longer bound further Todo Later first.words fall k.keeps.words leaves steps k.fits;
      if_told = λ row told. told_steps P p old new links more_links list longer bound further first asked Todo Later fall leaves steps (k.if_told row told);
      if_untold = λ told. untold_steps P p old new links more_links list longer bound further first asked Todo Later fall leaves steps (k.if_untold told);
      lists = lists_steps P p old new links more_links list longer bound further first began steps k.keeps.knows keep.knows k.keeps.words k.lists;
      leads = sides_steps P p old new links more_links list longer bound further (sides asked) Todo Later leaves steps k.leads;
    }
