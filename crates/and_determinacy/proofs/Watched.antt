-- The cells that are gathered from a term, place by place.
use Rattle.std.proofs.Common.{ℕ, ◌+◌, ◌≡◌, ◌≢◌, ◌≤◌, ◌<◌, ◌⊎◌, false, true≢false, List, [], ◌∷◌, ◌++◌, append-nil, append_assoc, length, map, drop}
use Rattle.std.proofs.Common.{refl, sym, ap, ◌∙◌, subst, inl, inr, arith}
use Rattle.std.specs.Prelude.{All, Contains}
use Rattle.std.proofs.lemmas.List.{drop-append-le}
use Rattle.std.proofs.Math.Seq.{drop-append_seam}
use Rattle.std.proofs.lemmas.List.Elements.{All-nil, All-cons, All-head, All-append, All-push, All-contains}
use Rattle.std.proofs.lemmas.List.Elements.{Contains-append_left, Contains-append_cases, Contains-push}
use Rattle.and_model.specs.Terms.{Path, Term, variables_of, variables_in}
use Rattle.and_model.specs.Store.{is_half}
use Rattle.and_model.specs.declared.numbers.NodeNo.{NodeNo}
use Rattle.and_model.specs.declared.reference.Ref.{Ref}
use Rattle.and_model.specs.declared.reference.Ref.TheVariants.{Free, Cell, Node, Number, Half}
use Rattle.and_program.specs.Skeletons
use Rattle.and_program.specs.Skeletons.{Shape, term_list, nth, node_term, shape_term, terms_behind, AllFall}
use Rattle.and_program.specs.Loaded.{shape_at, arguments_at}
use Rattle.and_program.specs.Shown.{resolved, arguments_in}
use Rattle.and_laws.proofs.Ordered.{contains_first, contains_more, contains_cases, contains_none}
use Rattle.and_cells.specs.Ranges.{NamedProgram, IsInRange, CanHold}
use Rattle.and_cells.specs.Rows.{IsSound}
use Rattle.and_cells.specs.Seen.{word_at, IsSetTo}
use Rattle.and_cells.specs.Meaning
use Rattle.and_cells.specs.Meaning.{Holds}
use Rattle.and_cells.specs.Parts.{part_at, parts_of}
use Rattle.and_cell_laws.proofs.Circles.{shape_is_no_variable}
use Rattle.and_cell_laws.proofs.Images.{contains_image}
use Rattle.and_cell_laws.proofs.Structures.{node_term_shape}
use Rattle.and_branch_laws.proofs.Lists.{all_left, all_right}
use Rattle.and_determinacy.specs.Watching.{IsWatched, Suffice, IsListed, IsFollowed, AreFollowed, IsPutIfParted}

-- ---- What a reference holds

module _ (P : NamedProgram) (row : List Ref) where
  cell_holds : (cell : ℕ) (r : Ref) (c : ℕ) → r ≡ Cell cell → Holds P row r c
      → (c ≡ cell) ⊎ ((q : Ref) × IsSetTo row cell q × Holds P row q c)
  cell_holds cell r c e (Meaning.here other) = inl (cc)
  cell_holds cell r c e (Meaning.onward start q other set rest) =
      let same : start ≡ cell = cc in
      inr (q, subst (λ (s : ℕ). IsSetTo row s q) same set, rest)
  cell_holds cell r c e (Meaning.inside node base v other at rest) = absurd (cc)

  node_holds : (node : NodeNo) (base : ℕ) (r : Ref) (c : ℕ) → r ≡ Node node base → Holds P row r c
      → (v : Path × ℕ) × Contains (variables_of (node_term P.skeleton.nodes node.0)) v × Holds P row (Cell (base + 1 + v.1)) c
  node_holds node base r c e (Meaning.here other) = absurd (cc)
  node_holds node base r c e (Meaning.onward start q other set rest) = absurd (cc)
  node_holds node base r c e (Meaning.inside other frame v cell at rest) =
      let same_node : other ≡ node = cc in
      let same_base : frame ≡ base = cc in (
        v,
        subst (λ (n : NodeNo). Contains (variables_of (node_term P.skeleton.nodes n.0)) v) same_node at,
        subst (λ (b : ℕ). Holds P row (Cell (b + 1 + v.1)) cell) same_base rest,
      )

  pub number_holds : (pair : ℕ) (r : Ref) (c : ℕ) → r ≡ Number pair → Holds P row r c → ⊥
  number_holds pair r c e (Meaning.here other) = absurd (cc)
  number_holds pair r c e (Meaning.onward start q other set rest) = absurd (cc)
  number_holds pair r c e (Meaning.inside node base v other at rest) = absurd (cc)

  pub half_holds : (bits : ℕ) (r : Ref) (c : ℕ) → r ≡ Half bits → Holds P row r c → ⊥
  half_holds bits r c e (Meaning.here other) = absurd (cc)
  half_holds bits r c e (Meaning.onward start q other set rest) = absurd (cc)
  half_holds bits r c e (Meaning.inside node base v other at rest) = absurd (cc)

-- ---- Structures

module _ (P : NamedProgram) (fall : AllFall 0 P.skeleton.nodes) (row : List Ref) (floor : ℕ) (cells : List ℕ) where
  resolved_watched : (base n : ℕ) (ts : List Term) (s : Shape) → node_term P.skeleton.nodes n ≡ shape_term ts s
      → IsWatched P row floor cells (resolved s (record { 0 = n }) base) → (v : Path × ℕ) → Contains (variables_of (node_term P.skeleton.nodes n)) v
      → IsWatched P row floor cells (Cell (base + 1 + v.1))
  resolved_watched base n ts (Skeletons.variable k) e watched v c =
      elim (contains_cases ([], k) v [] (subst (λ (t : Term). Contains (variables_of t) v) e c)) [
        | inl same ↦ subst (λ (x : Path × ℕ). IsWatched P row floor cells (Cell (base + 1 + x.1))) (sym same) watched
        | inr none_left ↦ absurd (contains_none v none_left)
      ]
  resolved_watched base n ts (Skeletons.number z) e watched v c =
      absurd (contains_none v (subst (λ (t : Term). Contains (variables_of t) v) e c))
  resolved_watched base n ts (Skeletons.compound d ns) e watched v c =
      λ cell held free. watched cell (Meaning.inside (record { 0 = n }) base v cell c held) free

  -- Where the place of a node is watched, the cells of its variables are.
  pub variables_watched : (base n : ℕ) → IsWatched P row floor cells (part_at P base n) → (v : Path × ℕ)
      → Contains (variables_of (node_term P.skeleton.nodes n)) v → IsWatched P row floor cells (Cell (base + 1 + v.1))
  variables_watched base n watched v c =
      resolved_watched base n (terms_behind [] P.skeleton.nodes) (shape_at P.skeleton n) (node_term_shape P.skeleton.nodes n fall) watched v c

  -- a variable of a list of terms is one of some term
  in_argument : (f : ℕ → Term) (ns : List ℕ) (v : Path × ℕ) → Contains (variables_in (term_list (map f ns))) v
      → (m : ℕ) × Contains ns m × Contains (variables_of (f m)) v
  in_argument f [] v c = absurd (contains_none v c)
  in_argument f (n ∷ ns) v c = elim (Contains-append_cases (variables_of (f n)) (variables_in (term_list (map f ns))) v c) [
    | inl here ↦ (n, contains_first n ns, here)
    | inr later ↦ let found = in_argument f ns v later in (found.0, contains_more n found.0 ns found.1, found.2)
  ]

  -- and a variable of a structure is one of an argument
  in_shape : (s : Shape) (v : Path × ℕ) → ((k : ℕ) → s ≡ Skeletons.variable k → ⊥)
      → Contains (variables_of (shape_term (terms_behind [] P.skeleton.nodes) s)) v
      → (m : ℕ) × Contains (arguments_in s) m × Contains (variables_of (node_term P.skeleton.nodes m)) v
  in_shape (Skeletons.variable k) v apart c = absurd (apart k refl)
  in_shape (Skeletons.number z) v apart c = absurd (contains_none v c)
  in_shape (Skeletons.compound d ns) v apart c = in_argument (nth (terms_behind [] P.skeleton.nodes)) ns v c

  -- Where its parts are watched, a structure is.
  pub parts_watched : (words : ℕ) (node : NodeNo) (base : ℕ) → IsInRange P words (Node node base)
      → All (IsWatched P row floor cells) (parts_of P (Node node base)) → IsWatched P row floor cells (Node node base)
  parts_watched words node base fits all cell held free =
      let (v, at, rest) = node_holds P row node base (Node node base) cell refl held in
      let here = subst (λ (t : Term). Contains (variables_of t) v) (node_term_shape P.skeleton.nodes node.0 fall) at in
      let (m, argument, inside) = in_shape (shape_at P.skeleton node.0) v (shape_is_no_variable P node.0 fits.1 fits.0.there) here in
      let part = All-contains (IsWatched P row floor cells) (parts_of P (Node node base)) (part_at P base m) all
      (contains_image (part_at P base) (arguments_at P.skeleton node.0) m argument) in
      variables_watched base m part v inside cell rest free

-- ---- Places

-- What a cell of a sound row is set to is in range, unless it is a half.
word_fits : (P : NamedProgram) (row : List Ref) (cell : ℕ) (word : Ref) → cell < length row → CanHold P (length row) cell word → word ≢ Free
    → is_half word ≡ false → IsInRange P (length row) word
word_fits P row cell Free below fits set whole = absurd (set refl)
word_fits P row cell (Cell other) below fits set whole = omega arith
word_fits P row cell (Node node base) below fits set whole = fits
word_fits P row cell (Number pair) below fits set whole = fits
word_fits P row cell (Half bits) below fits set whole = absurd (true≢false whole)

-- what a list has from a place on, it has when more comes to its end
stays_listed : (begun : ℕ) (had gained : List ℕ) (cell : ℕ) → Contains (drop begun had) cell → begun ≤ length had
    → Contains (drop begun (had ++ gained)) cell
stays_listed begun had gained cell c low =
    subst (λ (l : List ℕ). Contains l cell) (sym (drop-append-le begun had gained low)) (Contains-append_left (drop begun had) gained cell c)

module _ (P : NamedProgram) (row : List Ref) (floor begun : ℕ) where
  nothing_put : (listed : List ℕ) (goal : List ℕ → Type 0)
      → ((cells : List ℕ) → ((cell : ℕ) → Contains (drop begun listed) cell → Contains cells cell) → goal cells)
      → Suffice P row floor begun listed [] goal
  nothing_put listed goal holds = record { in_range = All-nil (IsInRange P (length row)); owes = λ cells sub all. holds cells sub }

  -- A place that holds nothing is followed,
  pub holds_nothing : (at : Ref) (visits : List Ref) (listed : List ℕ) → ((c : ℕ) → Holds P row at c → ⊥)
      → IsFollowed P row floor begun at visits visits listed listed
  holds_nothing at visits listed none = record {
    more = [];
    put = sym (append-nil visits);
    gained = [];
    listed = sym (append-nil listed);
    suffices = nothing_put listed (λ cells. IsWatched P row floor cells at) (λ cells sub cell held free. absurd (none cell held));
  }

  -- a free cell where it is listed,
  pub free_followed : (cell : ℕ) (visits : List Ref) (old new : List ℕ) → word_at row cell ≡ Free → IsListed cell begun old new
      → IsFollowed P row floor begun (Cell cell) visits visits old new
  free_followed cell visits old new free l = record {
    more = [];
    put = sym (append-nil visits);
    gained = l.gained;
    listed = l.longer;
    suffices = nothing_put new (λ cells. IsWatched P row floor cells (Cell cell)) (λ cells sub c held is.
        elim (cell_holds P row cell (Cell cell) c refl held) [
          | inl e ↦ λ below. sub c (subst (Contains (drop begun new)) (sym e) l.there)
          | inr found ↦ absurd (found.1.1 (sym found.1.0 ∙ free))
        ]);
  }

  -- or lies past the floor,
  pub past_followed : (cell : ℕ) (visits : List Ref) (listed : List ℕ) → word_at row cell ≡ Free → floor ≤ cell
      → IsFollowed P row floor begun (Cell cell) visits visits listed listed
  past_followed cell visits listed free past = record {
    more = [];
    put = sym (append-nil visits);
    gained = [];
    listed = sym (append-nil listed);
    suffices = nothing_put listed (λ cells. IsWatched P row floor cells (Cell cell)) (λ cells sub c held is below.
        elim (cell_holds P row cell (Cell cell) c refl held) [
          | inl e ↦ absurd (omega arith)
          | inr found ↦ absurd (found.1.1 (sym found.1.0 ∙ free))
        ]);
  }

  -- a cell whose word holds nothing,
  pub ended_followed : (cell : ℕ) (word : Ref) (visits : List Ref) (listed : List ℕ) → word_at row cell ≡ word → word ≢ Free
      → ((c : ℕ) → Holds P row word c → ⊥) → IsFollowed P row floor begun (Cell cell) visits visits listed listed
  ended_followed cell word visits listed is set none = record {
    more = [];
    put = sym (append-nil visits);
    gained = [];
    listed = sym (append-nil listed);
    suffices = nothing_put listed (λ cells. IsWatched P row floor cells (Cell cell)) (λ cells sub c held free.
        elim (cell_holds P row cell (Cell cell) c refl held) [
          | inl e ↦ absurd (set (sym is ∙ ap (word_at row) (sym e) ∙ free))
          | inr found ↦ absurd (none c (subst (λ (r : Ref). Holds P row r c) (sym found.1.0 ∙ is) found.2))
        ]);
  }

  -- one that is set where its word is followed,
  pub through_followed : (cell : ℕ) (word : Ref) (visits new : List Ref) (old listed : List ℕ) → word_at row cell ≡ word → word ≢ Free
      → IsFollowed P row floor begun word visits new old listed → IsFollowed P row floor begun (Cell cell) visits new old listed
  through_followed cell word visits new old listed is set f = record {
    more = f.more;
    put = f.put;
    gained = f.gained;
    listed = f.listed;
    suffices = record {
      in_range = f.suffices.in_range;
      owes = λ cells sub all c held free. elim (cell_holds P row cell (Cell cell) c refl held) [
        | inl e ↦ absurd (set (sym is ∙ ap (word_at row) (sym e) ∙ free))
        | inr found ↦ f.suffices.owes cells sub all c (subst (λ (r : Ref). Holds P row r c) (sym found.1.0 ∙ is) found.2) free
      ];
    };
  }

  -- another set one where its word is visited,
  pub set_followed : IsSound P row → (cell : ℕ) (word : Ref) (visits new : List Ref) (listed : List ℕ) → cell < length row
      → word_at row cell ≡ word → word ≢ Free → is_half word ≡ false → new ≡ visits ++ word ∷ []
      → IsFollowed P row floor begun (Cell cell) visits new listed listed
  set_followed sound cell word visits new listed below is set whole put = record {
    more = word ∷ [];
    put = put;
    gained = [];
    listed = sym (append-nil listed);
    suffices = record {
      in_range = All-cons (IsInRange P (length row)) word []
          (word_fits P row cell word below (subst (CanHold P (length row) cell) is (sound.fits cell)) set whole) (All-nil (IsInRange P (length row)));
      owes = λ cells sub all c held free. elim (cell_holds P row cell (Cell cell) c refl held) [
        | inl e ↦ absurd (set (sym is ∙ ap (word_at row) (sym e) ∙ free))
        | inr found ↦
            All-head (IsWatched P row floor cells) word [] all c (subst (λ (r : Ref). Holds P row r c) (sym found.1.0 ∙ is) found.2) free
      ];
    };
  }

  module _ (fall : AllFall 0 P.skeleton.nodes) (node : NodeNo) (base : ℕ) (fits : IsInRange P (length row) (Node node base)) where
    -- a structure where it is visited or has no parts,
    pub structure_put : (visits new : List Ref) (listed : List ℕ) → IsPutIfParted P (Node node base) visits new
        → IsFollowed P row floor begun (Node node base) visits new listed listed
    structure_put visits new listed (inl put) = record {
      more = Node node base ∷ [];
      put = put;
      gained = [];
      listed = sym (append-nil listed);
      suffices = record {
        in_range = All-cons (IsInRange P (length row)) (Node node base) [] fits (All-nil (IsInRange P (length row)));
        owes = λ cells sub all. All-head (IsWatched P row floor cells) (Node node base) [] all;
      };
    }
    structure_put visits new listed (inr same) = record {
      more = [];
      put = same.0 ∙ sym (append-nil visits);
      gained = [];
      listed = sym (append-nil listed);
      suffices = nothing_put listed (λ cells. IsWatched P row floor cells (Node node base)) (λ cells sub.
          parts_watched P fall row floor cells (length row) node base fits
          (subst (All (IsWatched P row floor cells)) (sym same.1) (All-nil (IsWatched P row floor cells))));
    }

    -- and one where its parts are followed.
    pub structure_followed : (visits new : List Ref) (had has : List ℕ) → AreFollowed P row floor begun (parts_of P (Node node base)) visits new had has
        → IsFollowed P row floor begun (Node node base) visits new had has
    structure_followed visits new had has are = record {
      more = are.more;
      put = are.put;
      gained = are.gained;
      listed = are.listed;
      suffices = record {
        in_range = are.suffices.in_range;
        owes = λ cells sub all. parts_watched P fall row floor cells (length row) node base fits (are.suffices.owes cells sub all);
      };
    }

  -- Places are followed one after the other.
  pub none_followed : (visits : List Ref) (listed : List ℕ) → AreFollowed P row floor begun [] visits visits listed listed
  none_followed visits listed = record {
    more = [];
    put = sym (append-nil visits);
    gained = [];
    listed = sym (append-nil listed);
    suffices = nothing_put listed (λ cells. All (IsWatched P row floor cells) []) (λ cells sub. All-nil (IsWatched P row floor cells));
  }

  pub one_followed : (places : List Ref) (at : Ref) (old mid new : List Ref) (had hid has : List ℕ) → begun ≤ length hid
      → AreFollowed P row floor begun places old mid had hid → IsFollowed P row floor begun at mid new hid has
      → AreFollowed P row floor begun (places ++ at ∷ []) old new had has
  one_followed places at old mid new had hid has low are step = record {
    more = are.more ++ step.more;
    put = step.put ∙ ap (λ (rs : List Ref). rs ++ step.more) are.put ∙ append_assoc old are.more step.more;
    gained = are.gained ++ step.gained;
    listed = step.listed ∙ ap (λ (xs : List ℕ). xs ++ step.gained) are.listed ∙ append_assoc had are.gained step.gained;
    suffices = record {
      in_range = All-append (IsInRange P (length row)) are.more step.more are.suffices.in_range step.suffices.in_range;
      owes = λ cells sub all.
          All-push (IsWatched P row floor cells) places at
          (are.suffices.owes cells (λ cell c. sub cell
          (subst (λ (l : List ℕ). Contains (drop begun l) cell) (sym step.listed) (stays_listed begun hid step.gained cell c low)))
          (all_left (IsWatched P row floor cells) are.more step.more all))
          (step.suffices.owes cells sub (all_right (IsWatched P row floor cells) are.more step.more all));
    };
  }

  module _ (goal : List ℕ → Type 0) where
    -- Once a place is followed, what is on the list of visits suffices for the goal.
    pub suffice_with : (at : Ref) (old new : List Ref) (had has : List ℕ) → begun ≤ length had
        → Suffice P row floor begun had old (λ cells. IsWatched P row floor cells at → goal cells)
        → IsFollowed P row floor begun at old new had has → Suffice P row floor begun has new goal
    suffice_with at old new had has low before step =
        subst (λ (l : List ℕ). Suffice P row floor begun l new goal) (sym step.listed)
        (subst (λ (rs : List Ref). Suffice P row floor begun (had ++ step.gained) rs goal) (sym step.put) (record {
          in_range = All-append (IsInRange P (length row)) old step.more before.in_range step.suffices.in_range;
          owes = λ cells sub all.
              before.owes cells (λ cell c. sub cell (stays_listed begun had step.gained cell c low))
              (all_left (IsWatched P row floor cells) old step.more all)
              (step.suffices.owes cells (λ cell c. sub cell (subst (λ (l : List ℕ). Contains (drop begun l) cell) step.listed c))
              (all_right (IsWatched P row floor cells) old step.more all));
        }))

    -- one is taken from the list,
    pub suffice_taken : (next : Ref) (old new : List Ref) (listed : List ℕ)
        → Suffice P row floor begun listed old goal → old ≡ new ++ next ∷ []
        → IsInRange P (length row) next × Suffice P row floor begun listed new (λ cells. IsWatched P row floor cells next → goal cells)
    suffice_taken next old new listed given is =
        let now = subst (λ (rs : List Ref). Suffice P row floor begun listed rs goal) is given in (
          All-contains (IsInRange P (length row)) (new ++ next ∷ []) next now.in_range (Contains-push new next),
          record {
            in_range = all_left (IsInRange P (length row)) new (next ∷ []) now.in_range;
            owes = λ cells sub all watched. now.owes cells sub (All-push (IsWatched P row floor cells) new next all watched);
          },
        )

    -- and where nothing is on it, all was gathered.
    pub suffice_nothing : (visits : List Ref) (listed : List ℕ) → Suffice P row floor begun listed visits goal → visits ≡ []
        → goal (drop begun listed)
    suffice_nothing visits listed given none =
        given.owes (drop begun listed) (λ cell c. c)
        (subst (All (IsWatched P row floor (drop begun listed))) (sym none) (All-nil (IsWatched P row floor (drop begun listed))))

-- So what a term holds is what the list gained.
pub root_watched : (P : NamedProgram) (row : List Ref) (floor begun : ℕ) (had gained out : List ℕ) (root : Ref) (visits : List Ref)
    → out ≡ had ++ gained → begun ≡ length had → visits ≡ root ∷ [] → All (IsWatched P row floor (drop begun out)) visits
    → IsWatched P row floor gained root
root_watched P row floor begun had gained out root visits longer start is all =
    let behind : drop begun out ≡ gained =
    ap (drop begun) longer ∙ ap (λ (n : ℕ). drop n (had ++ gained)) start ∙ drop-append_seam had gained in
    subst (λ (cells : List ℕ). IsWatched P row floor cells root) behind
    (All-head (IsWatched P row floor (drop begun out)) root [] (subst (All (IsWatched P row floor (drop begun out))) is all))
