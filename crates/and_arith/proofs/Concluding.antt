-- What a walk over an expression begins with, and what its answers show.
use Rattle.std.proofs.Common.{ℕ, ℤ, ◌≡◌, ◌≢◌, ◌<◌, ◌≤◌, ◌+◌, ◌⊎◌, List, [], ◌∷◌, ◌++◌, map, Option, Some, None, Result, Ok, Err, false, refl, ap, sym, ◌∙◌}
use Rattle.std.proofs.Common.{subst, arith, inl, inr}
use Rattle.std.specs.Prelude.{Contains, OnOk}
use Rattle.std.specs.Result.{is_err}
use Rattle.std.proofs.lemmas.List.Elements.{All-nil, All-contains}
use Rattle.and_laws.proofs.Pairwise.{all_pairs_none, all_pairs_first, all_pairs_rest}
use Rattle.and_model.specs.Terms.{Path, Term, variables_of}
use Rattle.and_model.specs.Store.{Setting, Known, AreDistinct}
use Rattle.and_model.specs.declared.numbers.NodeNo.{NodeNo}
use Rattle.and_model.specs.declared.reference.Ref.{Ref}
use Rattle.and_model.specs.declared.reference.Ref.TheVariants.{Cell, Node, Number, Half}
use Rattle.and_program.specs.Skeletons.{AllFall}
use Rattle.and_cells.specs.Ranges.{NamedProgram, IsInRange}
use Rattle.and_cells.specs.Seen.{Seen, Knows, IsAmong, LeadsTo, here, onward, FoundFree, Misses, IsWrittenIfNumber, IsCoherent}
use Rattle.and_cells.proofs.Chains.{reads_nothing, reads_more}
use Rattle.and_cells.proofs.Among.{among_none, among_first, among_cases, among_map, map_among}
use Rattle.and_value_laws.specs.Values.{Reaches, whole, KnownAs, HasValue, IsGround, LacksValue, IsFirstFree}
use Rattle.and_arith.specs.Sizes.{size_of, parts_with, AreOpened, AreAllOpened, IsSettledAnswer, Spends}
use Rattle.and_arith.specs.Taken.{Listed, cells_of}
use Rattle.and_arith.specs.Turns.{Stand, IsReady, Stops, PutsOff, Finishes}
use Rattle.and_arith.specs.declared.walk.Task.{Task}
use Rattle.and_arith.specs.declared.walk.Task.TheVariants.{Enter, Keep}
use Rattle.and_arith.specs.declared.values.Valued.{Valued}
use Rattle.and_arith.specs.declared.values.Valued.TheVariants as valued
use Rattle.and_value_laws.proofs.KnownTerms.{IsOnce, Extends, cell_cases}
use Rattle.and_arith.proofs.Yielding.{Yields, leads_same}
use Rattle.and_arith.proofs.Owing.{Ahead, begins}
use Rattle.and_arith.proofs.Covering.{Passed, on_chain, on_pair, on_half, on_literal, on_taken, Covered, waiting, covered_cell, covered_pair, all_covered}
use Rattle.and_arith.proofs.Covering.{reaches_on}
use Rattle.and_arith.proofs.Counting.{parts_left, size_of_some, literal_size}
use Rattle.and_arith.proofs.Standing.{Stands, stands_later, entry_of_cell}
use Rattle.and_arith.proofs.Turning.{Goes}

-- No place is known twice where nothing is listed twice.
once_listed : (known : List Known) → AreDistinct (map (λ (k : Known). k.setting.place) known) → (place : ℕ) (q r : Ref)
    → Contains (map (λ (k : Known). k.setting) known) (record { place = place; value = q })
    → Contains (map (λ (k : Known). k.setting) known) (record { place = place; value = r }) → q ≡ r
once_listed [] distinct place q r a b = absurd (among_none (record { place = place; value = q }) a)
once_listed (k ∷ known) distinct place q r a b =
    elim (among_cases k.setting (record { place = place; value = q }) (map (λ (k : Known). k.setting) known) a) [
      | inl e ↦ elim (among_cases k.setting (record { place = place; value = r }) (map (λ (k : Known). k.setting) known) b) [
        | inl f ↦ ap (λ (s : Setting). s.value) (e ∙ sym f)
        | inr later ↦ absurd (apart later (ap (λ (s : Setting). s.place) (sym e)))
      ]
      | inr first ↦ elim (among_cases k.setting (record { place = place; value = r }) (map (λ (k : Known). k.setting) known) b) [
        | inl f ↦ absurd (apart first (ap (λ (s : Setting). s.place) (sym f)))
        | inr later ↦ once_listed known (all_pairs_rest (λ n m. n ≢ m) k.setting.place (map (λ (k : Known). k.setting.place) known) distinct)
            place q r first later
      ]
    ]
  where
    apart : {x : Ref} → Contains (map (λ (k : Known). k.setting) known) (record { place = place; value = x }) → k.setting.place ≡ place → ⊥
    apart {x} c e =
        let w = map_among (λ (k : Known). k.setting) (record { place = place; value = x }) known c in
        let among : Contains (map (λ (k : Known). k.setting.place) known) w.0.setting.place = among_map (λ (k : Known). k.setting.place) w.0 known w.1 in
        All-contains (λ m. k.setting.place ≢ m) (map (λ (k : Known). k.setting.place) known) w.0.setting.place
        (all_pairs_first (λ n m. n ≢ m) k.setting.place (map (λ (k : Known). k.setting.place) known) distinct) among
        (e ∙ sym (ap (λ (s : Setting). s.place) w.2))

pub coherent_once : (s : Seen) → IsCoherent s → IsOnce s
coherent_once s coherent place q r a b = at s.told a b
  where
    at : (told : Option (List Ref)) → IsAmong told s.known place q → IsAmong told s.known place r → q ≡ r
    at None a b = once_listed s.known coherent.once place q r a b
    at (Some row) a b = sym a.0 ∙ b.0

-- a cell that a look missed is not known to be set after it
missed_unknown : (shared cell : ℕ) (old new : Seen) → Misses shared cell old new → (r : Ref) → Knows new cell r → ⊥
missed_unknown shared cell old new m r knows =
    m.not_known r (subst (λ t. IsAmong t old.known cell r) m.told (subst (λ k. IsAmong new.told k cell r) m.known knows))

-- the fuel that is gone is what was come to of the parts
pub record Paid (P : NamedProgram) (root : Ref) (settings : List Setting) (began : ℕ) (tasks : List Task) (fuel : ℕ) : Type 0 where
  pub spent : ℕ
  pub began_with : began ≡ fuel + spent
  pub balance : spent + parts_left P tasks ≡ parts_with P root settings

module _ (P : NamedProgram) (fall : AllFall 0 P.skeleton.nodes) (first : Seen) (root : Ref) where
  -- At first the expression is to be entered.
  pub begins_so : IsOnce first → IsInRange P first.words root → IsWrittenIfNumber first root → Stands P first root [] first (Enter root ∷ []) [] []
  begins_so once fits written = record {
    reads = reads_nothing first;
    once = once;
    in_range = λ r c. (subst (IsInRange P first.words) (own r c) fits, subst (IsWrittenIfNumber first) (own r c) written);
    kept = λ cell c. elim (among_cases (Enter root) (Keep cell) [] c) [ inl e ↦ absurd (cc) | inr later ↦ absurd (among_none (Keep cell) later) ];
    counted = refl;
    led = λ r c. whole r (sym (own r c));
    cells = refl;
    opened = record {
      distinct = all_pairs_none (λ n m. n ≢ m);
      reached = All-nil (λ (k : Setting). Reaches P first root (Cell k.place) × Knows first k.place k.value);
    };
    root_covered = waiting root (among_first (Enter root) []);
    covered = λ k c. absurd (among_none k c);
    later = λ t more. begins P t more.once root;
  }
    where
      own : (r : Ref) → Contains (Enter root ∷ []) (Enter r) → root ≡ r
      own r c = elim (among_cases (Enter root) (Enter r) [] c) [ inl e ↦ cc | inr later ↦ absurd (among_none (Enter r) later) ]

  pub paid_first : (began : ℕ) → Paid P root [] began (Enter root ∷ []) began
  paid_first began = record { spent = 0; began_with = omega arith; balance = omega arith }

  -- The same of a work list with the expression alone.
  pub begins_with : (began : ℕ) (tasks : List Task) (values : List (Option ℤ)) (taken : Listed) → IsOnce first → IsInRange P first.words root
      → IsWrittenIfNumber first root
      → tasks ≡ Enter root ∷ [] → values ≡ [] → taken ≡ [] → Stands P first root [] first tasks values taken × Paid P root [] began tasks began
  begins_with began tasks values taken once fits written a b c = (
    subst (λ x. Stands P first root [] first x values taken) (sym a)
        (subst (λ x. Stands P first root [] first (Enter root ∷ []) x taken) (sym b)
        (subst (λ x. Stands P first root [] first (Enter root ∷ []) [] x) (sym c) (begins_so once fits written))),
    subst (λ x. Paid P root [] began x began) (sym a) (paid_first began),
  )

  -- A turn is paid.
  pub paid_on : (settings : List Setting) (began : ℕ) (old new : Stand) → (g : Goes P first root settings old new)
      → Paid P root settings began old.tasks old.fuel → Paid P root g.more began new.tasks new.fuel
  paid_on settings began old new g p = record {
    spent = p.spent + g.took;
    began_with = let f = g.fuel in let b = p.began_with in omega arith;
    balance = let a = g.balance in let b = p.balance in omega arith;
  }

  -- what stands can take its next turn
  pub is_ready : (settings : List Setting) (now : Seen) (tasks : List Task) (values : List (Option ℤ)) (taken : Listed) (fuel : ℕ)
      → Stands P first root settings now tasks values taken
      → IsReady P (record { seen = now; tasks = tasks; values = values; taken = taken; fuel = fuel })
  is_ready settings now tasks values taken fuel h = record {
    enters = h.in_range;
    keeps = λ cell c. entry_of_cell taken cell (h.kept cell c);
    counted = h.counted;
  }

  module _ (settings : List Setting) (now : Seen) (values : List (Option ℤ)) (taken : Listed) (h : Stands P first root settings now [] values taken) where
    same_seen : Extends now now
    same_seen = record { knows = λ p q k. k; once = h.once }

    below : (cell : ℕ) (node : NodeNo) (base : ℕ) → Contains (cells_of taken) cell → Knows now cell (Node node base)
        → Covered P now [] (cells_of taken) (Node node base)
    below cell node base among knows =
        let w = map_among (λ (k : Setting). k.place) cell settings (subst (λ xs. Contains xs cell) (sym h.cells) among) in
        let both = All-contains (λ (k : Setting). Reaches P now root (Cell k.place) × Knows now k.place k.value) settings w.0 h.opened.reached w.1 in
        let same : w.0.value ≡ Node node base = h.once cell w.0.value (Node node base) (subst (λ c. Knows now c w.0.value) w.2 both.1) knows in
        subst (Covered P now [] (cells_of taken)) same (h.covered w.0 w.1)

    covers : (r : Ref) → Reaches P now root r → Covered P now [] (cells_of taken) r
    covers r at = all_covered P now (cells_of taken) root h.once below h.root_covered r at

    known_end : (cell : ℕ) → Passed P now (cells_of taken) cell → (end : Ref) × LeadsTo now (Cell cell) end × ((c : ℕ) → end ≢ Cell c)
    known_end cell (on_chain c next k rest) = let w = known_end next rest in (w.0, onward c (Cell next) w.0 k w.1, w.2)
    known_end cell (on_pair c pair high low k a b) = (Number pair, onward c (Number pair) (Number pair) k (here (Number pair)), (λ c e. cc))
    known_end cell (on_half c bits k) = (Half bits, onward c (Half bits) (Half bits) k (here (Half bits)), (λ c e. cc))
    known_end cell (on_literal c node base z k at) = (Node node base, onward c (Node node base) (Node node base) k (here (Node node base)), (λ c e. cc))
    known_end cell (on_taken c node base k among) = (Node node base, onward c (Node node base) (Node node base) k (here (Node node base)), (λ c e. cc))

    ground : IsGround P now root
    ground = record {
      cells = λ cell at. known_end cell (covered_cell P now (cells_of taken) cell (covers (Cell cell) at));
      pairs = λ pair at. covered_pair P now (cells_of taken) pair (covers (Number pair) at);
    }

    owed : (v : Option ℤ) (others : List (Option ℤ)) → values ≡ v ∷ others → Yields P now root v
    owed v others e =
        let w : (x : Option ℤ) × (values ≡ x ∷ []) × Yields P now root x = (h.later now same_seen).owes in
        let same : w.0 ≡ v = let both = sym w.1 ∙ e in cc in
        subst (Yields P now root) same w.2

    -- Where nothing is left to do, the last value is the expression's.
    pub has_value : (z : ℤ) (others : List (Option ℤ)) → values ≡ Some z ∷ others → HasValue P now root z
    has_value z others e =
        let y = owed (Some z) others e in
        let t = y.has_term z refl in
        (t.0, t.1, (y.of_term t.0 t.1).0)

    pub lacks_value : (others : List (Option ℤ)) → values ≡ None ∷ others → LacksValue P now root
    lacks_value others e = (ground, λ t known. ((owed None others e).of_term t known).0)

    opened_or_one : (cell : ℕ) (r : Ref) → Passed P now (cells_of taken) cell → Knows now cell r
        → Contains settings (record { place = cell; value = r }) ⊎ (size_of P r ≡ 1)
    opened_or_one cell r (on_chain c next k rest) knows = inr (ap (size_of P) (h.once c r (Cell next) knows k))
    opened_or_one cell r (on_pair c pair high low k a b) knows = inr (ap (size_of P) (h.once c r (Number pair) knows k))
    opened_or_one cell r (on_half c bits k) knows = inr (ap (size_of P) (h.once c r (Half bits) knows k))
    opened_or_one cell r (on_literal c node base z k at) knows = inr (ap (size_of P) (h.once c r (Node node base) knows k) ∙ literal_size P node base z fall at)
    opened_or_one cell r (on_taken c node base k among) knows =
        let w = map_among (λ (k : Setting). k.place) c settings (subst (λ xs. Contains xs c) (sym h.cells) among) in
        let both = All-contains (λ (k : Setting). Reaches P now root (Cell k.place) × Knows now k.place k.value) settings w.0 h.opened.reached w.1 in
        let same : w.0.value ≡ r = h.once c w.0.value r (subst (λ x. Knows now x w.0.value) w.2 both.1) knows in
        let is : w.0 ≡ record { place = c; value = r } = ap (λ (x : ℕ). record { place = x; value = w.0.value }) w.2
        ∙ ap (λ (x : Ref). record { place = c; value = x }) same in
        inl (subst (Contains settings) is w.1)

    -- And all parts were paid.
    pub all_paid : (began fuel : ℕ) → Paid P root settings began [] fuel
        → (ks : List Setting) × AreOpened P now root ks × AreAllOpened P now root ks × (began ≡ fuel + parts_with P root ks)
    all_paid began fuel p = (
      settings,
      h.opened,
      (λ cell r at knows. opened_or_one cell r (covered_cell P now (cells_of taken) cell (covers (Cell cell) at)) knows),
      let b = p.balance in let f = p.began_with in omega arith,
    )

  -- The cell that the next part leads to, and that was found free, is the first variable of the expression.
  module _ (settings : List Setting) (began : ℕ) (old new : Stand) (shared cell : ℕ) (once : IsOnce new.seen) (s : Stops shared cell old new)
      (h : Stands P first root settings old.seen old.tasks old.values old.taken) where
    stood : Stands P first root settings new.seen (Enter s.part ∷ s.rest) old.values old.taken
    stood = stands_later P fall first root settings old.seen new.seen (Enter s.part ∷ s.rest) old.values old.taken s.reads once
        (subst (λ x. Stands P first root settings old.seen x old.values old.taken) s.next h)

    pub waits_reached : Reaches P new.seen root (Cell cell)
    waits_reached = reaches_on P new.seen root s.part (Cell cell) s.leads (stood.led s.part (among_first (Enter s.part) s.rest))

    pub waits_free : FoundFree shared cell first new.seen
    waits_free = record { before = s.free.before; reads = reads_more first old.seen s.free.before h.reads s.free.reads; misses = s.free.misses }

    pub waits_first : IsFirstFree P new.seen root cell
    waits_first t known = first_of ((stood.later new.seen (record { knows = λ p q k. k; once = once })).ahead t known)
      where
        own : (u : Term) → KnownAs P new.seen s.part u → variables_of u ≡ ([], cell) ∷ []
        own u of_part = elim (cell_cases P new.seen cell u ((leads_same P new.seen once s.part (Cell cell) s.leads).onward u of_part)) [
          | inl free ↦ ap variables_of free.1
          | inr set ↦ absurd (missed_unknown shared cell s.free.before new.seen s.free.misses set.0 set.1)
        ]

        first_of : Ahead P new.seen once (Enter s.part ∷ s.rest) (variables_of t) → (others : List (Path × ℕ)) × (variables_of t ≡ ([], cell) ∷ others)
        first_of (u, ys, of_part, is, ahead) = (ys, is ∙ ap (λ xs. xs ++ ys) (own u of_part))

    pub waits_paid : Paid P root settings began old.tasks old.fuel
        → (new.fuel < began) × ((ks : List Setting) × AreOpened P new.seen root ks × (began ≤ new.fuel + parts_with P root ks))
    waits_paid p =
        let b = p.balance in
        let f = p.began_with in
        let one = s.fuel in
        let some = size_of_some P s.part in
        let left : parts_left P old.tasks ≡ size_of P s.part + parts_left P s.rest = ap (parts_left P) s.next in
        (omega arith, (settings, stood.opened, omega arith))

  -- Where the fuel is used up with a part left, there are more parts than there was fuel.
  pub put_off_paid : (settings : List Setting) (began : ℕ) (old new : Stand) → PutsOff old new
      → Stands P first root settings old.seen old.tasks old.values old.taken → Paid P root settings began old.tasks old.fuel
      → (new.fuel ≡ 0) × ((ks : List Setting) × AreOpened P new.seen root ks × (began < parts_with P root ks))
  put_off_paid settings began old new off h p =
      let b = p.balance in
      let f = p.began_with in
      let none = off.fuel in
      let some = size_of_some P off.part in
      let left : parts_left P old.tasks ≡ size_of P off.part + parts_left P off.rest = ap (parts_left P) off.next in
      (none.1, (settings, subst (λ x. AreOpened P x root settings) (sym off.seen) h.opened, omega arith))

  -- The same of a walk that finished.
  module _ (settings : List Setting) (old new : Stand) (v : Option ℤ) (f : Finishes v old new)
      (h : Stands P first root settings old.seen old.tasks old.values old.taken) where
    done : Stands P first root settings new.seen [] old.values old.taken
    done = subst (λ x. Stands P first root settings x [] old.values old.taken) (sym f.seen)
        (subst (λ x. Stands P first root settings old.seen x old.values old.taken) f.done h)

    pub finished_value : (z : ℤ) → v ≡ Some z → HasValue P new.seen root z
    finished_value z e = has_value settings new.seen old.values old.taken done z f.others (f.last ∙ ap (λ x. x ∷ f.others) e)

    pub finished_lacks : v ≡ None → LacksValue P new.seen root
    finished_lacks e = lacks_value settings new.seen old.values old.taken done f.others (f.last ∙ ap (λ x. x ∷ f.others) e)

    pub finished_paid : (began : ℕ) → Paid P root settings began old.tasks old.fuel
        → (ks : List Setting) × AreOpened P new.seen root ks × AreAllOpened P new.seen root ks × (began ≡ new.fuel + parts_with P root ks)
    finished_paid began p =
        all_paid settings new.seen old.values old.taken done began new.fuel
        (subst (λ n. Paid P root settings began [] n) (sym f.fuel) (subst (λ x. Paid P root settings began x old.fuel) f.done p))

-- an answer takes what it may of the fuel, where each kind of answer does
pub spends_by : (P : NamedProgram) (now : Seen) (root : Ref) (began rest : ℕ) (answer : Valued)
    → ((z : ℤ) → answer ≡ valued.Number z → (ks : List Setting) × AreOpened P now root ks × AreAllOpened P now root ks × (began ≡ rest + parts_with P root ks))
    → (answer ≡ valued.NoValue → (ks : List Setting) × AreOpened P now root ks × AreAllOpened P now root ks × (began ≡ rest + parts_with P root ks))
    → ((cell : ℕ) → answer ≡ valued.Waits cell → (rest < began) × ((ks : List Setting) × AreOpened P now root ks × (began ≤ rest + parts_with P root ks)))
    → (answer ≡ valued.PutOff → (rest ≡ 0) × ((ks : List Setting) × AreOpened P now root ks × (began < parts_with P root ks)))
    → Spends P now root began rest answer
spends_by P now root began rest answer number none waits off = record { whole = whole_of answer refl; waits = waits; put_off = off }
  where
    whole_of : (a : Valued) → answer ≡ a → IsSettledAnswer a
        → (ks : List Setting) × AreOpened P now root ks × AreAllOpened P now root ks × (began ≡ rest + parts_with P root ks)
    whole_of (valued.Number z) e is = number z e
    whole_of valued.NoValue e is = none e
    whole_of (valued.Waits cell) e is = absurd is
    whole_of valued.PutOff e is = absurd is
    whole_of valued.Memory e is = absurd is

-- what a success that was no error says
pub begun : {T E : Type 0} (r : Result T E) (A : Type 0) → is_err r ≡ false → OnOk r A → A
begun (Ok x) A e a = a
begun (Err x) A e a = absurd (cc)
