-- Where a worker's own entries stand in the journal, and what it had seen by then.
use Rattle.std.proofs.Common.{ℕ, ◌+◌, ◌≡◌, ◌<◌, ◌≤◌, inl, inr, nat_eq, List, [], ◌∷◌, ◌++◌, map, filter, length}
use Rattle.std.proofs.Common.{refl, sym, ap, subst, ◌∙◌, append_assoc, arith, Contains, eq-eqb, flat_map}
use Rattle.std.proofs.lemmas.List.{append_cancel_left, length-append}
use Rattle.std.proofs.lemmas.List.Concat.{flat_map-append}
use Rattle.std.proofs.lemmas.List.Elements.{All-contains, Contains-append_cases, filter-append}
use Rattle.and_model.specs.Store.{JournalEntry, Setting, Frame, Known, Pass, Made, Fits, sets, gives, fails, hangs}
use Rattle.and_model.specs.Store.{set_in, settings_of, frames_of, fails_of, own_of}
use Rattle.and_model.specs.Store.{entries_by, AreDistinct}
use Rattle.and_model.specs.declared.reference.Ref.{Ref}
use Rattle.and_store_laws.proofs.Going.{made_frames, made_fails}
use Rattle.and_store_laws.proofs.Journal.{made_settings, made_by}
use Rattle.and_store_laws.proofs.Lists.{contains_cases, flat_contains}
use Rattle.and_store_laws.proofs.Lists.{contains_first, contains_none, contains_map, map_contains, contains_there, contains_split}
use Rattle.and_store_laws.proofs.Lists.{distinct_apart, distinct_back, map_append}
use Rattle.and_store_laws.specs.Steps.{entry}
use Rattle.and_branch_laws.proofs.Lists.{filter_contains}
use Rattle.and_handed.specs.Handed.{settings_from}
use Rattle.and_closing_laws.proofs.Entries.{made_sets, setting_entry, entry_setting}
use Rattle.and_closing_laws.proofs.Lists.{where_stands, one_place}
use Rattle.and_closing_laws.proofs.Told.{in_filter}

-- an entry is its pass and what was made
pub entry_is : (e : JournalEntry) (n : ℕ) (m : Made) → e.pass ≡ n → e.made ≡ m → e ≡ entry n m
entry_is e n m pass made = ap (λ n. entry n e.made) pass ∙ ap (λ m. entry n m) made

-- Of two lists with which one list begins the shorter begins the longer.
pub shorter_begins : {X : Type 0} (a b c d : List X) → a ++ b ≡ c ++ d → length a ≤ length c → (m : List X) × (c ≡ a ++ m)
shorter_begins [] b c d is short = (c, refl)
shorter_begins (x ∷ a) b [] d is short = absurd (omega arith)
shorter_begins (x ∷ a) b (y ∷ c) d is short =
    let head : x ≡ y = cc in
    let tail : a ++ b ≡ c ++ d = cc in
    let (m, rest) = shorter_begins a b c d tail (omega arith) in
    (m, ap (λ l. y ∷ l) rest ∙ ap (λ z. z ∷ (a ++ m)) (sym head))

-- No entry of a pass is among those that are not its own.
pub none_own : (p : Pass) (since : List JournalEntry) (e : JournalEntry) → entries_by p since ≡ [] → Contains since e → e.pass ≡ p.number → ⊥
none_own p since e none among own =
    contains_none e (subst (λ l. Contains l e) none (in_filter (λ (e : JournalEntry). nat_eq e.pass p.number) since e among (eq-eqb e.pass p.number own)))

-- ---- Settings

-- A pass has seen its own settings.
pub own_setting_seen : (first : List Ref) (mark : ℕ) (journal early late : List JournalEntry) (p : Pass) (e : JournalEntry) (s : Setting)
    → Fits first mark journal p → AreDistinct (map (λ (s : Setting). s.place) (settings_from first journal)) → journal ≡ early ++ e ∷ late
    → e.pass ≡ p.number → e.made ≡ sets s → (after : List JournalEntry) × (p.seen ≡ early ++ e ∷ after)
own_setting_seen first mark journal early late p e s fits once cut own made =
    let place : Setting → ℕ = λ (s : Setting). s.place in
    let here : Contains journal e = subst (λ l. Contains l e) (sym cut) (contains_there early late e) in
    let mine : Contains p.mine s = subst (λ l. Contains l s) (sym fits.settings)
    (subst (λ n. Contains (settings_of (filter (λ (e : JournalEntry). nat_eq e.pass n) journal)) s) own
    (made_by made_settings journal e s here (made_sets e s made))) in
    let owned : Contains (own_of p.known) s = subst (λ l. Contains l s) fits.own mine in
    let (k, kept, is) = map_contains (λ (k : Known). k.setting) s (filter (λ (k : Known). k.is_own) p.known) owned in
    let known : Contains (settings_from first p.seen) s = subst (Contains (settings_from first p.seen)) is
    (All-contains (λ (k : Known). Contains (set_in first ++ settings_of p.seen) k.setting) p.known k fits.known
    (filter_contains (λ (k : Known). k.is_own) p.known k kept)) in
    let parted : AreDistinct (map place (set_in first) ++ map place (settings_of journal)) =
    subst AreDistinct (map_append place (set_in first) (settings_of journal)) once in
    let (rest, begins) = fits.seen in
    elim (Contains-append_cases (set_in first) (settings_of p.seen) s known) [
      | inl old ↦ absurd (distinct_apart (map place (set_in first)) (map place (settings_of journal)) s.place parted
          (contains_map place s (set_in first) old) (contains_map place s (settings_of journal) (entry_setting journal e s here made)))
      | inr new ↦
          let (d, there, sets_it) = setting_entry p.seen s new in
          let (before, after, stands) = contains_split d p.seen there in
          let other : journal ≡ before ++ d ∷ (after ++ rest) = begins ∙ ap (λ l. l ++ rest) stands ∙ append_assoc before (d ∷ after) rest in
          let same : early ≡ before = one_place made_settings place journal early late before (after ++ rest) e d s s
          (distinct_back (map place (set_in first)) (map place (settings_of journal)) parted) cut other (made_sets e s made) (made_sets d s sets_it) refl in
          let tails : e ∷ late ≡ d ∷ (after ++ rest) = append_cancel_left before (e ∷ late) (d ∷ (after ++ rest))
          (ap (λ l. l ++ e ∷ late) (sym same) ∙ sym cut ∙ other) in
          let head : e ≡ d = cc in
          (after, stands ∙ ap (λ l. l ++ d ∷ after) (sym same) ∙ ap (λ z. early ++ z ∷ after) (sym head))
    ]

-- ---- Frames

gives_contains : (m : Made) (f : Frame) → m ≡ gives f → Contains (elim m [ sets s ↦ [] | gives f ↦ f ∷ [] | fails ↦ [] | hangs g ↦ [] ]) f
gives_contains m f is =
    subst (λ m. Contains (elim m [ sets s ↦ [] | gives f ↦ f ∷ [] | fails ↦ [] | hangs g ↦ [] ]) f) (sym is) (contains_first f [])

pub made_gives : (e : JournalEntry) (f : Frame) → e.made ≡ gives f → Contains (made_frames e) f
made_gives e f is = gives_contains e.made f is

pub entry_gives : (m : Made) (f : Frame) → Contains (elim m [ sets s ↦ [] | gives f ↦ f ∷ [] | fails ↦ [] | hangs g ↦ [] ]) f → m ≡ gives f
entry_gives (sets s) f among = absurd (contains_none f among)
entry_gives (gives x) f among = elim (contains_cases x f [] among) [ inl same ↦ ap (λ z. gives z) (sym same) | inr none ↦ absurd (contains_none f none) ]
entry_gives fails f among = absurd (contains_none f among)
entry_gives (hangs g) f among = absurd (contains_none f among)

-- A frame of a journal is that of an entry.
pub frame_entry : (js : List JournalEntry) (f : Frame) → Contains (frames_of js) f → (e : JournalEntry) × Contains js e × (e.made ≡ gives f)
frame_entry js f among = let (e, there, is) = flat_contains made_frames f js among in (e, there, entry_gives e.made f is)

-- ---- Fails

fails_contains : (m : Made) → m ≡ fails → Contains (elim m [ sets s ↦ [] | gives f ↦ [] | fails ↦ tt {0} ∷ [] | hangs g ↦ [] ]) (tt {0})
fails_contains m is =
    subst (λ m. Contains (elim m [ sets s ↦ [] | gives f ↦ [] | fails ↦ tt {0} ∷ [] | hangs g ↦ [] ]) (tt {0})) (sym is) (contains_first (tt {0}) [])

pub some_fail : (p : Pass) (xs : List JournalEntry) (e : JournalEntry) → Contains xs e → e.pass ≡ p.number → e.made ≡ fails
    → 0 < length (fails_of (entries_by p xs))
some_fail p xs e among own made =
    let one : Contains (flat_map made_fails (entries_by p xs)) (tt {0}) =
    subst (λ n. Contains (flat_map made_fails (filter (λ (e : JournalEntry). nat_eq e.pass n) xs)) tt) own
    (made_by made_fails xs e (tt {0}) among (fails_contains e.made made)) in
    let low = one.1 in
    omega arith

two_fails : (p : Pass) (xs ys : List JournalEntry) (e d : JournalEntry) → Contains xs e → Contains ys d → e.pass ≡ p.number → d.pass ≡ p.number
    → e.made ≡ fails → d.made ≡ fails → 1 < length (fails_of (entries_by p (xs ++ ys)))
two_fails p xs ys e d one other own owned fail failed =
    let joined : fails_of (entries_by p (xs ++ ys)) ≡ fails_of (entries_by p xs) ++ fails_of (entries_by p ys) =
    ap (flat_map made_fails) (filter-append (λ (e : JournalEntry). nat_eq e.pass p.number) xs ys)
    ∙ flat_map-append made_fails (entries_by p xs) (entries_by p ys) in
    let long : length (fails_of (entries_by p (xs ++ ys))) ≡ length (fails_of (entries_by p xs)) + length (fails_of (entries_by p ys)) =
    ap length joined ∙ length-append (fails_of (entries_by p xs)) (fails_of (entries_by p ys)) in
    let first = some_fail p xs e one own fail in
    let second = some_fail p ys d other owned failed in
    omega arith

-- A pass that failed once has its entry at one place.
pub one_fail : (p : Pass) (journal a b c d : List JournalEntry) (x y : JournalEntry) → length (fails_of (entries_by p journal)) ≡ 1
    → journal ≡ a ++ x ∷ b → journal ≡ c ++ y ∷ d → x.pass ≡ p.number → y.pass ≡ p.number → x.made ≡ fails → y.made ≡ fails → a ≡ c
one_fail p journal a b c d x y once one_is other_is own owned fail failed =
    elim (where_stands a x b c y d (sym one_is ∙ other_is)) [
      | inl same ↦ same.0
      | inr r ↦ elim r [
        | inl first ↦
            let whole : journal ≡ (a ++ x ∷ first.0) ++ y ∷ d = other_is ∙ ap (λ l. l ++ y ∷ d) first.1 in
            let many = two_fails p (a ++ x ∷ first.0) (y ∷ d) x y (contains_there a first.0 x) (contains_first y d) own owned fail failed in
            let same = ap (λ l. length (fails_of (entries_by p l))) whole in
            absurd (omega arith)
        | inr last ↦
            let whole : journal ≡ (c ++ y ∷ last.0) ++ x ∷ b = one_is ∙ ap (λ l. l ++ x ∷ b) last.1 in
            let many = two_fails p (c ++ y ∷ last.0) (x ∷ b) y x (contains_there c last.0 y) (contains_first x b) owned own failed fail in
            let same = ap (λ l. length (fails_of (entries_by p l))) whole in
            absurd (omega arith)
      ]
    ]
