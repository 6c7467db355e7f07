-- What all teams found together: the parts of all of them, one behind the other.
use Rattle.std.proofs.Common.{ℕ, suc, ◌+◌, ◌-◌, ◌^◌, ◌≡◌, ◌≢◌, ◌<◌, ◌≤◌, min, Bool, false, ◌||◌, List, [], ◌∷◌, ◌++◌, map, reverse, length}
use Rattle.std.proofs.Common.{length-append, append-nil, append_assoc, slice_index_or, Contains, refl, sym, ap, subst, ◌∙◌, arith, All, inl, inr}
use Rattle.std.specs.Prelude.{Option, Some, None}
use Rattle.std.specs.Option.{option_or}
use Rattle.std.proofs.lemmas.Bool.{cases_lt}
use Rattle.std.proofs.Math.Nat.{min-eq_left, min-eq_right}
use Rattle.std.proofs.lemmas.List.{length-reverse}
use Rattle.std.proofs.lemmas.List.Elements.{All-push, All-pop, All-weaker, All-contains, Contains-push}
use Rattle.std.proofs.lemmas.List.Quantifiers.{all_pairs_push}
use mathlib.Core.List.{reverse-cons}
use Rattle.and_model.specs.Programs.{Program}
use Rattle.and_model.specs.Store.{AreDistinct}
use Rattle.and_model.specs.declared.goal
use Rattle.and_laws.proofs.Pairwise.{all_none, all_pairs_none}
use Rattle.and_histories.specs.Histories.{HistoryEntry, calls}
use Rattle.and_tree.specs.Passes.{TreeId, PassSeen, tally_of}
use Rattle.and_tree.specs.Ended.{tally_of_all}
use Rattle.and_answers.specs.Kept.{listed, total, Merges}
use Rattle.and_answers.specs.declared.found.Found.{Found}
use Rattle.and_search_laws.specs.Found.{kept_count}
use Rattle.and_search_laws.specs.Ended.{IsEndSoFar}
use Rattle.and_team_laws.specs.Done.{DidAll, Part, DidParts, all_parts}
use Rattle.and_team_laws.proofs.Bools.{or_assoc, or_false}
use Rattle.std.proofs.Math.Bool.{or-true}
use Rattle.and_tasks.specs.Working.{Tells, SeesNone}
use Rattle.and_teams.specs.Ended.{IsWorked, AreDone, AllFound}
use Rattle.and_teams.specs.declared.work.Worked.{Worked}

-- ---- of all items of a list and one more

all_front : {X : Type 0} (Q : X → Type 0) (xs : List X) (x : X) → All Q (xs ++ x ∷ []) → All Q xs
all_front Q xs x h = (All-pop Q (xs ++ x ∷ []) xs (Some x) refl h).0

all_last : {X : Type 0} (Q : X → Type 0) (xs : List X) (x : X) → All Q (xs ++ x ∷ []) → Q x
all_last Q xs x h = All-contains Q (xs ++ x ∷ []) x h (Contains-push xs x)

-- ---- counts that stay at the largest number

at_top : (n m : ℕ) → m ≤ n → min n m ≡ m
at_top n m above = min-eq_right above

under : (n m : ℕ) → n ≤ m → min n m ≡ n
under n m below = min-eq_left below

pub capped : (a b m : ℕ) → min (min a m + b) m ≡ min (a + b) m
capped a b m = elim (cases_lt m a) [
  | inl over ↦
      let above : m ≤ a = omega (arith, over) in
      ap (λ x. min (x + b) m) (at_top a m above) ∙ at_top (m + b) m (omega arith) ∙ sym (at_top (a + b) m (omega (arith, over)))
  | inr fits ↦ ap (λ x. min (x + b) m) (under a m fits)
]

turned : (a b m : ℕ) → min (a + b) m ≡ min (b + a) m
turned a b m = let e : a + b ≡ b + a = omega arith in ap (λ n. min n m) e

capped_second : (a b m : ℕ) → min (a + min b m) m ≡ min (a + b) m
capped_second a b m = turned a (min b m) m ∙ capped b a m ∙ turned b a m

-- Two counts that were kept are those of both.
total_kept : (a b f g : ℕ) → a ≡ kept_count f → b ≡ kept_count g → total a b ≡ kept_count (f + g)
total_kept a b f g one other =
    let most : ℕ = 2 ^ 64 - 1 in
    ap (λ n. total n b) one ∙ ap (λ n. total (kept_count f) n) other ∙ capped f (min g most) most ∙ capped_second f g most

total_turned : (a b : ℕ) → total a b ≡ total b a
total_turned a b = turned a b (2 ^ 64 - 1)

total_joined : (a b c : ℕ) → total a (total b c) ≡ total (total a b) c
total_joined a b c =
    let most : ℕ = 2 ^ 64 - 1 in
    let e : a + (b + c) ≡ (a + b) + c = omega arith in
    capped_second a (b + c) most ∙ ap (λ n. min n most) e ∙ sym (capped (a + b) c most)

-- The forks of the passes and of one more.
forks_more : (ps : List PassSeen) (p : PassSeen)
    → (tally_of_all (ps ++ p ∷ [])).forks ≡ total (tally_of_all ps).forks (tally_of (calls p.seen p.team)).forks
forks_more [] p = total_turned (tally_of (calls p.seen p.team)).forks 0
forks_more (q ∷ ps) p =
    let first : ℕ = (tally_of (calls q.seen q.team)).forks in
    ap (λ n. total first n) (forks_more ps p) ∙ total_joined first (tally_of_all ps).forks (tally_of (calls p.seen p.team)).forks

-- ---- one part more

module _ (P : Program) (limit : ℕ) (history : List HistoryEntry) where
  did_more_parts : (n : ℕ) (ps : List Part) (p : Part) → DidParts P limit history n ps
      → DidAll P limit (calls history (n + length ps)) p.entries p.forks p.failed p.is_cut → DidParts P limit history n (ps ++ p ∷ [])
  did_more_parts n [] p did last =
      (subst (λ k. DidAll P limit (calls history k) p.entries p.forks p.failed p.is_cut) (omega arith) last, tt)
  did_more_parts n (q ∷ ps) p did last = (
    did.0,
    did_more_parts (suc n) ps p did.1
        (subst (λ k. DidAll P limit (calls history k) p.entries p.forks p.failed p.is_cut) (omega arith) last),
  )

entries_more : (ps : List Part) (p : Part) → (all_parts (ps ++ p ∷ [])).entries ≡ (all_parts ps).entries ++ p.entries
entries_more [] p = append-nil p.entries
entries_more (q ∷ ps) p = ap (λ es. q.entries ++ es) (entries_more ps p) ∙ sym (append_assoc q.entries (all_parts ps).entries p.entries)

forks_are_more : (ps : List Part) (p : Part) → (all_parts (ps ++ p ∷ [])).forks ≡ (all_parts ps).forks + p.forks
forks_are_more [] p = omega arith
forks_are_more (q ∷ ps) p = let rest = forks_are_more ps p in omega (arith, rest)

failed_more : (ps : List Part) (p : Part) → (all_parts (ps ++ p ∷ [])).failed ≡ (all_parts ps).failed + p.failed
failed_more [] p = omega arith
failed_more (q ∷ ps) p = let rest = failed_more ps p in omega (arith, rest)

cut_more : (ps : List Part) (p : Part) → (all_parts (ps ++ p ∷ [])).is_cut ≡ (all_parts ps).is_cut || p.is_cut
cut_more [] p = or_false p.is_cut
cut_more (q ∷ ps) p = ap (λ b. q.is_cut || b) (cut_more ps p) ∙ or_assoc q.is_cut (all_parts ps).is_cut p.is_cut

-- ---- what two found ends as it did for both

end_merged : (P : Program) (limit : ℕ) (one other both : Found) (f m g n : ℕ) (b d : Bool) → Merges one other both
    → IsEndSoFar P limit one f m b one.cut → IsEndSoFar P limit other g n d other.cut
    → IsEndSoFar P limit both (f + g) (m + n) (b || d) both.cut
end_merged P limit one other both f m g n b d merged =
    λ x y. subst (λ c. IsEndSoFar P limit both (f + g) (m + n) (b || d) c) (sym merged.cut) (go one.cut other.cut x y)
  where
    go : (c e : Option goal.Cut.Cut) → IsEndSoFar P limit one f m b c → IsEndSoFar P limit other g n d e
        → IsEndSoFar P limit both (f + g) (m + n) (b || d) (option_or c e)
    go None None x y = (
      ap (λ z. z || d) x.0 ∙ y.0,
      merged.forks ∙ total_kept one.forks other.forks f g x.1 y.1,
      merged.failed ∙ total_kept one.failed other.failed m n x.2 y.2,
    )
    go None (Some cut) x y = (ap (λ z. b || z) y.0 ∙ or-true b, y.1, y.2, y.3)
    go (Some cut) e x y = (ap (λ z. z || d) x.0, x.1, x.2, x.3)

-- ---- the passes of teams

abbrev pub team_in : PassSeen → ℕ
team_in p = p.team

map_more : (ps : List PassSeen) (p : PassSeen) → map team_in (ps ++ p ∷ []) ≡ map team_in ps ++ p.team ∷ []
map_more [] p = refl
map_more (q ∷ ps) p = ap (λ l. q.team ∷ l) (map_more ps p)

apart_below : (n k : ℕ) → k < n → k ≢ n
apart_below n k below same = absurd (omega (arith, below, same))

-- Some pass has seen that no key was left.
pub record OneSees (passes : List PassSeen) : Type 0 where
  pub pass : PassSeen
  pub among : Contains passes pass
  pub none : SeesNone pass

abbrev Own : List HistoryEntry → List PassSeen → Type 0
Own history passes = All (λ (p : PassSeen). calls history p.team ≡ calls p.seen p.team) passes

module _ (tree : TreeId) where
  -- The passes are of the tree, and of so many teams.
  pub record Seats (count : ℕ) (passes : List PassSeen) : Type 0 where
    pub of_tree : All (λ (p : PassSeen). p.tree ≡ tree) passes
    pub long : length passes ≡ count
    pub distinct : AreDistinct (map team_in passes)
    pub below : All (λ n. n < count) (map team_in passes)

  seat_more : (count : ℕ) (ps : List PassSeen) (p : PassSeen) → Seats count ps → p.tree ≡ tree → p.team ≡ count → Seats (suc count) (ps ++ p ∷ [])
  seat_more count ps p s of_tree team = record {
    of_tree = All-push (λ (p : PassSeen). p.tree ≡ tree) ps p s.of_tree of_tree;
    long = omega (arith, length-append ps (p ∷ []), s.long);
    distinct = subst AreDistinct (sym (map_more ps p))
        (all_pairs_push (λ n m. n ≢ m) (map team_in ps) p.team s.distinct
        (λ k d within. subst (λ n. get_or_of k d ≢ n) (sym team) (apart_below count (get_or_of k d) (s.below k d within))));
    below = subst (All (λ n. n < suc count)) (sym (map_more ps p))
        (All-push (λ n. n < suc count) (map team_in ps) p.team
        (All-weaker (λ n. n < count) (λ n. n < suc count) (λ n less. omega (arith, less)) (map team_in ps) s.below) (omega (arith, team)));
  }
    where
      get_or_of : (k d : ℕ) → ℕ
      get_or_of k d = slice_index_or (map team_in ps) k d

module _ (P : Program) (tree : TreeId) where
  -- What the teams of these passes did together.
  pub record Together (history : List HistoryEntry) (count : ℕ) (found : Found) (passes : List PassSeen) : Type 0 where
    pub parts : List Part
    pub many : length parts ≡ count
    pub did : DidParts P tree.about.limit history 0 parts
    pub entries : listed found ≡ (all_parts parts).entries
    pub end : IsEndSoFar P tree.about.limit found (all_parts parts).forks (all_parts parts).failed (all_parts parts).is_cut found.cut
    pub counted : found.forks ≡ (tally_of_all passes).forks
    pub failed_are : found.failed ≡ kept_count (all_parts parts).failed

  none_together : (history : List HistoryEntry) (found : Found) (passes : List PassSeen) → listed found ≡ [] → found.forks ≡ 0 → found.failed ≡ 0
      → found.cut ≡ None → passes ≡ [] → Together history 0 found passes
  none_together history found passes entries forks failed cut none = record {
    parts = [];
    many = refl;
    did = tt;
    entries = entries;
    end = subst (λ c. IsEndSoFar P tree.about.limit found 0 0 false c) (sym cut) (refl, forks, failed);
    counted = forks ∙ ap (λ l. (tally_of_all l).forks) (sym none);
    failed_are = failed;
  }

  -- the part of a team that is done
  abbrev part_of : (pass : PassSeen) (found : Found) → Tells P tree.about.limit pass found → Part
  part_of pass found t = record { entries = listed found; forks = t.forks; failed = t.failed; is_cut = t.is_cut }

  one_together : (history : List HistoryEntry) (count : ℕ) (one other both : Found) (ps : List PassSeen) (p : PassSeen)
      → Together history count one ps → (t : Tells P tree.about.limit p other) → Merges one other both → p.team ≡ count
      → calls history p.team ≡ calls p.seen p.team → Together history (suc count) both (ps ++ p ∷ [])
  one_together history count one other both ps p r t merges team own =
      let part : Part = part_of p other t in
      let all : Part = all_parts (r.parts ++ part ∷ []) in
      let calls_are : calls p.seen p.team ≡ calls history (0 + length r.parts) =
      sym own ∙ ap (calls history) (omega (arith, team, r.many)) in
      let limit : ℕ = tree.about.limit in
      record {
        parts = r.parts ++ part ∷ [];
        many = omega (arith, length-append r.parts (part ∷ []), r.many);
        did = did_more_parts P limit history 0 r.parts part r.did
            (subst (λ h. DidAll P limit h part.entries part.forks part.failed part.is_cut) calls_are t.did);
        entries = merges.entries ∙ ap (λ es. es ++ listed other) r.entries ∙ sym (entries_more r.parts part);
        end = subst (λ b. IsEndSoFar P limit both all.forks all.failed b both.cut) (sym (cut_more r.parts part))
            (subst (λ n. IsEndSoFar P limit both all.forks n ((all_parts r.parts).is_cut || t.is_cut) both.cut) (sym (failed_more r.parts part))
            (subst (λ n. IsEndSoFar P limit both n ((all_parts r.parts).failed + t.failed) ((all_parts r.parts).is_cut || t.is_cut) both.cut)
            (sym (forks_are_more r.parts part))
            (end_merged P limit one other both (all_parts r.parts).forks (all_parts r.parts).failed t.forks t.failed (all_parts r.parts).is_cut t.is_cut
            merges r.end t.end)));
        counted = merges.forks ∙ ap (λ n. total n other.forks) r.counted ∙ ap (λ n. total (tally_of_all ps).forks n) t.counted
            ∙ sym (forks_more ps p);
        failed_are = merges.failed ∙ total_kept one.failed other.failed (all_parts r.parts).failed t.failed r.failed_are t.failed_are
            ∙ ap kept_count (sym (failed_more r.parts part));
      }

module _ {N : Type 0} (P : Program) (tree : TreeId) where
  -- ---- the teams, the last first

  -- All teams below that number have worked, the last first.
  abbrev pub AreDoneDown : List (Worked N) → Type 0
  AreDoneDown [] = Unit {0}
  AreDoneDown (w ∷ worked) = IsWorked P tree (length worked) w × AreDoneDown worked

  done_but_last : (n : ℕ) (ws : List (Worked N)) (w : Worked N) → AreDone P tree n (ws ++ w ∷ [])
      → AreDone P tree n ws × IsWorked P tree (n + length ws) w
  done_but_last n [] w d = (tt, subst (λ k. IsWorked P tree k w) (omega arith) d.0)
  done_but_last n (x ∷ ws) w d =
      let (rest, last) = done_but_last (suc n) ws w d.1 in
      ((d.0, rest), subst (λ k. IsWorked P tree k w) (omega arith) last)

  pub done_down : (ws : List (Worked N)) → AreDone P tree 0 (reverse ws) → AreDoneDown ws
  done_down [] d = tt
  done_down (w ∷ ws) d =
      let (rest, last) = done_but_last 0 (reverse ws) w (subst (λ l. AreDone P tree 0 l) (reverse-cons w ws) d) in
      (subst (λ k. IsWorked P tree k w) (omega (arith, length-reverse ws)) last, done_down ws rest)

  pub seats : (ws : List (Worked N)) (found : Found) (passes : List PassSeen) → AllFound ws found passes → AreDoneDown ws → Seats tree (length ws) passes
  seats [] found passes a d = subst (λ l. Seats tree 0 l) (sym a.4) (record {
    of_tree = all_none (λ (p : PassSeen). p.tree ≡ tree);
    long = refl;
    distinct = all_pairs_none (λ n m. n ≢ m);
    below = all_none (λ n. n < 0);
  })
  seats (w ∷ ws) found passes (failed, others, rest, a, merges, are) (worked, d) =
      subst (λ l. Seats tree (suc (length ws)) l) (sym are)
      (seat_more tree (length ws) rest w.pass (seats ws others rest a d) worked.of_tree worked.number_is)

  pub one_sees : (ws : List (Worked N)) (found : Found) (passes : List PassSeen) → AllFound ws found passes → AreDoneDown ws → 0 < length ws
      → OneSees passes
  one_sees [] found passes a d some = absurd (omega (arith, some))
  one_sees (w ∷ ws) found passes (failed, others, rest, a, merges, are) (worked, d) some = record {
    pass = w.pass;
    among = subst (λ l. Contains l w.pass) (sym are) (Contains-push rest w.pass);
    none = (worked.done failed).none_left;
  }

  pub together : (history : List HistoryEntry) (ws : List (Worked N)) (found : Found) (passes : List PassSeen) → AllFound ws found passes
      → AreDoneDown ws → Own history passes → Together P tree history (length ws) found passes
  together history [] found passes a d own = none_together P tree history found passes a.0 a.1 a.2 a.3 a.4
  together history (w ∷ ws) found passes (failed, others, rest, a, merges, are) (worked, d) own =
      let pass : PassSeen = w.pass in
      let here : Own history (rest ++ pass ∷ []) = subst (Own history) are own in
      let done = worked.done failed in
      let before = together history ws others rest a d (all_front (λ (p : PassSeen). calls history p.team ≡ calls p.seen p.team) rest pass here) in
      subst (λ l. Together P tree history (suc (length ws)) found l) (sym are)
      (one_together P tree history (length ws) others w.found found rest pass before done.tells merges worked.number_is
      (all_last (λ (p : PassSeen). calls history p.team ≡ calls p.seen p.team) rest pass here))
