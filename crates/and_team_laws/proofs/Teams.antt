-- The calls of each team, and of all of them.
use Rattle.std.proofs.Common.{ℕ, suc, ◌+◌, ◌≡◌, ◌<◌, ◌≤◌, Bool, true, false, cond, ◌||◌, List, [], ◌∷◌, ◌++◌, length, refl, sym, ap, ◌∙◌, subst, arith, All}
use Rattle.std.specs.Prelude.{sum_by, nat_eq}
use Rattle.std.proofs.lemmas.List.Sums.{sum_by-append}
use Rattle.std.proofs.lemmas.Bool.Decides.{Decides-eqb}
use Rattle.and_model.specs.Programs.{Program}
use Rattle.and_model.specs.Listing.{Entry}
use Rattle.and_laws.proofs.Pairwise.{all_first, all_rest}
use Rattle.and_histories.specs.Histories.{HistoryEntry, calls, team_of}
use Rattle.and_team_laws.specs.Owed.{SameItems}
use Rattle.and_team_laws.specs.Done.{Did, DidAll, Part, DidParts, all_parts}
use Rattle.and_team_laws.proofs.Bools.{or_assoc, or_swap}
use Rattle.and_team_laws.proofs.Doing.{did_alike}

module _ (P : Program) (limit : ℕ) where
  -- Of an event of a team with a smaller number the parts know nothing.
  others_parts : (e : HistoryEntry) (history : List HistoryEntry) (team : ℕ) (parts : List Part) → team_of e.event < team
      → DidParts P limit (e ∷ history) team parts → DidParts P limit history team parts
  others_parts e history team [] below did = tt
  others_parts e history team (p ∷ parts) below did =
      (by_test (nat_eq (team_of e.event) team) refl did.0, others_parts e history (suc team) parts (omega arith) did.1)
    where
      by_test : (b : Bool) → nat_eq (team_of e.event) team ≡ b
          → DidAll P limit (cond b (e ∷ calls history team) (calls history team)) p.entries p.forks p.failed p.is_cut
          → DidAll P limit (calls history team) p.entries p.forks p.failed p.is_cut
      by_test true is d = absurd (let same = (Decides-eqb (team_of e.event) team).0 is in omega arith)
      by_test false is d = d

  -- What the first event did, and the parts of the others.
  record First (e : HistoryEntry) (history : List HistoryEntry) (team : ℕ) (parts : List Part) : Type 0 where
    pub entries : List Entry
    pub forks : ℕ
    pub failed : ℕ
    pub is_cut : Bool
    pub did : Did P limit e.event entries forks failed is_cut
    pub others : List Part
    pub rest : DidParts P limit history team others
    pub as_many : length others ≡ length parts
    pub same : SameItems (entries ++ (all_parts others).entries) (all_parts parts).entries
    pub forks_are : (all_parts parts).forks ≡ forks + (all_parts others).forks
    pub failed_are : (all_parts parts).failed ≡ failed + (all_parts others).failed
    pub cut_is : (all_parts parts).is_cut ≡ is_cut || (all_parts others).is_cut

  -- (of the team whose event it is)
  own_part : (e : HistoryEntry) (history : List HistoryEntry) (team : ℕ) (p : Part) (parts : List Part)
      → DidAll P limit (e ∷ calls history team) p.entries p.forks p.failed p.is_cut → DidParts P limit history (suc team) parts
      → (q : Part) → q ≡ p → First e history team (p ∷ parts)
  own_part e history team p parts d rest q is = go p.entries p.forks p.failed p.is_cut d refl refl refl refl
    where
      go : (es : List Entry) (f m : ℕ) (b : Bool) → DidAll P limit (e ∷ calls history team) es f m b → es ≡ p.entries → f ≡ p.forks
          → m ≡ p.failed → b ≡ p.is_cut → First e history team (p ∷ parts)
      go es f m b (DidAll.more e' h ks js f1 m1 f2 m2 b1 b2 did x) es_are f_is m_is b_is =
          let t : Part = all_parts parts in record {
            entries = ks;
            forks = f1;
            failed = m1;
            is_cut = b1;
            did = did;
            others = record { entries = js; forks = f2; failed = m2; is_cut = b2 } ∷ parts;
            rest = (x, rest);
            as_many = refl;
            same = λ g.
                let one = sum_by-append g ks (js ++ t.entries) in
                let two = sum_by-append g js t.entries in
                let three = sum_by-append g p.entries t.entries in
                let four = ap (sum_by g) (sym es_are) in
                let five = sum_by-append g ks js in
                omega arith;
            forks_are = omega (arith, f_is);
            failed_are = omega (arith, m_is);
            cut_is = ap (λ z. z || t.is_cut) (sym b_is) ∙ sym (or_assoc b1 b2 t.is_cut);
          }

  first_of : (e : HistoryEntry) (history : List HistoryEntry) (team : ℕ) (parts : List Part) → team ≤ team_of e.event
      → team_of e.event < team + length parts → DidParts P limit (e ∷ history) team parts → First e history team parts
  first_of e history team [] from below did = absurd (omega arith)
  first_of e history team (p ∷ parts) from below did =
      by_test (nat_eq (team_of e.event) team) refl did.0 (λ apart. first_of e history (suc team) parts (omega arith) (omega arith) did.1)
    where
      by_test : (b : Bool) → nat_eq (team_of e.event) team ≡ b
          → DidAll P limit (cond b (e ∷ calls history team) (calls history team)) p.entries p.forks p.failed p.is_cut
          → ((team_of e.event ≡ team → ⊥) → First e history (suc team) parts) → First e history team (p ∷ parts)
      by_test true is d later =
          let same = (Decides-eqb (team_of e.event) team).0 is in
          own_part e history team p parts d (others_parts e history (suc team) parts (omega arith) did.1) p refl
      by_test false is d later =
          let apart : team_of e.event ≡ team → ⊥ = λ s. absurd (let t = (Decides-eqb (team_of e.event) team).1 s in let u : true ≡ false = sym t ∙ is in cc) in
          let r : First e history (suc team) parts = later apart in
          record {
            entries = r.entries;
            forks = r.forks;
            failed = r.failed;
            is_cut = r.is_cut;
            did = r.did;
            others = p ∷ r.others;
            rest = (d, r.rest);
            as_many = ap suc r.as_many;
            same = λ g.
                let one = sum_by-append g r.entries (p.entries ++ (all_parts r.others).entries) in
                let two = sum_by-append g p.entries (all_parts r.others).entries in
                let three = sum_by-append g p.entries (all_parts parts).entries in
                let four = sum_by-append g r.entries (all_parts r.others).entries in
                let five = r.same g in
                omega arith;
            forks_are = omega (arith, r.forks_are);
            failed_are = omega (arith, r.failed_are);
            cut_is = ap (λ z. p.is_cut || z) r.cut_is ∙ or_swap p.is_cut r.is_cut (all_parts r.others).is_cut;
          }

  abbrev nothing : Part
  nothing = record { entries = []; forks = 0; failed = 0; is_cut = false }

  -- where no team has a call, none did anything
  idle_parts : (team : ℕ) (parts : List Part) → DidParts P limit [] team parts → all_parts parts ≡ nothing
  idle_parts team [] did = refl
  idle_parts team (p ∷ parts) did = go p.entries p.forks p.failed p.is_cut did.0 (idle_parts (suc team) parts did.1)
    where
      go : (es : List Entry) (f m : ℕ) (b : Bool) → DidAll P limit [] es f m b → all_parts parts ≡ nothing
          → all_parts (record { entries = es; forks = f; failed = m; is_cut = b } ∷ parts) ≡ nothing
      go es f m b DidAll.none is =
          ap (λ (t : Part). record { entries = [] ++ t.entries; forks = 0 + t.forks; failed = 0 + t.failed; is_cut = false || t.is_cut }) is

  pub did_together : (history : List HistoryEntry) (parts : List Part) → All (λ (e : HistoryEntry). team_of e.event < length parts) history
      → DidParts P limit history 0 parts
      → (entries : List Entry) × DidAll P limit history entries (all_parts parts).forks (all_parts parts).failed (all_parts parts).is_cut
      × SameItems entries (all_parts parts).entries
  did_together [] parts teams did =
      let idle = idle_parts 0 parts did in (
        [],
        subst (λ (t : Part). DidAll P limit [] [] t.forks t.failed t.is_cut) (sym idle) DidAll.none,
        λ g. ap (λ (t : Part). sum_by g t.entries) (sym idle),
      )
  did_together (e ∷ history) parts teams did =
      let r : First e history 0 parts = first_of e history 0 parts (omega arith)
      (let below = all_first (λ (e : HistoryEntry). team_of e.event < length parts) e history teams in omega arith) did in
      let below : All (λ (e : HistoryEntry). team_of e.event < length r.others) history =
      subst (λ n. All (λ (e : HistoryEntry). team_of e.event < n) history) (sym r.as_many)
      (all_rest (λ (e : HistoryEntry). team_of e.event < length parts) e history teams) in
      let whole : Part = all_parts parts in
      let others : Part = all_parts r.others in
      let (entries, x, same) = did_together history r.others below r.rest in (
        r.entries ++ entries,
        did_alike P limit (e ∷ history) (r.entries ++ entries) (r.entries ++ entries) (r.forks + others.forks) whole.forks
            (r.failed + others.failed) whole.failed (r.is_cut || others.is_cut) whole.is_cut
            (DidAll.more e history r.entries entries r.forks r.failed others.forks others.failed r.is_cut others.is_cut r.did x)
            refl (sym r.forks_are) (sym r.failed_are) (sym r.cut_is),
        λ g.
            let one = sum_by-append g r.entries entries in
            let two = same g in
            let three = sum_by-append g r.entries (all_parts r.others).entries in
            let four = r.same g in
            omega arith,
      )
