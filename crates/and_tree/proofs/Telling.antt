-- What the steps of the table tell, said of the pass alone.
use Rattle.std.proofs.Common.{ℕ, ◌≡◌, ◌≤◌, ◌<◌, List, [], ◌∷◌, ◌++◌, length, length-append, refl, sym, ap, subst, ◌∙◌}
use Rattle.std.proofs.Common.{append-nil, arith, cond}
use Rattle.std.specs.Prelude.{nat_eq}
use Rattle.std.proofs.lemmas.Bool.Decides.{Decides-eqb}
use Rattle.std.proofs.lemmas.List.Elements.{All-contains, filter-append}
use Rattle.atomic_table.specs.Seated.{TableId}
use Rattle.and_model.specs.Prefixes.{IsPrefix}
use Rattle.and_histories.specs.PlainTree.{Event, Reply, opening}
use Rattle.and_histories.specs.Histories.{HistoryEntry, Carries, calls, team_of}
use Rattle.and_tree.specs.Plain.{Tally, none_yet, tallied}
use Rattle.and_tree.specs.Sight.{About, at_rest, Member, Sight, mine_of, IsAlone}
use Rattle.and_tree.specs.AtWork.{Held, Works}
use Rattle.and_tree.specs.Passes.{PassSeen, Makes, Hears, IsPass, tally_of, tally_on}
use Rattle.and_tree.specs.Told.{Amid, Called, CallTold, HearTold, CanCall, MayCall}

-- what contracts see of a pass whose seat sees this
abbrev pub pass_of : TableId → Sight → PassSeen
pass_of table v = record { tree = record { table = table; about = v.about }; team = (mine_of v).team; seen = (mine_of v).seen; hand = (mine_of v).hand }

works_of : (a : About) (m : Member) (h : Held) → Amid a m h → Works a h m
works_of a m h x = All-contains (Works a h) x.members m x.at_work.each x.there

no_tail : {X : Type 0} (xs ys : List X) → xs ++ ys ≡ xs → ys ≡ []
no_tail xs [] e = refl
no_tail xs (y ∷ ys) e = let long = length-append xs (y ∷ ys) in let same = ap length e in absurd (omega (arith, long, same))

calls_append : (one other : List HistoryEntry) (team : ℕ) → calls (one ++ other) team ≡ calls one team ++ calls other team
calls_append one other team = filter-append (λ (e : HistoryEntry). nat_eq (team_of e.event) team) one other

calls_own : (e : HistoryEntry) (team : ℕ) → team_of e.event ≡ team → calls (e ∷ []) team ≡ e ∷ []
calls_own e team same = ap (λ b. cond {A = List HistoryEntry} b (e ∷ []) []) ((Decides-eqb (team_of e.event) team).1 same)

-- What a pass has not seen yet, others did.
others_since : (a : About) (m : Member) (h : Held) → Works a h m
    → (others : List HistoryEntry) × (h.history ≡ m.seen ++ others) × (calls others m.team ≡ [])
others_since a m h w = (
  w.seen.0,
  w.seen.1,
  no_tail (calls m.seen m.team) (calls w.seen.0 m.team) (sym (calls_append m.seen w.seen.0 m.team)
      ∙ ap (λ l. calls l m.team) (sym w.seen.1) ∙ sym w.own),
)

tally_on_push : (t : Tally) (history : List HistoryEntry) (e : HistoryEntry) → tally_on t (history ++ e ∷ []) ≡ tallied e.event (tally_on t history)
tally_on_push t [] e = refl
tally_on_push t (x ∷ history) e = tally_on_push (tallied x.event t) history e

-- what a pass keeps whether it is at rest or not
pub record Remembers (v : Sight) (team : ℕ) (tally : Tally) : Type 0 where
  pub alone : IsAlone v
  pub team_is : (mine_of v).team ≡ team
  pub team_below : team < v.about.teams
  pub few_teams : v.about.teams ≤ 16
  pub tally_is : tally ≡ tally_of (calls (mine_of v).seen team)

pub remembered : (v : Sight) (team : ℕ) (tally : Tally) → IsPass v team tally → Remembers v team tally
remembered v team tally p = record { alone = p.alone; team_is = p.team_is; team_below = p.team_below; few_teams = p.few_teams; tally_is = p.tally_is }

pub rested : (v : Sight) (team : ℕ) (old new : Tally) → Remembers v team old → (mine_of v).work ≡ at_rest → new ≡ old → IsPass v team new
rested v team old new r rest is =
    record { alone = r.alone; at_rest_now = rest; team_is = r.team_is; team_below = r.team_below; few_teams = r.few_teams; tally_is = is ∙ r.tally_is }

module _ (event : Event) (reply : Reply) (v w : Sight) (h : Held) (c : Called event reply v w h) where
  abbrev m : Member
  m = mine_of v

  abbrev n : Member
  n = mine_of w

  abbrev entry : HistoryEntry
  entry = record { event = event; reply = reply }

  its : Works v.about h m
  its = works_of v.about m h c.before

  since : (others : List HistoryEntry) × (h.history ≡ m.seen ++ others) × (calls others m.team ≡ [])
  since = others_since v.about m h its

  pub about_stays : w.about ≡ v.about
  about_stays = ap (λ (x : Sight). x.about) c.view

  pub team_stays : n.team ≡ m.team
  team_stays = ap (λ (x : Member). x.team) c.acts.becomes

  pub alone_stays : IsAlone v → IsAlone w
  alone_stays alone = (ap (λ (x : Sight). x.members) c.view, ap (λ (x : Sight). x.told) c.view ∙ alone.1)

  seen_is : n.seen ≡ (m.seen ++ since.0) ++ entry ∷ []
  seen_is = ap (λ (x : Member). x.seen) c.acts.becomes ∙ c.acts.history ∙ ap (λ l. l ++ entry ∷ []) since.1

  pub makes : (table : TableId) → Makes event reply (pass_of table v) (pass_of table w)
  makes table = record {
    others = since.0;
    of_others = since.2;
    seen = seen_is;
    before = h.now;
    after = c.next.now;
    carried = subst (λ l. Carries (opening v.about.teams) l h.now) since.1 c.before.at_work.carried;
    does = c.acts.does;
    hand_before = sym its.hand;
    hand_after = sym (ap (λ (x : Member). x.hand) c.acts.becomes);
    tree = ap (λ b. record { table = table; about = b }) about_stays;
    team = team_stays;
  }

  -- The pass's own calls grow by this one.
  pub calls_grow : calls n.seen m.team ≡ calls m.seen m.team ++ entry ∷ []
  calls_grow =
      ap (λ l. calls l m.team) seen_is ∙ calls_append (m.seen ++ since.0) (entry ∷ []) m.team
      ∙ ap (λ l. l ++ calls (entry ∷ []) m.team) (calls_append m.seen since.0 m.team ∙ ap (λ l. calls m.seen m.team ++ l) since.2
      ∙ append-nil (calls m.seen m.team))
      ∙ ap (λ l. calls m.seen m.team ++ l) (calls_own entry m.team c.acts.of_team)

  pub remembers : (team : ℕ) (old : Tally) → Remembers v team old → Remembers w team (tallied event old)
  remembers team old r = record {
    alone = alone_stays r.alone;
    team_is = team_stays ∙ r.team_is;
    team_below = subst (λ (b : About). team < b.teams) (sym about_stays) r.team_below;
    few_teams = subst (λ (b : About). b.teams ≤ 16) (sym about_stays) r.few_teams;
    tally_is = ap (tallied event) r.tally_is ∙ sym (tally_on_push none_yet (calls (mine_of v).seen team) entry)
        ∙ ap tally_of (sym (subst (λ t. calls n.seen t ≡ calls m.seen t ++ entry ∷ []) r.team_is calls_grow));
  }

-- ---- a pass that sees all that was done

module _ (v w : Sight) (t : HearTold v w) where
  heard_works : Works v.about t.held (mine_of v)
  heard_works = works_of v.about (mine_of v) t.held t.before

  heard_since : (others : List HistoryEntry) × (t.held.history ≡ (mine_of v).seen ++ others) × (calls others (mine_of v).team ≡ [])
  heard_since = others_since v.about (mine_of v) t.held heard_works

  pub heard : (table : TableId) → Hears (pass_of table v) (pass_of table w)
  heard table = subst (λ w. Hears (pass_of table v) (pass_of table w)) (sym t.becomes) (record {
    others = heard_since.0;
    of_others = heard_since.2;
    seen = heard_since.1;
    legal = (t.held.now, t.before.at_work.carried);
    becomes = refl;
  })

  pub heard_told : IsPrefix v.told (mine_of w).seen
  heard_told = subst (λ (w : Sight). IsPrefix v.told (mine_of w).seen) (sym t.becomes) t.told

  pub heard_pass : (team : ℕ) (tally : Tally) → (mine_of v).work ≡ at_rest → (mine_of v).team ≡ team → team < v.about.teams → v.about.teams ≤ 16
      → tally ≡ tally_of (calls (mine_of v).seen team) → IsPass w team tally
  heard_pass team tally rest team_is below few is = subst (λ w. IsPass w team tally) (sym t.becomes) (record {
    alone = (refl, refl);
    at_rest_now = rest;
    team_is = team_is;
    team_below = below;
    few_teams = few;
    tally_is = is ∙ ap tally_of (subst (λ k. calls (mine_of v).seen k ≡ calls t.held.history k) team_is heard_works.own);
  })

-- ---- calls that are one step

pub can_call : (a : About) (v : Sight) (team : ℕ) (tally : Tally) (event : Event) → IsPass v team tally → v.about ≡ a
    → team_of event ≡ (mine_of v).team → MayCall a.teams (mine_of v).hand event → CanCall a v event
can_call a v team tally event p about by may = record {
  alone = p.alone;
  about = about;
  team_below = subst (λ (b : About). (mine_of v).team < b.teams) about (subst (λ n. n < v.about.teams) (sym p.team_is) p.team_below);
  of_team = by;
  may = may;
}

pub called_makes : (event named : Event) (reply : Reply) (v w : Sight) (h : Held) (table other : TableId) (p : PassSeen) → pass_of table v ≡ p
    → event ≡ named → other ≡ table
    → Called event reply v w h → Makes named reply p (pass_of other w)
called_makes event named reply v w h table other p view same tables c =
    subst (λ p. Makes named reply p (pass_of other w)) view
    (subst (λ e. Makes e reply (pass_of table v) (pass_of other w)) same
    (subst (λ z. Makes event reply (pass_of table v) (pass_of z w)) (sym tables) (makes event reply v w h c table)))

pub called_pass : (event : Event) (reply : Reply) (v w : Sight) (h : Held) (team : ℕ) (old new : Tally) → Called event reply v w h → IsPass v team old
    → (mine_of w).work ≡ at_rest → new ≡ tallied event old → IsPass w team new
called_pass event reply v w h team old new c p rest is =
    rested w team (tallied event old) new (remembers event reply v w h c team old (remembered v team old p)) rest is

pub call_makes : (event named : Event) (reply : Reply) (v w : Sight) (found : ℕ) (table other : TableId) (p : PassSeen) → pass_of table v ≡ p
    → event ≡ named → other ≡ table
    → (t : CallTold event v found w) → t.reply ≡ reply → Makes named reply p (pass_of other w)
call_makes event named reply v w found table other p view same tables t is =
    subst (λ r. Makes named r p (pass_of other w)) is (called_makes event named t.reply v w t.held table other p view same tables t.called)

pub call_pass : (event : Event) (v w : Sight) (found team : ℕ) (old new : Tally) → CallTold event v found w → IsPass v team old
    → new ≡ tallied event old → IsPass w team new
call_pass event v w found team old new t p is = called_pass event t.reply v w t.held team old new t.called p t.rests is
