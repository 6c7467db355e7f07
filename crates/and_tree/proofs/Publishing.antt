-- Calls that are two steps: a branch is put into a cell, and a claim that takes clears the cell.
use Rattle.std.proofs.Common.{ℕ, ◌≡◌, ◌≢◌, List, [], ◌∷◌, Option, None, Some, refl, sym, ap, subst, ◌∙◌}
use Rattle.atomic_table.specs.Seated.{TableId}
use Rattle.and_histories.specs.PlainTree.{Key, Cell, Content, free, publish, claim, clear, done, taken, cleared}
use Rattle.and_tree.specs.Plain.{Tally}
use Rattle.and_tree.specs.Kept.{content_word}
use Rattle.and_tree.specs.Passes.{PassSeen, Makes, Takes, IsPass}
use Rattle.and_tree.specs.Sight.{Member, Sight, mine_of, with_mine}
use Rattle.and_tree.specs.Told.{CallTold, FreeTold, TakenTold}
use Rattle.and_tree.proofs.Telling.{pass_of, Remembers, remembered, remembers, rested, called_makes, call_makes, team_stays}

pub taken_so : (content : Content) (word : ℕ) → word ≡ content_word content → word ≢ 0 → content ≢ free
taken_so content word is ne e = ne (is ∙ ap content_word e)

-- ---- a branch is put into a cell that was found free

module _ (cell : ℕ) (c : Cell) (v w : Sight) (t : FreeTold cell c v w) where
  pub same_pass : (table : TableId) → pass_of table w ≡ pass_of table v
  same_pass table = ap (pass_of table) t.view ∙ ap (λ (n : Member). pass_of table (with_mine v n)) t.rests.becomes

  pub same_memory : (team : ℕ) (tally : Tally) → Remembers v team tally → Remembers w team tally
  same_memory team tally r =
      subst (λ (u : Sight). Remembers u team tally) (sym (t.view ∙ ap (with_mine v) t.rests.becomes))
      (record { alone = (refl, r.alone.1); team_is = r.team_is; team_below = r.team_below; few_teams = r.few_teams; tally_is = r.tally_is })

pub published : (cell found : ℕ) (c : Cell) (key : Key) (v middle w : Sight) (table other : TableId) (p : PassSeen) → FreeTold cell c v middle
    → CallTold (publish (mine_of middle).team cell key) middle found w
    → pass_of table v ≡ p → other ≡ table → Makes (publish p.team cell key) done p (pass_of other w)
published cell found c key v middle w table other p free_told told view tables =
    let same = same_pass cell c v middle free_told table ∙ view in
    call_makes (publish (mine_of middle).team cell key) (publish p.team cell key) done middle w found table other p same
    (ap (λ (q : PassSeen). publish q.team cell key) same) tables told told.tells

pub published_pass : (cell found team : ℕ) (c : Cell) (key : Key) (v middle w : Sight) (tally : Tally) → FreeTold cell c v middle
    → CallTold (publish (mine_of middle).team cell key) middle found w
    → IsPass v team tally → IsPass w team tally
published_pass cell found team c key v middle w tally free_told told p =
    rested w team tally tally
    (remembers (publish (mine_of middle).team cell key) told.reply middle w told.held told.called team tally
    (same_memory cell c v middle free_told team tally (remembered v team tally p))) told.rests refl

-- ---- a claim that takes, and the clearing

pub takes_both : (cell serial found : ℕ) (key : Key) (v middle w : Sight) (table between other : TableId) (p : PassSeen)
    → TakenTold cell serial key v middle → CallTold (clear (mine_of middle).team cell) middle found w
    → pass_of table v ≡ p → between ≡ table → other ≡ between → Takes cell serial key p (pass_of other w)
takes_both cell serial found key v middle w table between other p taken_told told view tables more =
    let team : (mine_of middle).team ≡ p.team =
    team_stays (claim (mine_of v).team cell serial) (taken key) v middle taken_told.held taken_told.called ∙ ap (λ (q : PassSeen). q.team) view in record {
      between = pass_of between middle;
      claims = called_makes (claim (mine_of v).team cell serial) (claim p.team cell serial) (taken key) v middle taken_told.held table between p view
          (ap (λ (q : PassSeen). claim q.team cell serial) view) tables taken_told.called;
      clears = call_makes (clear (mine_of middle).team cell) (clear p.team cell) cleared middle w found between other (pass_of between middle) refl
          (ap (λ t. clear t cell) team) more told told.tells;
    }

pub taken_pass : (cell serial found team : ℕ) (key : Key) (v middle w : Sight) (tally : Tally) → TakenTold cell serial key v middle
    → CallTold (clear (mine_of middle).team cell) middle found w
    → IsPass v team tally → IsPass w team tally
taken_pass cell serial found team key v middle w tally taken_told told p =
    rested w team tally tally
    (remembers (clear (mine_of middle).team cell) told.reply middle w told.held told.called team tally
    (remembers (claim (mine_of v).team cell serial) (taken key) v middle taken_told.held taken_told.called team tally (remembered v team tally p))) told.rests
    refl

-- the branch in the slot that was taken last
abbrev branch_in : {B : Type 0} → B → List (ℕ × Option B) → B
branch_in other [] = other
branch_in other ((cell, None) ∷ slots) = other
branch_in other ((cell, Some branch) ∷ slots) = branch

pub same_branch : {B : Type 0} (cell : ℕ) (one other : B) (slots : List (ℕ × Option B)) → slots ≡ (cell, Some one) ∷ []
    → slots ≡ (cell, Some other) ∷ [] → one ≡ other
same_branch cell one other slots e f = ap (branch_in one) (sym e ∙ f)
