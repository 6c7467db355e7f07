-- What a plain descent comes to, by what became of the last pair.
use Rattle.std.proofs.Common.{ℕ, ◌≡◌, ◌≢◌, List, [], ◌∷◌, ◌++◌, refl, subst, ◌∙◌}
use Rattle.std.specs.Prelude.{Contains}
use Rattle.and_model.specs.declared.reference.Ref.{Ref}
use Rattle.and_program.specs.Skeletons.{AllFall}
use Rattle.and_cells.specs.Ranges.{NamedProgram}
use Rattle.and_cells.specs.Seen.{Seen}
use Rattle.and_cells.specs.Parts.{parts_of}
use Rattle.and_unify.specs.declared.pairs.Pair.{Pair}
use Rattle.and_unify.specs.declared.unifying.Unified.{Unified}
use Rattle.and_unify.specs.declared.unifying.Unified.TheVariants.{Same, Apart, PutOff, Memory}
use Rattle.and_unify.specs.declared.descending.Descended.TheVariants.{Over, Left}
use Rattle.and_unify.specs.Pairs.{AreInRange, AreWritten}
use Rattle.and_unify.specs.Turns.{pairs_of}
use Rattle.and_unify.specs.Unifying.{Unifies}
use Rattle.and_unify.specs.Descending.{ComesDown}
use Rattle.and_unify.specs.Running.{Runs, BreaksOff, arguments_of_both}
use Rattle.and_unify.proofs.TurnAnswers.{sets_end}
use Rattle.and_unify.proofs.DescentKept.{Held, IsOutOr, held_stopped, descends_end, same_end, apart_met, memory_end}
use Rattle.and_unify.proofs.DescentRuns.{held_asked, held_first, held_put}

module _ (P : NamedProgram) (old new : Seen) (asked : List Pair) (began last : List ℕ) (fall : AllFall 0 P.skeleton.nodes)
    (range : AreInRange P old.words asked)
    (written : AreWritten old asked) where
  -- What is kept where pairs are left,
  pub left_held : (left : List Pair) → Runs P old asked began new left last → Held P old asked began new (Contains left) last
  left_held left runs = held_asked P old asked began new left last fall range written runs

  -- and where two are apart, before these were looked at
  pub broken_held : (one other : Ref) (b : BreaksOff P old new asked began last one other) → Held P old asked began b.mid (IsOutOr b.p b.rest) last
  broken_held one other b =
      held_first P old asked began b.mid last b.p b.rest (held_asked P old asked began b.mid (b.p ∷ b.rest) last fall range written b.runs)

  -- and now.
  pub broken_now : (one other : Ref) (b : BreaksOff P old new asked began last one other) → Held P old asked began new (IsOutOr b.p b.rest) last
  broken_now one other b =
      held_stopped P old asked began b.mid new last last (IsOutOr b.p b.rest) (b.meets.lead.reads, refl) (broken_held one other b)

  -- It is over with an answer by which nothing is put off:
  over_with : (left : List Pair) (Todo : Pair → Type 0) (answer : Unified) → answer ≢ PutOff → Held P old asked began new Todo last
      → Unifies P old new asked left answer → ComesDown P old new asked left began last (Over answer)
  over_with left Todo answer not_off h unifies = record {
    keeps = h.kept.keeps;
    over = λ unified is.
        let same : answer ≡ unified = cc in
        (subst (Unifies P old new asked left) same unifies, λ off. not_off (same ∙ off));
    not_over = λ is. absurd (cc);
    sets = sets_end P old asked began new h.links Todo last h.kept;
    lists = h.kept.lists;
  }

  -- no pair is left,
  pub none_left : (left : List Pair) → left ≡ [] → Runs P old asked began new left last → ComesDown P old new asked left began last (Over Same)
  none_left left none runs =
      let h = left_held left runs in
      over_with left (Contains left) Same (λ e. absurd (cc)) h (same_end P old new asked began last left left fall range (none, none) h)

  -- two are apart,
  pub two_apart : (left : List Pair) (one other : Ref) → BreaksOff P old new asked began last one other
      → ComesDown P old new asked left began last (Over (Apart one other))
  two_apart left one other b =
      over_with left (IsOutOr b.p b.rest) (Apart one other) (λ e. absurd (cc)) (broken_now one other b)
      (apart_met P old b.mid new asked began last b.rest left b.p one other b.meets (broken_held one other b))

  -- or memory is wanting.
  pub memory_wanting : (todo left : List Pair) → Runs P old asked began new todo last → ComesDown P old new asked left began last (Over Memory)
  memory_wanting todo left runs =
      let h = left_held todo runs in
      over_with left (Contains todo) Memory (λ e. absurd (cc)) h (memory_end P old new asked began last left (Contains todo) h)

  -- Else the arguments of the structures that were gone on with are put on the list.
  pub some_left : (both : Pair) (list longer : List Pair) (Q : NamedProgram) → P ≡ Q → longer ≡ list ++ pairs_of (parts_of Q both.left) (parts_of Q both.right)
      → Runs P old asked began new (arguments_of_both P both ++ list) last → ComesDown P old new asked longer began last Left
  some_left both list longer Q named gains runs =
      let h = held_put P old asked began new last list longer both Q named gains (left_held (arguments_of_both P both ++ list) runs) in
      record {
        keeps = h.kept.keeps;
        over = λ unified is. absurd (cc);
        not_over = λ is. descends_end P old new asked began last longer fall h;
        sets = sets_end P old asked began new h.links (Contains longer) last h.kept;
        lists = h.kept.lists;
      }
