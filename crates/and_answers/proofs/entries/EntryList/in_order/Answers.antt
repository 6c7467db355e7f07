use Rattle.std.proofs.Common.{◌++◌, List, map, ap, ◌∙◌, subst}
use Rattle.std.specs.List.Sorted.{IsPermutation}
use Rattle.std.proofs.lemmas.List.Sorted.{IsPermutation-trans}
use Rattle.and_model.specs.Listing
use Rattle.and_answers.specs.Kept.{entry_of}
use Rattle.and_answers.specs.Runs.{entries_of}
use Rattle.and_answers.specs.declared.found.Entry.{Entry}
use Rattle.and_answers.proofs.KeptLemmas.{kept_moved}
use Rattle.and_answers.proofs.entries.EntryList.in_order.Goals as goal

pub runs_of-requires : goal.runs_of-requires
runs_of-requires c =
    ap (λ (es : List Entry). map (λ (e : Listing.Entry). e.code) (map entry_of es)) c.self.view_is ∙ c.requires

pub invariant_of-result : goal.invariant_of-result
invariant_of-result c =
    let old : List Entry = c.self.inside.entries.items in
    let back = c.in_ok-put_back.ensures in
    let items = back.entries ∙ ap (λ (es : List Entry). es ++ entries_of back.tails) c.in_ok-runs.ensures.none in
    let moved : IsPermutation old (entries_of back.tails) =
    IsPermutation-trans _ _ _ c.in_ok-runs.ensures.same (IsPermutation-trans _ _ _ c.in_ok-one.ensures.same back.same) in
    kept_moved c.self.inside.lines old _ (entries_of back.tails) items moved c.self.invariant

pub returns : goal.returns
returns c =
    let old : List Entry = c.self.inside.entries.items in
    let back = c.in_ok-put_back.ensures in
    let items = back.entries ∙ ap (λ (es : List Entry). es ++ entries_of back.tails) c.in_ok-runs.ensures.none in
    let moved : IsPermutation old (entries_of back.tails) =
    IsPermutation-trans _ _ _ c.in_ok-runs.ensures.same (IsPermutation-trans _ _ _ c.in_ok-one.ensures.same back.same) in
    record {
      tails = back.tails;
      rises = back.rises;
      entries = items;
      same = subst (λ (es : List Entry). IsPermutation es (entries_of back.tails)) c.self.view_is moved;
    }
