use Rattle.std.proofs.Common.{◌≤◌, ◌≡◌, List, [], ◌∷◌, ◌++◌, length, take, drop}
use Rattle.and_syntax.specs.Written.{Written}
use Rattle.and_drafts.specs.Drafts.{draft_of}
use Rattle.and_grammar.specs.Copies.{chain}
use Rattle.and_grammar.proofs.copying.put_chain.Given as goal

abbrev pub invariant-loop-left : goal.invariant-loop-left
invariant-loop-left l = record {
  few : l.left ≤ l.count;
  line : (draft_of l.out).line ≡ (draft_of l.fn.out).line;
  chained : (ws us : List Written) (last : Written) → (draft_of l.fn.out).finished ≡ ws ++ (us ++ last ∷ []) → length us ≡ l.count
      → (draft_of l.out).finished ≡ ws ++ (take l.left us ++ chain l.name (drop l.left us) last ∷ []);
}

abbrev pub decreases-loop-left : goal.decreases-loop-left
decreases-loop-left l = l.left
