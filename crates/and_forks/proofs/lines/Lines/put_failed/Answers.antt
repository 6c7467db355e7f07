use Rattle.std.proofs.Common.{codes, refl}
use Rattle.std.specs.Fmt.{decimal}
use Rattle.and_fork_texts.specs.Texts.{failed}
use Rattle.and_forks.proofs.WrittenLines.{one_part, line_added}
use Rattle.and_forks.proofs.lines.Lines.put_failed.Goals as goal

pub returns : goal.returns
returns c = λ lines written.
    line_added lines (record { depth = c.args.depth; node = failed }) c.args.self.now _ (record {
      text = one_part c.args.self.now.text (decimal c.args.depth) (codes "failed") c.write_depth.new.text c.append.new.self
          c.in_ok-write_depth.ensures c.in_ok-append.ensures;
      forks = refl;
      failed = c.saturating_add-self.ensures;
      answers = refl;
      floundered = refl;
    }) written
