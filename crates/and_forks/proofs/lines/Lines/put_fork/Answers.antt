use Rattle.std.proofs.Common.{codes, refl, map}
use Rattle.std.specs.Fmt.{decimal}
use Rattle.and_model.specs.declared.numbers.ClauseNo.{ClauseNo}
use Rattle.and_fork_texts.specs.Texts.{fork, numbers_text}
use Rattle.and_forks.proofs.WrittenLines.{two_parts, line_added}
use Rattle.and_forks.proofs.lines.Lines.put_fork.Goals as goal

pub returns : goal.returns
returns c = λ lines written.
    line_added lines (record { depth = c.args.depth; node = fork (map (λ (n : ClauseNo). n.0) c.args.clauses.now) }) c.args.self.now _ (record {
      text = two_parts c.args.self.now.text (decimal c.args.depth) (codes "fork") (numbers_text (map (λ (n : ClauseNo). n.0) c.args.clauses.now))
          c.write_depth.new.text c.append.new.self c.write_numbers.new.text c.append-2.new.self
          c.in_ok-write_depth.ensures c.in_ok-append.ensures c.in_ok-write_numbers.ensures c.in_ok-append-2.ensures;
      forks = c.saturating_add-self.ensures;
      failed = refl;
      answers = refl;
      floundered = refl;
    }) written
