use Rattle.std.proofs.Common.{◌++◌, ◌∙◌, ap, codes, refl}
use Rattle.std.specs.Fmt.{decimal}
use Rattle.and_model.specs.Lines.{Bytes}
use Rattle.and_model.specs.Listing.{answer}
use Rattle.and_fork_texts.specs.Texts.{ended}
use Rattle.and_forks.proofs.WrittenLines.{two_parts, line_added}
use Rattle.and_forks.proofs.lines.Lines.put_answer.Goals as goal

pub returns : goal.returns
returns c = λ lines written.
    line_added lines (record { depth = c.args.depth; node = ended (answer c.args.line.now) }) c.args.self.now _ (record {
      text = two_parts c.args.self.now.text (decimal c.args.depth) (codes "answer ") c.args.line.now c.write_depth.new.text
          c.append.new.self c.append-2.new.self c.append-3.new.self c.in_ok-write_depth.ensures c.in_ok-append.ensures
          (c.in_ok-append-2.ensures ∙ ap (λ (bs : Bytes). c.append.new.self ++ bs) c.bytes.ensures) c.in_ok-append-3.ensures;
      forks = refl;
      failed = refl;
      answers = c.saturating_add-self.ensures;
      floundered = refl;
    }) written
