-- The status of a fork tree goes with its lines.
use Rattle.std.proofs.Common.{ℕ, ◌≡◌, ◌<◌, Bool, true, false, List, ◌++◌, refl, sym, subst, arith}
use Rattle.std.specs.Prelude.{ltb, if◌then◌else◌}
use Rattle.std.proofs.lemmas.Bool.{ltb-true, ltb-false}
use Rattle.and_model.specs.Lines.{Bytes}
use Rattle.and_model.specs.Output.{complete, last_lines}
use Rattle.and_model.specs.Programs.{Program}
use Rattle.and_model.specs.Trees.{blank, query_agenda}
use Rattle.and_search_laws.specs.Found.{kept_count}
use Rattle.and_fork_texts.specs.Texts.{Line, TreeText, text_of, count_of, is_answer, is_floundered}
use Rattle.and_questions.specs.Forked.{WasForked, tree_status}
use Rattle.and_status.specs.declared.status.Status.{Status}
use Rattle.and_status.specs.declared.status.Status.TheVariants.{Answers, NoAnswer, Floundered}

none_of : (n : ℕ) → ltb 0 n ≡ false → n ≡ 0
none_of n e = let few = ltb-false 0 n e in omega (arith, few)

module _ (P : Program) (limit : ℕ) (lines : List Line) (out : Bytes) (tree : TreeText P limit (blank (query_agenda P)) 0 lines)
    (written : out ≡ text_of lines ++ last_lines complete) where
  by_answers : (answers floundered : ℕ) → answers ≡ kept_count (count_of is_answer lines) → floundered ≡ kept_count (count_of is_floundered lines)
      → (some flounder : Bool) → ltb 0 answers ≡ some → ltb 0 floundered ≡ flounder
      → WasForked limit P (if flounder then Floundered else if some then Answers else NoAnswer) out
  by_answers answers floundered a f some true e g = record {
    lines = lines;
    tree = tree;
    written = written;
    has = let more : 0 < floundered = ltb-true 0 floundered g in omega (arith, more, f);
  }
  by_answers answers floundered a f true false e g = record {
    lines = lines;
    tree = tree;
    written = written;
    has = (
      let more : 0 < answers = ltb-true 0 answers e in omega (arith, more, a),
      let none : floundered ≡ 0 = none_of floundered g in omega (arith, none, f),
    );
  }
  by_answers answers floundered a f false false e g = record {
    lines = lines;
    tree = tree;
    written = written;
    has = (
      let none : answers ≡ 0 = none_of answers e in omega (arith, none, a),
      let none : floundered ≡ 0 = none_of floundered g in omega (arith, none, f),
    );
  }

  pub forked_whole : (answers floundered : ℕ) (status : Status) → status ≡ tree_status answers floundered
      → answers ≡ kept_count (count_of is_answer lines) → floundered ≡ kept_count (count_of is_floundered lines)
      → WasForked limit P status out
  forked_whole answers floundered status is a f =
      subst (λ s. WasForked limit P s out) (sym is)
      (by_answers answers floundered a f (ltb 0 answers) (ltb 0 floundered) refl refl)
