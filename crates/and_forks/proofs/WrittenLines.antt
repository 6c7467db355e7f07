-- A line is written behind others.
use Rattle.std.proofs.Common.{ℕ, ◌+◌, ◌-◌, ◌^◌, ◌≡◌, Bool, true, false, List, [], ◌∷◌, ◌++◌, cond, refl, sym, ap, ◌∙◌, arith, min}
use Rattle.std.proofs.Common.{map, drop}
use Rattle.std.specs.Prelude.{slice_get, Some}
use Rattle.std.specs.Fmt.{decimal}
use Rattle.std.proofs.lemmas.List.{append_assoc, drop_more}
use Rattle.std.proofs.lemmas.Option.{slice_get_within, get_or_from_slice_get}
use Rattle.std.proofs.lemmas.List.Sums.{sum_by-append}
use Rattle.and_model.specs.Lines.{Bytes}
use Rattle.and_model.specs.declared.numbers.ClauseNo.{ClauseNo}
use Rattle.and_search_laws.specs.Found.{kept_count}
use Rattle.and_fork_texts.specs.Texts.{Node, Line, text_of, node_text, numbers_text, count_of, is_fork, is_failed, is_answer, is_floundered}
use Rattle.and_forks.specs.Written.{AreWritten}
use Rattle.and_forks.specs.declared.lines.Lines.{Lines}

-- the text of two lists of lines
text_joined : (ls ks : List Line) → text_of (ls ++ ks) ≡ text_of ls ++ text_of ks
text_joined [] ks = refl
text_joined (l ∷ ls) ks =
    ap (λ (bs : Bytes). decimal l.depth ++ 32 ∷ node_text l.node ++ 10 ∷ bs) (text_joined ls ks)
    ∙ sym (append_assoc (decimal l.depth ++ 32 ∷ node_text l.node) (10 ∷ text_of ls) (text_of ks))

-- a count that is kept, with one more where there is one
abbrev pub plus : Bool → ℕ → ℕ
plus more n = cond more (min (n + 1) (2 ^ 64 - 1)) n

kept_plus : (more : Bool) (kept count : ℕ) → kept ≡ kept_count count → plus more kept ≡ kept_count (count + cond more 1 0)
kept_plus false kept count e = e ∙ ap (λ n. kept_count n) (omega arith)
kept_plus true kept count e = omega arith

-- One line more is written.
pub record IsAdded (l : Line) (old new : Lines) : Type 0 where
  pub text : new.text ≡ old.text ++ text_of (l ∷ [])
  pub forks : new.forks ≡ plus (is_fork l.node) old.forks
  pub failed : new.failed ≡ plus (is_failed l.node) old.failed
  pub answers : new.answers ≡ plus (is_answer l.node) old.answers
  pub floundered : new.floundered ≡ plus (is_floundered l.node) old.floundered

count_more : (is : Node → Bool) (ls : List Line) (l : Line) (old new : ℕ) → new ≡ plus (is l.node) old → old ≡ kept_count (count_of is ls)
    → new ≡ kept_count (count_of is (ls ++ l ∷ []))
count_more is ls l old new e k =
    e ∙ kept_plus (is l.node) old (count_of is ls) k
    ∙ ap (λ n. kept_count n) (ap (λ n. count_of is ls + n) (omega arith) ∙ sym (sum_by-append (λ (x : Line). cond (is x.node) 1 0) ls (l ∷ [])))

pub line_added : (ls : List Line) (l : Line) (old new : Lines) → IsAdded l old new → AreWritten ls old → AreWritten (ls ++ l ∷ []) new
line_added ls l old new x w = record {
  text = x.text ∙ ap (λ (bs : Bytes). bs ++ text_of (l ∷ [])) w.text ∙ sym (text_joined ls (l ∷ []));
  forks = count_more is_fork ls l old.forks new.forks x.forks w.forks;
  failed = count_more is_failed ls l old.failed new.failed x.failed w.failed;
  answers = count_more is_answer ls l old.answers new.answers x.answers w.answers;
  floundered = count_more is_floundered ls l old.floundered new.floundered x.floundered w.floundered;
}

-- the text of a line: its depth and a space, what it tells, and a newline;
pub one_part : (old depth told begun new : Bytes) → begun ≡ old ++ depth ++ 32 ∷ [] → new ≡ begun ++ (told ++ 10 ∷ [])
    → new ≡ old ++ (depth ++ 32 ∷ told ++ 10 ∷ [])
one_part old depth told begun new first second =
    second ∙ ap (λ (bs : Bytes). bs ++ (told ++ 10 ∷ [])) first ∙ spaced
  where
    spaced : (old ++ depth ++ 32 ∷ []) ++ (told ++ 10 ∷ []) ≡ old ++ (depth ++ 32 ∷ told ++ 10 ∷ [])
    spaced = simp append_assoc

-- (what it tells in two parts)
pub two_parts : (old depth word rest begun said all new : Bytes) → begun ≡ old ++ depth ++ 32 ∷ [] → said ≡ begun ++ word
    → all ≡ said ++ rest → new ≡ all ++ 10 ∷ [] → new ≡ old ++ (depth ++ 32 ∷ (word ++ rest) ++ 10 ∷ [])
two_parts old depth word rest begun said all new first second third last =
    one_part old depth (word ++ rest) begun new first
    (last ∙ ap (λ (bs : Bytes). bs ++ 10 ∷ []) (third ∙ ap (λ (bs : Bytes). bs ++ rest) second) ∙ joined)
  where
    joined : begun ++ word ++ rest ++ 10 ∷ [] ≡ begun ++ (word ++ rest ++ 10 ∷ [])
    joined = simp append_assoc

-- A clause's number more is written.
pub number_more : (cs : List ClauseNo) (i : ℕ) (c : ClauseNo) (text said new total shown : Bytes) → slice_get cs i ≡ Some c
    → said ≡ text ++ 32 ∷ [] → new ≡ said ++ shown → shown ≡ decimal c.0
    → text ++ numbers_text (map (λ (d : ClauseNo). d.0) (drop i cs)) ≡ total
    → new ++ numbers_text (map (λ (d : ClauseNo). d.0) (drop (i + 1) cs)) ≡ total
number_more cs i c text said new total shown at first second is so_far =
    let rest : Bytes = numbers_text (map (λ (d : ClauseNo). d.0) (drop (i + 1) cs)) in
    let here : numbers_text (map (λ (d : ClauseNo). d.0) (drop i cs)) ≡ 32 ∷ decimal c.0 ++ rest =
    ap (λ (ds : List ClauseNo). numbers_text (map (λ (d : ClauseNo). d.0) ds)) (drop_more cs i c (slice_get_within cs i c at))
    ∙ ap (λ (d : ClauseNo). 32 ∷ decimal d.0 ++ rest) (get_or_from_slice_get cs i c c at) in
    let written : new ≡ text ++ 32 ∷ [] ++ decimal c.0 =
    second ∙ ap (λ (bs : Bytes). bs ++ shown) first ∙ ap (λ (bs : Bytes). text ++ 32 ∷ [] ++ bs) is in
    ap (λ (bs : Bytes). bs ++ rest) written ∙ append_assoc (text ++ 32 ∷ []) (decimal c.0) rest
    ∙ append_assoc text (32 ∷ []) (decimal c.0 ++ rest) ∙ ap (λ (bs : Bytes). text ++ bs) (sym here) ∙ so_far
