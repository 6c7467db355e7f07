-- Bodies as lists of marks, in the order of the text.
use Rattle.std.specs.Prelude.{ℕ, List, [], ◌∷◌, ◌++◌, map}
use Rattle.and_model.specs.Terms.{Term}
use Rattle.and_model.specs.Programs.{Item, call, equal, arithmetic, fail}
use Rattle.and_source.specs.Source.{SourceItems, no_items, plain, either, Alternatives, no_alternatives, alternative}
use Rattle.and_program.specs.Skeletons.{Shape, item_of}
use Rattle.and_program.specs.Items.{node_item}
use Rattle.and_judging.specs.declared.body.BodyToken.{BodyToken}
use Rattle.and_judging.specs.declared.body.BodyToken.TheVariants.{Item as ItemToken, Open, Next, Close}

-- An item; a disjunction begins, by its number; its next alternative begins, by its clause number; it ends.
pub data Mark : Type 0 where
  item : Item → Mark
  open_mark : ℕ → Mark
  next : ℕ → Mark
  close : Mark

-- what a token of the code stands for
abbrev pub mark_of : List Shape → BodyToken → Mark
mark_of ss (ItemToken i) = item (item_of ss (node_item i))
mark_of ss (Open d) = open_mark d
mark_of ss (Next c) = next c
mark_of ss Close = close

abbrev pub marks_in : List Shape → List BodyToken → List Mark
marks_in ss tokens = map (mark_of ss) tokens

-- the calls among marks
abbrev pub calls_in_marks : List Mark → List Term
calls_in_marks [] = []
calls_in_marks (item (call g) ∷ ms) = g ∷ calls_in_marks ms
calls_in_marks (item (equal a b) ∷ ms) = calls_in_marks ms
calls_in_marks (item (arithmetic a) ∷ ms) = calls_in_marks ms
calls_in_marks (item fail ∷ ms) = calls_in_marks ms
calls_in_marks (open_mark d ∷ ms) = calls_in_marks ms
calls_in_marks (next c ∷ ms) = calls_in_marks ms
calls_in_marks (close ∷ ms) = calls_in_marks ms

abbrev mutual
  -- the marks of items, where each disjunction has its number in place of its name
  pub marks_of : SourceItems → List Mark
  marks_of no_items = []
  marks_of (plain i items) = item i ∷ marks_of items
  marks_of (either d alts items) = open_mark d ∷ marks_of_alternatives alts ++ close ∷ marks_of items

  pub marks_of_alternatives : Alternatives → List Mark
  marks_of_alternatives no_alternatives = []
  marks_of_alternatives (alternative c items alts) = next c ∷ marks_of items ++ marks_of_alternatives alts
