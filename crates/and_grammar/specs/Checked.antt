-- What is wrong with a rule.
use Rattle.std.specs.Prelude.{ℕ, ◌+◌, ◌<◌, ◌≡◌, Bool, true, false, not, ◌||◌, codes, List, [], ◌∷◌, Option, Some, None}
use Rattle.std.specs.Str.{bytes_eq}
use Rattle.and_model.specs.Lines.{Bytes}
use Rattle.and_syntax.specs.Written.{nodes_of, has}
use Rattle.and_program.specs.Skeletons.{Falls}
use Rattle.and_drafts.specs.Drafts.{draft_of}
use Rattle.and_grammar.specs.declared.checking.Found.{Found}
use Rattle.and_syntax.specs.Tables.{Fault, not_pure, too_big, arguments}
use Rattle.and_translation.specs.Bodies.{has_impure, has_wide}
use Rattle.and_drafts.specs.declared.draft.ClauseDraft.{ClauseDraft}
use Rattle.and_grammar.specs.Views.{term_at, body_at}
use Rattle.and_grammar.specs.declared.fault.RuleFault.{RuleFault}
use Rattle.and_grammar.specs.declared.fault.RuleFault.TheVariants.{NotPure, TooManyArguments, Memory}

-- a fault of the code; want of memory is none
abbrev pub fault_of : RuleFault → Option Fault
fault_of NotPure = Some not_pure
fault_of TooManyArguments = Some (too_big arguments)
fault_of Memory = None

-- some body at these parts has what no rule has
abbrev pub are_impure : ClauseDraft → List ℕ → Bool
are_impure d [] = false
are_impure d (n ∷ ns) = has_impure (body_at d n) || are_impure d ns

-- some body at these parts has too many arguments
abbrev pub are_wide : ClauseDraft → List ℕ → Bool
are_wide d [] = false
are_wide d (n ∷ ns) = has_wide (body_at d n) || are_wide d ns

-- how many nodes the terms at these parts have
abbrev pub sizes : ClauseDraft → List ℕ → ℕ
sizes d [] = 0
sizes d (n ∷ ns) = nodes_of (term_at d n) + sizes d ns

-- A look at bodies: what was found and what is still to be found stays the same, and less is left to look at.
pub record LooksAt (d : ClauseDraft) (before after : List ℕ) (old new : Found) : Type 0 where
  pub impure : (new.impure || are_impure d after) ≡ (old.impure || are_impure d before)
  pub wide : (new.wide || are_wide d after) ≡ (old.wide || are_wide d before)
  pub within : Falls (draft_of d).parts before → Falls (draft_of d).parts after
  pub less : sizes d after < sizes d before

-- the names of two arguments that no head has
abbrev pub pair_names : List Bytes
pair_names = codes "." ∷ codes "," ∷ []

-- a name with arguments may be a head
abbrev pub head_part : Bytes → List ℕ → Bool
head_part c [] = not (bytes_eq c (codes "[]"))
head_part c (n ∷ []) = true
head_part c (l ∷ r ∷ []) = not (has c pair_names)
head_part c (l ∷ m ∷ r ∷ ns) = true
