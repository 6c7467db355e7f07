-- What `translate` answers.
use Rattle.std.specs.Prelude.{◌≡◌, List, [], ◌∷◌, None, Some, Result, IfOk, IfErr, IfSome}
use Rattle.and_syntax.specs.Written.{Written}
use Rattle.and_translation.specs.Translation.{translated, translation_fault, rule_clause, rule_fault}
use Rattle.and_translation.specs.Bodies.{Body}
use Rattle.and_drafts.specs.Drafts.{Draft, draft_of}
use Rattle.and_drafts.specs.declared.draft.ClauseDraft.{ClauseDraft}
use Rattle.and_grammar.specs.declared.fault.RuleFault.{RuleFault}
use Rattle.and_grammar.specs.Checked.{fault_of}

-- The draft is that of the clause for which a rule stands, on the rule's line, and nothing is wrong with the rule.
pub record Translates (rule : Draft) (w : Written) (clause : ClauseDraft) : Type 0 where
  pub sound : translation_fault w ≡ None
  pub line : (draft_of clause).line ≡ rule.line
  pub term : (draft_of clause).finished ≡ translated w ∷ []

-- Where a draft is answered it is the clause's, and where a fault is, it is the rule's.
abbrev pub Answers : Draft → Result ClauseDraft RuleFault → Type 0
Answers rule r =
    (w : Written) → rule.finished ≡ w ∷ []
    → IfOk r (Translates rule w) × IfErr r (λ e. IfSome (fault_of e) (λ f. translation_fault w ≡ Some f))

-- So it is of a head and a body.
abbrev pub AnswersSides : ClauseDraft → Written → Body → Result ClauseDraft RuleFault → Type 0
AnswersSides rule h b r =
    IfOk r (λ d. (rule_fault h b ≡ None) × ((draft_of d).line ≡ (draft_of rule).line)
    × ((draft_of d).finished ≡ rule_clause h b ∷ []))
    × IfErr r (λ e. IfSome (fault_of e) (λ f. rule_fault h b ≡ Some f))
