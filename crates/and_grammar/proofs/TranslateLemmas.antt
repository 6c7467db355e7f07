-- From the parts of a rule to its clause.
use Rattle.std.proofs.Common.{ℕ, suc, ◌+◌, ◌-◌, ◌<◌, ◌≤◌, ◌≡◌, IsTrue, Bool, true, false, not, cond, ◌||◌, List, [], ◌∷◌, ◌++◌, length, map, get_or, codes}
use Rattle.std.proofs.Common.{Option}
use Rattle.std.proofs.Common.{Some, None, refl, sym, ap, ◌∙◌, arith, subst, Result, Ok, Err, OnOk, IfOk, IfErr, IfSome}
use Rattle.std.specs.Str.{bytes_eq}
use Rattle.std.proofs.lemmas.Slice.Eq.{bytes_eq-Decides}
use Rattle.std.proofs.lemmas.List.{length-append}
use Rattle.and_model.specs.Lines.{Bytes}
use Rattle.and_syntax.specs.Written as written
use Rattle.and_syntax.specs.Written.{Written, Many, compound, none, more}
use Rattle.and_syntax.specs.Tables.{Fault, first_of, not_pure, too_big, arguments}
use Rattle.and_drafts.specs.Parts.{many}
use Rattle.and_drafts.specs.Drafts.{Draft, draft_of}
use Rattle.and_drafts.specs.declared.draft.ClauseDraft.{ClauseDraft}
use Rattle.and_program.specs.Skeletons.{Falls}
use Rattle.and_drafts.proofs.Telling.{last_term, arguments_fall}
use Rattle.and_translation.specs.Bodies.{Body, body_of, has_impure, has_wide, is_head, is_wide_head, is_rule, is_arrow, first_terminals, behind_first}
use Rattle.and_translation.specs.Translation.{Walk, state, list_before, with_states, head_between, joined, walk, rule_fault, rule_clause, translation_fault}
use Rattle.and_translation.specs.Translation.{translated}
use Rattle.and_grammar.specs.declared.fault.RuleFault.{RuleFault}
use Rattle.and_grammar.specs.Checked.{fault_of}
use Rattle.and_grammar.specs.Views.{term_at, arguments_at, body_at, Adds, Becomes}
use Rattle.and_grammar.specs.Translated.{Translates, Answers, AnswersSides}
use Rattle.and_grammar.proofs.Viewing.{arguments_are}

-- a draft of one term
pub sole : (ws : List Written) → length ws ≡ 1 → (w : Written) × (ws ≡ w ∷ [])
sole [] e = absurd (omega arith)
sole (w ∷ []) e = (w, refl)
sole (w ∷ v ∷ ws) e = absurd (omega arith)

-- its last part is the end of the term
pub whole_term : (d : ClauseDraft) → length (draft_of d).finished ≡ 1
    → (0 < (draft_of d).parts) × ((draft_of d).finished ≡ term_at d ((draft_of d).parts - 1) ∷ [])
whole_term d e =
    let s = sole (draft_of d).finished e in
    let l = last_term d s.0 s.1 in
    (l.0, s.1 ∙ ap (λ (w : Written). w ∷ []) (sym l.1))

pub rule_whole : (ws : List Written) → IsTrue (is_rule ws) → length ws ≡ 1
rule_whole [] h = absurd (cc)
rule_whole (w ∷ []) h = refl
rule_whole (w ∷ v ∷ ws) h = absurd (cc)

not_pure_first : (b : Bool) (c : Bool) (x : Fault) (rest : Option Fault) → cond (not b || c) (Some x) rest ≡ None → b ≡ true
not_pure_first true c x rest e = refl
not_pure_first false c x rest e = absurd (cc)

-- where nothing is wrong there is a head
pub has_head : (h : Written) (b : Body) → rule_fault h b ≡ None → is_head h ≡ true
has_head h b e = not_pure_first (is_head h) (has_impure b) _ _ e

-- nothing is wrong with a head and a body, each of which is sound
pub no_fault : (h : Written) (b : Body) → is_head h ≡ true → is_wide_head h ≡ false → has_impure b ≡ false → has_wide b ≡ false → rule_fault h b ≡ None
no_fault h b head narrow pure few = by (is_head h) (is_wide_head h) (has_impure b) (has_wide b) head narrow pure few
  where
    by : (s t u v : Bool) → s ≡ true → t ≡ false → u ≡ false → v ≡ false
        → first_of ((not s || u, not_pure) ∷ (t || v, too_big arguments) ∷ []) ≡ None
    by true false false false e f g i = refl
    by false t u v e f g i = absurd (cc)
    by true true u v e f g i = absurd (cc)
    by true false true v e f g i = absurd (cc)
    by true false false true e f g i = absurd (cc)

pub record Named (w : Written) : Type 0 where
  pub name : Bytes
  pub arguments : Many
  pub same : w ≡ compound name arguments

pub head_named : (w : Written) → is_head w ≡ true → Named w
head_named (written.variable x) h = absurd (cc)
head_named (written.integer z) h = absurd (cc)
head_named (compound c ts) h = record { name = c; arguments = ts; same = refl }

-- a sound rule's clause, or want of memory
pub sound_sides : (d : ClauseDraft) (h : Written) (b : Body) (c : ClauseDraft) → rule_fault h b ≡ None
    → ((draft_of c).line ≡ (draft_of d).line) × ((draft_of c).finished ≡ rule_clause h b ∷ []) → AnswersSides d h b (Ok c)
sound_sides d h b c fine e = ((fine, e.0, e.1), tt)

module _ (d : ClauseDraft) (r : Result ClauseDraft RuleFault) where
  -- the answer of a head and a body is the rule's
  pub sides_answer : (h b : Written) → (draft_of d).finished ≡ compound (codes "-->") (more h (more b none)) ∷ [] → AnswersSides d h (body_of b) r
      → Answers (draft_of d) r
  sides_answer h b is a w e =
      let one : compound (codes "-->") (more h (more b none)) ∷ [] ≡ w ∷ [] = sym is ∙ e in
      let same : compound (codes "-->") (more h (more b none)) ≡ w = cc in
      subst (λ (v : Written). IfOk r (Translates (draft_of d) v) × IfErr r (λ e. IfSome (fault_of e) (λ f. translation_fault v ≡ Some f))) same
      (by r a)
    where
      by : (s : Result ClauseDraft RuleFault) → AnswersSides d h (body_of b) s
          → IfOk s (Translates (draft_of d) (compound (codes "-->") (more h (more b none))))
          × IfErr s (λ e. IfSome (fault_of e) (λ f. translation_fault (compound (codes "-->") (more h (more b none))) ≡ Some f))
      by (Ok x) t = (record { sound = t.0.0; line = t.0.1; term = t.0.2 }, tt)
      by (Err x) t = (tt, t.1)

-- a rule is an arrow between two terms
pub arrow_sides : (ws : List Written) (c : Bytes) (h b : Written) → IsTrue (is_rule ws) → ws ≡ compound c (more h (more b none)) ∷ []
    → ws ≡ compound (codes "-->") (more h (more b none)) ∷ []
arrow_sides ws c h b is e =
    let arrow : IsTrue (bytes_eq c (codes "-->")) = subst (λ (vs : List Written). IsTrue (is_rule vs)) e is in
    let name : c ≡ codes "-->" = (bytes_eq-Decides c (codes "-->")).0 arrow in
    e ∙ ap (λ (x : Bytes). compound x (more h (more b none)) ∷ []) name

arrow_named : (w : Written) → IsTrue (is_arrow w) → Named w
arrow_named (written.variable x) h = absurd (cc)
arrow_named (written.integer z) h = absurd (cc)
arrow_named (compound c ts) h = record { name = c; arguments = ts; same = refl }

-- the sides of a rule, by the two arguments of its root
pub record Sides (d : ClauseDraft) (l r : ℕ) : Type 0 where
  pub low : l < (draft_of d).parts
  pub high : r < (draft_of d).parts
  pub rule : (draft_of d).finished ≡ compound (codes "-->") (more (term_at d l) (more (term_at d r) none)) ∷ []

pub rule_sides : (d : ClauseDraft) (count : ℕ) (ns : List ℕ) → IsTrue (is_rule (draft_of d).finished) → count ≡ (draft_of d).parts
    → ns ≡ arguments_at d (count - 1) → 2 ≤ length ns → length ns < 3 → Sides d (get_or ns 0 0) (get_or ns 1 0)
rule_sides d count [] is counted e low high = absurd (omega arith)
rule_sides d count (l ∷ []) is counted e low high = absurd (omega arith)
rule_sides d count (l ∷ r ∷ m ∷ ns) is counted e low high = absurd (omega arith)
rule_sides d count (l ∷ r ∷ []) is counted e low high =
    let root : ℕ = (draft_of d).parts - 1 in
    let whole = whole_term d (rule_whole (draft_of d).finished is) in
    let below : root < (draft_of d).parts = omega (arith, whole.0) in
    let are : l ∷ r ∷ [] ≡ arguments_at d root = e ∙ ap (λ (k : ℕ). arguments_at d (k - 1)) counted in
    let falls : Falls root (l ∷ r ∷ []) = subst (Falls root) (sym are) (arguments_fall d root below) in
    let arrow : IsTrue (is_arrow (term_at d root)) = subst (λ (ws : List Written). IsTrue (is_rule ws)) whole.1 is in
    let named = arrow_named (term_at d root) arrow in
    let two : more (term_at d l) (more (term_at d r) none) ≡ named.arguments =
    ap (λ (ks : List ℕ). many (map (term_at d) ks)) are ∙ arguments_are d root below named.name named.arguments named.same in
    let seen : (draft_of d).finished ≡ compound named.name (more (term_at d l) (more (term_at d r) none)) ∷ [] =
    whole.1 ∙ ap (λ (w : Written). w ∷ []) (named.same ∙ ap (compound named.name) (sym two)) in
    record {
      low = omega (arith, falls.0, below);
      high = omega (arith, falls.1.0, below);
      rule = arrow_sides (draft_of d).finished named.name (term_at d l) (term_at d r) is seen;
    }
