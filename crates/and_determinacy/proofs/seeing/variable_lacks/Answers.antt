use Rattle.std.proofs.Common.{ℕ, ◌≡◌, ◌≢◌, ◌<◌, ◌≤◌, ◌∷◌, [], List, length, get_or, sym, ap, ◌∙◌, subst, inl, inr, arith, rules}
use Rattle.std.proofs.lemmas.Bool.{cases_lt}
use Rattle.std.proofs.lemmas.List.{get_or_default}
use Rattle.and_model.specs.Terms.{variable}
use Rattle.and_model.specs.declared.reference.Ref.{Ref}
use Rattle.and_model.specs.declared.reference.Ref.TheVariants.{Free}
use Rattle.and_determinacy.specs.Seeing.{AreLacking, HoldNone, IsPart}
use Rattle.and_determinacy.proofs.SureRefs.{noted_lacks, usable_at}
use Rattle.and_determinacy.proofs.SureSteps.{fresh_lacks, itself_lacks}
use Rattle.and_determinacy.proofs.seeing.variable_lacks.Goals as goal

pub returns-then-place-len : goal.returns-then-place-len
returns-then-place-len g c = λ e.
    let P = g.N.Naming.program in
    let row = c.args.cells.now in
    let held = c.args.held.now.items in
    let given = c.args.given.now.items in
    let counted : c.args.number ≡ length given = search rules in
    subst (λ (gives : List Ref). AreLacking P row held held given gives (c.args.asked.0 ∷ [])) (sym c.in_ok-push.ensures.items)
    (fresh_lacks P row held given c.args.asked.0 (c.requires.asked ∙ ap (variable []) counted))

pub holds_none-requires-clause-part : goal.holds_none-requires-clause-part
holds_none-requires-clause-part g c =
    let P = g.N.Naming.program in
    let given = c.args.given.now.items in
    let k = c.args.number in
    let counted : c.len.result ≡ length given = search rules in
    let again : c.len-2.result ≡ length given = search rules in
    let under : k ≤ length given = subst (λ (n : ℕ). k ≤ n) again c.if-place-len-2.false in
    let low : k < length given = elim (cases_lt k (length given)) [
      | inl before ↦ before
      | inr past ↦ absurd (c.if-place-len.false (omega (arith, under, past, counted)))
    ] in
    let noted : c.index-noted.result.now ≡ get_or given k Free = c.index-noted.ensures ∙ sym (get_or_default given k Free c.index-noted.result.now low) in
    let set : c.index-noted.result.now ≢ Free = c.is_itself.ensures.another c.if-is_itself.false in
    subst (IsPart P (length c.args.cells.now)) (sym noted)
    (usable_at P c.args.cells.now given k low c.requires.usable (λ e. set (noted ∙ e)))

pub returns-then-is_itself : goal.returns-then-is_itself
returns-then-is_itself g c = λ e.
    let P = g.N.Naming.program in
    let row = c.args.cells.now in
    let held = c.args.held.now.items in
    let given = c.args.given.now.items in
    let k = c.args.number in
    let counted : c.len.result ≡ length given = search rules in
    let again : c.len-2.result ≡ length given = search rules in
    let under : k ≤ length given = subst (λ (n : ℕ). k ≤ n) again c.if-place-len-2.false in
    let low : k < length given = elim (cases_lt k (length given)) [
      | inl before ↦ before
      | inr past ↦ absurd (c.if-place-len.false (omega (arith, under, past, counted)))
    ] in
    let noted : c.index-noted.result.now ≡ get_or given k Free = c.index-noted.ensures ∙ sym (get_or_default given k Free c.index-noted.result.now low) in
    itself_lacks P row held given c.args.asked.0 k c.requires.asked low (sym noted ∙ c.is_itself.ensures.itself c.if-is_itself.true)

pub returns : goal.returns
returns g c = λ e.
    let P = g.N.Naming.program in
    let row = c.args.cells.now in
    let held = c.args.held.now.items in
    let has = c.holds_none.new.held.items in
    let given = c.args.given.now.items in
    let k = c.args.number in
    let counted : c.len.result ≡ length given = search rules in
    let again : c.len-2.result ≡ length given = search rules in
    let under : k ≤ length given = subst (λ (n : ℕ). k ≤ n) again c.if-place-len-2.false in
    let low : k < length given = elim (cases_lt k (length given)) [
      | inl before ↦ before
      | inr past ↦ absurd (c.if-place-len.false (omega (arith, under, past, counted)))
    ] in
    let noted : c.index-noted.result.now ≡ get_or given k Free = c.index-noted.ensures ∙ sym (get_or_default given k Free c.index-noted.result.now low) in
    let set : c.index-noted.result.now ≢ Free = c.is_itself.ensures.another c.if-is_itself.false in
    let fits = usable_at P row given k low c.requires.usable (λ e. set (noted ∙ e)) in
    noted_lacks P row held has given c.args.asked.0 k c.requires.asked low fits
    (subst (λ (r : Ref). HoldNone P row held has (r ∷ [])) noted (c.holds_none.ensures e))
