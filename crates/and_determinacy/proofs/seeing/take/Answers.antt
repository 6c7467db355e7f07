use Rattle.std.proofs.Common.{ℕ, ◌≡◌, ◌≢◌, ◌<◌, ◌≤◌, ◌∷◌, ◌++◌, [], List, length, get_or, sym, ap, ◌∙◌, subst, inl, inr, arith, rules}
use Rattle.std.proofs.lemmas.Bool.{cases_lt}
use Rattle.std.proofs.lemmas.List.{get_or_default}
use Rattle.and_model.specs.Terms.{Term, variable, framed}
use Rattle.and_model.specs.declared.reference.Ref.{Ref}
use Rattle.and_model.specs.declared.reference.Ref.TheVariants.{Free}
use Rattle.and_program.specs.Skeletons.{node_term}
use Rattle.and_branch_laws.specs.Judging.{outside}
use Rattle.and_determinacy.specs.Seeing.{Meets, IsPart, ref_term}
use Rattle.and_determinacy.specs.Parting.{AreApart, ArePartedBy}
use Rattle.and_determinacy.proofs.Parted.{noted_parted}
use Rattle.and_determinacy.proofs.SureRefs.{noted_meets, usable_at}
use Rattle.and_determinacy.proofs.SureSteps.{variable_meets}
use Rattle.and_determinacy.proofs.seeing.take.Goals as goal

pub returns-then-place-len-clause-meets : goal.returns-then-place-len-clause-meets
returns-then-place-len-clause-meets g c = λ e.
    let P = g.N.Naming.program in
    let row = c.args.cells.now in
    let held = c.args.held.now.items in
    let given = c.args.given.now.items in
    let counted : c.args.number ≡ length given = search rules in
    let is : framed outside (node_term P.skeleton.nodes c.args.asked.0) ≡ variable outside (length given) =
    ap (framed outside) c.requires.asked ∙ ap (variable outside) counted in
    subst (λ (gives : List Ref). Meets P row held held given gives
    ((ref_term P c.args.part, framed outside (node_term P.skeleton.nodes c.args.asked.0)) ∷ [])) (sym c.in_ok-push.ensures.items)
    (subst (λ (t : Term). Meets P row held held given (given ++ c.args.part ∷ []) ((ref_term P c.args.part, t) ∷ [])) (sym is)
    (variable_meets P row held given c.args.part c.requires.in_range))

pub join-requires-clause-other : goal.join-requires-clause-other
join-requires-clause-other g c =
    let P = g.N.Naming.program in
    let given = c.args.given.now.items in
    let k = c.args.number in
    let counted : c.len.result ≡ length given = search rules in
    let again : c.len-2.result ≡ length given = search rules in
    let under : k ≤ length given = subst (λ (n : ℕ). k ≤ n) again c.if-place-len-2.false in
    let low : k < length given = elim (cases_lt k (length given)) [
      | inl before ↦ before
      | inr past ↦ absurd (c.if-place-len.false (omega (arith, under, past, counted)))
    ] in
    let noted : c.index-noted.result.now ≡ get_or given k Free = c.index-noted.ensures ∙ sym (get_or_default given k Free c.index-noted.result.now low) in
    let set : c.index-noted.result.now ≢ Free = c.is_itself.ensures.another c.if-is_itself.false in
    subst (IsPart P (length c.args.cells.now)) (sym noted)
    (usable_at P c.args.cells.now given k low c.requires.usable (λ e. set (noted ∙ e)))

pub returns-clause-meets : goal.returns-clause-meets
returns-clause-meets g c = λ e.
    let P = g.N.Naming.program in
    let row = c.args.cells.now in
    let held = c.args.held.now.items in
    let has = c.join.new.held.items in
    let given = c.args.given.now.items in
    let k = c.args.number in
    let counted : c.len.result ≡ length given = search rules in
    let again : c.len-2.result ≡ length given = search rules in
    let under : k ≤ length given = subst (λ (n : ℕ). k ≤ n) again c.if-place-len-2.false in
    let low : k < length given = elim (cases_lt k (length given)) [
      | inl before ↦ before
      | inr past ↦ absurd (c.if-place-len.false (omega (arith, under, past, counted)))
    ] in
    let noted : c.index-noted.result.now ≡ get_or given k Free = c.index-noted.ensures ∙ sym (get_or_default given k Free c.index-noted.result.now low) in
    let set : c.index-noted.result.now ≢ Free = c.is_itself.ensures.another c.if-is_itself.false in
    let fits = usable_at P row given k low c.requires.usable (λ e. set (noted ∙ e)) in
    let is : framed outside (node_term P.skeleton.nodes c.args.asked.0) ≡ variable outside k = ap (framed outside) c.requires.asked in
    subst (λ (t : Term). Meets P row held has given given ((ref_term P c.args.part, t) ∷ [])) (sym is)
    (noted_meets P row held has given c.args.part k low fits
    (subst (λ (r : Ref). Meets P row held has given given ((ref_term P c.args.part, ref_term P r) ∷ [])) noted (c.join.ensures.meets e given)))

pub returns-clause-apart : goal.returns-clause-apart
returns-clause-apart g c = λ e.
    let P = g.N.Naming.program in
    let row = c.args.cells.now in
    let given = c.args.given.now.items in
    let k = c.args.number in
    let counted : c.len.result ≡ length given = search rules in
    let again : c.len-2.result ≡ length given = search rules in
    let under : k ≤ length given = subst (λ (n : ℕ). k ≤ n) again c.if-place-len-2.false in
    let low : k < length given = elim (cases_lt k (length given)) [
      | inl before ↦ before
      | inr past ↦ absurd (c.if-place-len.false (omega (arith, under, past, counted)))
    ] in
    let noted : c.index-noted.result.now ≡ get_or given k Free = c.index-noted.ensures ∙ sym (get_or_default given k Free c.index-noted.result.now low) in
    let set : c.index-noted.result.now ≢ Free = c.is_itself.ensures.another c.if-is_itself.false in
    let fits = usable_at P row given k low c.requires.usable (λ e. set (noted ∙ e)) in
    let is : framed outside (node_term P.skeleton.nodes c.args.asked.0) ≡ variable outside k = ap (framed outside) c.requires.asked in
    subst (λ (t : Term). ArePartedBy P row given ((ref_term P c.args.part, t) ∷ [])) (sym is)
    (noted_parted P row given c.args.part k low fits
    (subst (λ (r : Ref). AreApart P row (ref_term P c.args.part) (ref_term P r)) noted (c.join.ensures.apart e)))
