use Rattle.std.proofs.Common.{List, ◌∷◌, reverse, refl, length, OnOk, subst, sym}
use Rattle.and_drafts.specs.Drafts.{draft_of}
use Rattle.and_grammar.specs.declared.copying.Copy.{Copy}
use Rattle.and_grammar.specs.declared.copying.Copy.TheVariants.{Name}
use Rattle.and_grammar.specs.Views.{Becomes, arguments_at}
use Rattle.and_grammar.specs.Copies.{Copies, AreEnough, IsWithin, taken, name_at}
use Rattle.and_grammar.proofs.CopyLemmas.{on_ok, name_copied}
use Rattle.and_grammar.proofs.copying.copy_one.Goals as goal

pub copy_part-requires : goal.copy_part-requires
copy_part-requires c = record {
  there = subst (IsWithin c.args.rule.now) c.in-Term.is c.requires.there;
  enough = subst (λ (k : Copy). AreEnough c.args.rule.now (k ∷ reverse c.args.pending.now.items) (length (draft_of c.args.out.now).finished))
      c.in-Term.is c.requires.enough;
}

pub put_name-requires : goal.put_name-requires
put_name-requires c = record {
  there = subst (IsWithin c.args.rule.now) c.in-Name.is c.requires.there;
  enough = (subst (λ (k : Copy). AreEnough c.args.rule.now (k ∷ reverse c.args.pending.now.items) (length (draft_of c.args.out.now).finished)) c.in-Name.is
      c.requires.enough).0;
}

pub returns-in-Term : goal.returns-in-Term
returns-in-Term c =
    subst (λ (k : Copy). OnOk c.copy_part.result
    (Copies c.args.rule.now c.args.out.now c.copy_part.new.out (k ∷ reverse c.args.pending.now.items) (reverse c.copy_part.new.pending.items)))
    (sym c.in-Term.is) c.copy_part.ensures

pub returns-in-Name : goal.returns-in-Name
returns-in-Name c =
    let todo : List Copy = reverse c.args.pending.now.items in
    let place = c.in-Name.place in
    let d = c.args.rule.now in
    subst (λ (k : Copy). OnOk c.put_name.result (Copies d c.args.out.now c.put_name.new.out (k ∷ todo) todo)) (sym c.in-Name.is)
    (on_ok c.put_name.result
    (Becomes c.args.out.now c.put_name.new.out (taken (name_at d place) (length (arguments_at d place)) (draft_of c.args.out.now).finished))
    (Copies d c.args.out.now c.put_name.new.out (Name place ∷ todo) todo)
    (λ b. name_copied d c.args.out.now c.put_name.new.out place todo todo refl (name_at d place) (length (arguments_at d place)) refl refl b
    (subst (λ (k : Copy). AreEnough d (k ∷ todo) (length (draft_of c.args.out.now).finished)) c.in-Name.is c.requires.enough))
    c.put_name.ensures)
