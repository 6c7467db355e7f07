use Rattle.std.proofs.Common.{[], ◌≡◌, ◌∷◌, ◌++◌, ℕ, List, ◌∙◌, ap, sym, subst}
use Rattle.and_answers.specs.Pieces.{code_behind, codes_from, last_from, last_or, IsInPlace, AreInPlace, IsLastOf}
use Rattle.and_answers.specs.Tails.{BeginAlike}
use Rattle.and_answers.specs.declared.piece.Piece.{Piece}
use Rattle.and_answers.proofs.AlikeLemmas.{last_of_pieces}
use Rattle.and_answers.proofs.PieceLemmas.{codes_more, last_more, places_more}
use Rattle.and_answers.proofs.codes.CodeList.push.Goals as goal

pub had_from-common-requires : goal.had_from-common-requires
had_from-common-requires c =
    let ps : List Piece = c.self.inside.pieces.items in
    let is : c.in-Some.last ≡ last_from [] ps = subst (λ o. IsLastOf ps o) (sym c.take.ensures.value ∙ c.in-Some.is) c.self.invariant.0 in
    let last : last_or [] c.args.self.now ≡ c.in-Some.last = ap (last_or []) (sym c.self.view_is) ∙ last_of_pieces [] ps ∙ sym is in
    subst (λ l. BeginAlike l c.args.code.now c.args.common) last c.requires

pub invariant_of-self-2 : goal.invariant_of-self-2
invariant_of-self-2 c =
    let ps : List Piece = c.self.inside.pieces.items in
    let piece : Piece = c.in_ok-piece.piece in
    let items = c.in_ok-push.ensures.items in
    let last : c.in-Some.last ≡ last_from [] ps = subst (λ o. IsLastOf ps o) (sym c.take.ensures.value ∙ c.in-Some.is) c.self.invariant.0 in (
      sym (ap (last_from []) items ∙ last_more [] ps piece ∙ ap (λ (l : List ℕ). code_behind l piece) (sym last) ∙ c.in_ok-piece.ensures.code
          ∙ sym c.in_ok-told.ensures),
      subst (λ l. AreInPlace [] l) (sym items)
          (places_more [] ps piece c.self.invariant.1 (subst (λ (l : List ℕ). IsInPlace l piece) last c.in_ok-piece.ensures.place)),
    )

pub returns-clause-ok : goal.returns-clause-ok
returns-clause-ok c =
    let ps : List Piece = c.self.inside.pieces.items in
    let piece : Piece = c.in_ok-piece.piece in
    let last : c.in-Some.last ≡ last_from [] ps = subst (λ o. IsLastOf ps o) (sym c.take.ensures.value ∙ c.in-Some.is) c.self.invariant.0 in
    ap (codes_from []) c.in_ok-push.ensures.items ∙ codes_more [] ps piece
    ∙ ap (λ (code : List ℕ). codes_from [] ps ++ code ∷ [])
    (ap (λ (l : List ℕ). code_behind l piece) (sym last) ∙ c.in_ok-piece.ensures.code)
    ∙ ap (λ (l : List (List ℕ)). l ++ c.args.code.now ∷ []) c.self.view_is
