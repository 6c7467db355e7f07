use Rattle.std.proofs.Common.{[], ◌≡◌, ◌≢◌, ◌++◌, List, length, ◌∙◌, ap, sym, subst, arith}
use Rattle.and_answers.specs.Pieces.{codes_from, AreInPlace}
use Rattle.and_answers.specs.declared.piece.Piece.{Piece}
use Rattle.and_answers.proofs.PieceLemmas.{codes_joined, last_of_both, places_joined}
use Rattle.and_answers.proofs.codes.CodeList.joined.Goals as goal

pub invariant_of-result-2 : goal.invariant_of-result-2
invariant_of-result-2 c =
    let ps : List Piece = c.self.inside.pieces.items in
    let qs : List Piece = c.other.inside.pieces.items in
    let some : qs ≢ [] = λ none. absurd (
    let long = ap length none in
    let is : c.len.result ≡ 0 = omega (arith, long, c.len.ensures, c.other.inside.pieces.ok.0) in
    c.if-len-eq0.false is) in
    let items = c.in_ok-append.ensures.items in (
      last_of_both c.other.inside.last ps qs c.append.new.self.items items c.other.invariant.1 some c.other.invariant.0,
      subst (λ l. AreInPlace [] l) (sym items) (places_joined [] ps qs c.self.invariant.1 c.other.invariant.1),
    )

pub returns : goal.returns
returns c =
    let ps : List Piece = c.self.inside.pieces.items in
    let qs : List Piece = c.other.inside.pieces.items in
    ap (codes_from []) c.in_ok-append.ensures.items ∙ codes_joined [] ps qs c.other.invariant.1
    ∙ ap (λ (l : List (List _)). l ++ codes_from [] qs) c.self.view_is ∙ ap (λ (l : List (List _)). c.args.self ++ l) c.other.view_is
