use Rattle.std.proofs.Common.{◌∙◌, ap, sym, subst, ◌≡◌, ◌<◌, ◌≤◌, ◌*◌, ◌++◌, ◌∷◌, [], ℕ, List, take, length, get_or, All}
use Rattle.std.proofs.lemmas.List.{take_all}
use Rattle.std.proofs.lemmas.List.Elements.{All-contains, All-append}
use Rattle.and_store.specs.Left.{left_numbers, waiters_hung, numbered}
use Rattle.and_store.specs.Passes.{PassSeen}
use Rattle.and_store.proofs.Gathered.{next_pass, pass_in}
use Rattle.and_store.proofs.Over.{numbered_more, pass_put}
use Rattle.and_store.proofs.store.Store.push_left.Goals as goal

pub push_left_of-requires-clause-store : goal.push_left_of-requires-clause-store
push_left_of-requires-clause-store g c =
    let ps = c.args.passes.now in
    let p = c.index-passes-i.result in
    let i = c.loop-i.i in
    let same : c.as_slice-passes.result.now ≡ ps = c.as_slice-passes.ensures.value ∙ c.passes.view_is in
    let within : i < length ps = subst (λ (l : List PassSeen). i < length l) same c.loop-i-test.true in
    let at : p ≡ get_or ps i p = c.index-passes-i.is ∙ ap (λ (l : List PassSeen). get_or l i p) same in
    All-contains (λ (p : PassSeen). p.store ≡ c.args.self.now) ps p c.requires.store (pass_in ps i p within at)

pub loop-i-preserved : goal.loop-i-preserved
loop-i-preserved g c =
    let ps = c.args.passes.now in
    let p = c.index-passes-i.result in
    let i = c.loop-i.i in
    let number : ℕ = c.args.number in
    let bound : ℕ = c.args.self.now.about.seats * c.args.self.now.about.waiters in
    let same : c.as_slice-passes.result.now ≡ ps = c.as_slice-passes.ensures.value ∙ c.passes.view_is in
    let within : i < length ps = subst (λ (l : List PassSeen). i < length l) same c.loop-i-test.true in
    let at : p ≡ get_or ps i p = c.index-passes-i.is ∙ ap (λ (l : List PassSeen). get_or l i p) same in
    let next = next_pass ps i p within at in (
      c.in_ok-push_left_of.ensures.pushed ∙ pass_put c.args.marks.now number i ps p c.args.left.now.items c.loop-i.left.items next c.loop-i.invariant.0,
      subst (All (λ w. w < bound)) (sym (numbered_more number i ps p next))
          (All-append (λ w. w < bound) (waiters_hung (numbered number (take i ps))) (waiters_hung (numbered number (p ∷ []))) c.loop-i.invariant.1
          c.in_ok-push_left_of.ensures.below),
    )

pub returns-clause-below : goal.returns-clause-below
returns-clause-below g c =
    let ps = c.args.passes.now in
    let bound : ℕ = c.args.self.now.about.seats * c.args.self.now.about.waiters in
    let same : c.as_slice-passes.result.now ≡ ps = c.as_slice-passes.ensures.value ∙ c.passes.view_is in
    let all : take c.loop-i.i ps ≡ ps = take_all c.loop-i.i ps (subst (λ (l : List PassSeen). length l ≤ c.loop-i.i) same c.loop-i-test.false) in
    subst (λ (l : List PassSeen). All (λ w. w < bound) (waiters_hung (numbered c.args.number l))) all c.loop-i.invariant.1

pub returns-clause-pushed : goal.returns-clause-pushed
returns-clause-pushed g c =
    let ps = c.args.passes.now in
    let same : c.as_slice-passes.result.now ≡ ps = c.as_slice-passes.ensures.value ∙ c.passes.view_is in
    let all : take c.loop-i.i ps ≡ ps = take_all c.loop-i.i ps (subst (λ (l : List PassSeen). length l ≤ c.loop-i.i) same c.loop-i-test.false) in
    c.loop-i.invariant.0 ∙ ap (λ (l : List PassSeen). c.args.left.now.items ++ left_numbers c.args.marks.now (waiters_hung (numbered c.args.number l))) all
