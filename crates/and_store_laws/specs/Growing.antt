-- A pass that only saw, learnt and set words goes on to do so.
use Rattle.std.proofs.Common.{List, [], ◌++◌, refl, sym, ap, ◌∙◌, append_assoc, append-nil}
use Rattle.and_model.specs.Prefixes.{IsPrefix}
use Rattle.and_model.specs.Store.{Pass}
use Rattle.and_store_laws.specs.Grown.{Grew}

pub same : {X : Type 0} (xs : List X) → IsPrefix xs xs
same xs = ([], sym (append-nil xs))

after : {X : Type 0} (xs ys zs : List X) → IsPrefix xs ys → IsPrefix ys zs → IsPrefix xs zs
after xs ys zs p q = (p.0 ++ q.0, q.1 ∙ ap (λ l. l ++ q.0) p.1 ∙ append_assoc xs p.0 q.0)

pub grew_nothing : (p : Pass) → Grew p p
grew_nothing p = record {
  number = refl;
  seen = same p.seen;
  known = same p.known;
  mine = same p.mine;
  frames = refl;
  asked = refl;
  fails = refl;
  hung = refl;
  missed = same p.missed;
  took = same p.took;
  found = refl;
}

pub grew_on : (p q r : Pass) → Grew p q → Grew q r → Grew p r
grew_on p q r a b = record {
  number = b.number ∙ a.number;
  seen = after p.seen q.seen r.seen a.seen b.seen;
  known = after p.known q.known r.known a.known b.known;
  mine = after p.mine q.mine r.mine a.mine b.mine;
  frames = b.frames ∙ a.frames;
  asked = b.asked ∙ a.asked;
  fails = b.fails ∙ a.fails;
  hung = b.hung ∙ a.hung;
  missed = after p.missed q.missed r.missed a.missed b.missed;
  took = after p.took q.took r.took a.took b.took;
  found = b.found ∙ a.found;
}
