-- Lists that are cut, as what they stand for.
use Rattle.std.proofs.Common.{ℕ, ◌≡◌, List, take, Vec, ap, sym, ◌∙◌}
use Rattle.std.proofs.lemmas.List.{take-map}
use Rattle.std.specs.declared.alloc.Global.{Global}
use Rattle.and_program.specs.Nodes.{shapes_of, shape_of, names_of}
use Rattle.and_program.specs.declared.node.Node.{Node}

pub names_cut : (n : ℕ) (ks ls : List (Vec ℕ Global)) → ls ≡ take n ks → names_of ls ≡ take n (names_of ks)
names_cut n ks ls e = ap names_of e ∙ sym (take-map (λ (k : Vec ℕ Global). k.items) n ks)

pub shapes_cut : (n : ℕ) (xs ys : List Node) → ys ≡ take n xs → shapes_of ys ≡ take n (shapes_of xs)
shapes_cut n xs ys e = ap shapes_of e ∙ sym (take-map shape_of n xs)
