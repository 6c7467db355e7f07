-- Keys of first arguments.
use Rattle.std.specs.Prelude.{Bool, false, ◌&&◌, nat_eq}
use Rattle.std.specs.Ordering.{int_eq}
use Rattle.and_first_argument.specs.declared.key.Key.{Key}
use Rattle.and_first_argument.specs.declared.key.Key.TheVariants.{Name, Number}

-- whether two keys are one
abbrev pub same_key : Key → Key → Bool
same_key (Name n c) (Name m d) = nat_eq n.0 m.0 && nat_eq c d
same_key (Name n c) (Number y) = false
same_key (Number x) (Name m d) = false
same_key (Number x) (Number y) = int_eq x y
