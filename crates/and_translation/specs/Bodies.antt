-- What the bodies of grammar rules are made of (definite clause grammars: Pereira and Warren, 1980; what is let in is
-- this project's own).
use Rattle.std.specs.Prelude.{ℕ, suc, Bool, true, false, not, ◌||◌, cond, ltb, List, [], ◌∷◌, Option, Some, None, codes}
use Rattle.std.specs.Str.{bytes_eq}
use Rattle.std.specs.Option.{option_map}
use Rattle.and_model.specs.Lines.{Bytes}
use Rattle.and_syntax.specs.Written.{Written, Many, variable, integer, compound, none, more, has}
use Rattle.and_model.specs.declared.limits.TheConstants.{MAX_ARGUMENTS}

mutual
  -- A body: nothing, terminals, goals in braces, a nonterminal with its arguments, two bodies one after the other,
  -- alternatives, or what no rule has.
  pub data Body : Type 0 where
    nothing : Body
    terminals : List Written → Body
    goals : Written → Body
    nonterminal : Bytes → Many → Body
    both : Body → Body → Body
    either : Alternatives → Body
    impure : Body

  pub data Alternatives : Type 0 where
    last : Body → Alternatives
    or : Body → Alternatives → Alternatives

-- the elements of a list that ends in `[]`
abbrev pub elements : Written → Option (List Written)
elements (variable x) = None
elements (integer z) = None
elements (compound c none) = cond (bytes_eq c (codes "[]")) (Some []) None
elements (compound c (more t none)) = None
elements (compound c (more t (more u none))) =
    cond (bytes_eq c (codes ".")) (option_map (λ ts. t ∷ ts) (elements u)) None
elements (compound c (more t (more u (more v ts)))) = None

-- the terminals of a list, where it ends in `[]`
abbrev pub terminals_or_impure : Option (List Written) → Body
terminals_or_impure None = impure
terminals_or_impure (Some ts) = terminals ts

-- how many arguments there are
abbrev pub count : Many → ℕ
count none = 0
count (more t ts) = suc (count ts)

-- The names that with two arguments already mean something else: as nonterminals without arguments they are refused.
abbrev pub reserved : List Bytes
reserved =
    codes "," ∷ codes "=" ∷ codes "is" ∷ codes "<" ∷ codes ">" ∷ codes "=<" ∷ codes ">=" ∷ codes "=:="
    ∷ codes "=\\=" ∷ codes ";" ∷ codes "->" ∷ []

abbrev pub atom_body : Bytes → Body
atom_body c = cond (bytes_eq c (codes "[]")) nothing
    (cond (bytes_eq c (codes "!") || has c reserved) impure (nonterminal c none))

abbrev pub unary_body : Bytes → Written → Body
unary_body c t = cond (bytes_eq c (codes "{}")) (goals t)
    (cond (bytes_eq c (codes "\\+")) impure (nonterminal c (more t none)))

-- a name with two arguments other than `,` and `;`
abbrev pub binary_body : Bytes → Written → Written → Body
binary_body c t u =
    cond (bytes_eq c (codes ".")) (terminals_or_impure (option_map (λ ts. t ∷ ts) (elements u)))
    (cond (bytes_eq c (codes "->")) impure (nonterminal c (more t (more u none))))

-- the alternatives of a body behind a `;`
abbrev pub alternatives : Body → Alternatives
alternatives nothing = last nothing
alternatives (terminals ts) = last (terminals ts)
alternatives (goals t) = last (goals t)
alternatives (nonterminal c ts) = last (nonterminal c ts)
alternatives (both a b) = last (both a b)
alternatives (either rest) = rest
alternatives impure = last impure

-- The body that a term is.
abbrev pub body_of : Written → Body
body_of (variable x) = impure
body_of (integer z) = impure
body_of (compound c none) = atom_body c
body_of (compound c (more t none)) = unary_body c t
body_of (compound c (more t (more u none))) =
    cond (bytes_eq c (codes ",")) (both (body_of t) (body_of u))
    (cond (bytes_eq c (codes ";")) (either (or (body_of t) (alternatives (body_of u)))) (binary_body c t u))
body_of (compound c (more t (more u (more v ts)))) = nonterminal c (more t (more u (more v ts)))

abbrev mutual
  -- something in a body is what no rule has
  pub has_impure : Body → Bool
  has_impure nothing = false
  has_impure (terminals ts) = false
  has_impure (goals t) = false
  has_impure (nonterminal c ts) = false
  has_impure (both a b) = has_impure a || has_impure b
  has_impure (either rest) = has_impure_alternative rest
  has_impure impure = true

  pub has_impure_alternative : Alternatives → Bool
  has_impure_alternative (last a) = has_impure a
  has_impure_alternative (or a rest) = has_impure a || has_impure_alternative rest

-- two arguments more are too many
abbrev pub is_wide : Many → Bool
is_wide ts = ltb MAX_ARGUMENTS (suc (suc (count ts)))

abbrev mutual
  -- some nonterminal of a body has too many arguments
  pub has_wide : Body → Bool
  has_wide nothing = false
  has_wide (terminals ts) = false
  has_wide (goals t) = false
  has_wide (nonterminal c ts) = is_wide ts
  has_wide (both a b) = has_wide a || has_wide b
  has_wide (either rest) = has_wide_alternative rest
  has_wide impure = false

  pub has_wide_alternative : Alternatives → Bool
  has_wide_alternative (last a) = has_wide a
  has_wide_alternative (or a rest) = has_wide a || has_wide_alternative rest

-- the terminals with which a body begins, if it begins with some
abbrev pub first_terminals : Body → List Written
first_terminals nothing = []
first_terminals (terminals ts) = ts
first_terminals (goals t) = []
first_terminals (nonterminal c ts) = []
first_terminals (both a b) = first_terminals a
first_terminals (either rest) = []
first_terminals impure = []

-- the body without these
abbrev pub behind_first : Body → Body
behind_first nothing = nothing
behind_first (terminals ts) = nothing
behind_first (goals t) = goals t
behind_first (nonterminal c ts) = nonterminal c ts
behind_first (both a b) = both (behind_first a) b
behind_first (either rest) = either rest
behind_first impure = impure

-- A head is a name other than those of lists and of `,`.
abbrev pub is_head : Written → Bool
is_head (variable x) = false
is_head (integer z) = false
is_head (compound c none) = not (bytes_eq c (codes "[]"))
is_head (compound c (more t none)) = true
is_head (compound c (more t (more u none))) = not (bytes_eq c (codes ".") || bytes_eq c (codes ","))
is_head (compound c (more t (more u (more v ts)))) = true

-- a head with two arguments more has too many
abbrev pub is_wide_head : Written → Bool
is_wide_head (variable x) = false
is_wide_head (integer z) = false
is_wide_head (compound c ts) = is_wide ts

-- The one term is a rule: a compound `-->` of two arguments.
abbrev pub is_arrow : Written → Bool
is_arrow (variable x) = false
is_arrow (integer z) = false
is_arrow (compound c none) = false
is_arrow (compound c (more t none)) = false
is_arrow (compound c (more t (more u none))) = bytes_eq c (codes "-->")
is_arrow (compound c (more t (more u (more v ts)))) = false

abbrev pub is_rule : List Written → Bool
is_rule [] = false
is_rule (w ∷ []) = is_arrow w
is_rule (w ∷ v ∷ ws) = false
