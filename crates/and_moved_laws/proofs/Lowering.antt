-- Frames that are moved down side by side: their places, and the row that they make.
use Rattle.std.proofs.Common.{ℕ, suc, ◌+◌, ◌-◌, ◌≡◌, ◌<◌, ◌≤◌, cond, List, [], ◌∷◌, length, map, refl, sym, ap, ◌∙◌, subst, inl, inr, arith}
use Rattle.std.proofs.Common.{Contains}
use Rattle.std.proofs.lemmas.Bool.{cases_lt, lt-ltb, le-ltb}
use Rattle.std.proofs.lemmas.List.{get_or_past}
use Rattle.and_model.specs.Terms.{Path, variables_of}
use Rattle.and_model.specs.Store.{Frame}
use Rattle.and_model.specs.declared.reference.Ref.{Ref}
use Rattle.and_model.specs.declared.reference.Ref.TheVariants.{Free, Cell, Node, Number, Half}
use Rattle.and_program.specs.Skeletons.{node_term}
use Rattle.and_laws.proofs.Ordered.{contains_first, contains_more, contains_cases, contains_none}
use Rattle.and_cells.specs.Ranges.{NamedProgram}
use Rattle.and_cells.specs.Seen.{word_at}
use Rattle.and_cell_laws.proofs.Images.{contains_image}
use Rattle.and_moved_laws.specs.Parts.{moved, IsTogether, IsPartOf}
use Rattle.and_moved_laws.specs.KeptFrames.{Fill, IsInFrame, NamesFrame, NamesFrames, words_of, raised, lowered, frame_lowered, side_by_side, MovesWhole}
use Rattle.and_moved_laws.proofs.Filling.{listed_length, listed_word}

-- ---- Places

-- The frames lie one behind the other, from this place on, in a row of so many words.
abbrev pub LieFrom : (low : ℕ) → List Frame → (words : ℕ) → Type 0
LieFrom low [] words = low ≤ words
LieFrom low (f ∷ fs) words = (low ≤ f.base) × LieFrom (f.base + f.weight) fs words

raised_first : (f : Frame) (fs : List Frame) (words p : ℕ) → p < f.weight → raised (f ∷ fs) words p ≡ f.base + p
raised_first f fs words p low = ap (λ b. cond b (f.base + p) (raised fs words (p - f.weight))) (lt-ltb p f.weight low)

raised_later : (f : Frame) (fs : List Frame) (words p : ℕ) → f.weight ≤ p → raised (f ∷ fs) words p ≡ raised fs words (p - f.weight)
raised_later f fs words p past = ap (λ b. cond b (f.base + p) (raised fs words (p - f.weight))) (le-ltb p f.weight past)

pub lowered_first : (f : Frame) (fs : List Frame) (p : ℕ) → p < f.base + f.weight → lowered (f ∷ fs) p ≡ p - f.base
lowered_first f fs p low = ap (λ b. cond b (p - f.base) (f.weight + lowered fs p)) (lt-ltb p (f.base + f.weight) low)

pub lowered_later : (f : Frame) (fs : List Frame) (p : ℕ) → f.base + f.weight ≤ p → lowered (f ∷ fs) p ≡ f.weight + lowered fs p
lowered_later f fs p past = ap (λ b. cond b (p - f.base) (f.weight + lowered fs p)) (le-ltb p (f.base + f.weight) past)

raised_low : (low : ℕ) (fs : List Frame) (words : ℕ) → LieFrom low fs words → (p : ℕ) → low ≤ raised fs words p
raised_low low [] words lie p = omega (arith, lie)
raised_low low (f ∷ fs) words lie p = elim (cases_lt p f.weight) [
  | inl first ↦ let e = raised_first f fs words p first in let l = lie.0 in omega arith
  | inr past ↦
      let e = raised_later f fs words p past in
      let h = raised_low (f.base + f.weight) fs words lie.1 (p - f.weight) in
      let l = lie.0 in
      omega arith
]

pub raised_rises : (low : ℕ) (fs : List Frame) (words : ℕ) → LieFrom low fs words → (p q : ℕ) → p < q → raised fs words p < raised fs words q
raised_rises low [] words lie p q less = omega (arith, less)
raised_rises low (f ∷ fs) words lie p q less = elim (cases_lt p f.weight) [
  | inl first ↦
      let e = raised_first f fs words p first in
      elim (cases_lt q f.weight) [
        | inl both ↦ let d = raised_first f fs words q both in omega arith
        | inr past ↦
            let d = raised_later f fs words q past in
            let h = raised_low (f.base + f.weight) fs words lie.1 (q - f.weight) in
            omega arith
      ]
  | inr past ↦
      let e = raised_later f fs words p past in
      let d = raised_later f fs words q (omega (arith, past, less)) in
      let h = raised_rises (f.base + f.weight) fs words lie.1 (p - f.weight) (q - f.weight) (omega (arith, past, less)) in
      omega arith
]

pub raised_beyond : (fs : List Frame) (words n : ℕ) → raised fs words (words_of fs + n) ≡ words + n
raised_beyond [] words n = omega arith
raised_beyond (f ∷ fs) words n =
    raised_later f fs words (f.weight + words_of fs + n) (omega arith)
    ∙ ap (raised fs words) (omega arith) ∙ raised_beyond fs words n

-- Each place of the row of these frames is one in a frame.
pub raised_in_frame : (fs : List Frame) (words p : ℕ) → p < words_of fs → (f : Frame) × Contains fs f × IsInFrame (raised fs words p) f
raised_in_frame [] words p low = absurd (omega arith)
raised_in_frame (f ∷ fs) words p low = elim (cases_lt p f.weight) [
  | inl first ↦ let e = raised_first f fs words p first in (f, contains_first f fs, (omega arith, omega arith))
  | inr past ↦
      let (g, there, inside) = raised_in_frame fs words (p - f.weight) (omega (arith, low, past)) in
      (g, contains_more f g fs there, subst (λ (x : ℕ). IsInFrame x g) (sym (raised_later f fs words p past)) inside)
]

pub lies_behind : (low : ℕ) (fs : List Frame) (words : ℕ) → LieFrom low fs words → (f : Frame) → Contains fs f → low ≤ f.base
lies_behind low [] words lie f h = absurd (contains_none f h)
lies_behind low (g ∷ fs) words lie f h = elim (contains_cases g f fs h) [
  | inl e ↦ let same : f.base ≡ g.base = ap (λ (x : Frame). x.base) e in let l = lie.0 in omega arith
  | inr i ↦ let l = lies_behind (g.base + g.weight) fs words lie.1 f i in let k = lie.0 in omega arith
]

-- A frame's words are moved down together, and are found again.
abbrev pub IsFound : List Frame → (words : ℕ) → Frame → (n : ℕ) → Type 0
IsFound fs words f n =
    (lowered fs (f.base + n) ≡ lowered fs f.base + n) × (raised fs words (lowered fs f.base + n) ≡ f.base + n)

found_first : (f : Frame) (fs : List Frame) (words n : ℕ) → n < f.weight → IsFound (f ∷ fs) words f n
found_first f fs words n low =
    let there : lowered (f ∷ fs) (f.base + n) ≡ f.base + n - f.base = lowered_first f fs (f.base + n) (omega (arith, low)) in
    let begins : lowered (f ∷ fs) f.base ≡ f.base - f.base = lowered_first f fs f.base (omega (arith, low)) in
    let same : lowered (f ∷ fs) f.base + n ≡ n = omega arith in
    (omega arith, ap (raised (f ∷ fs) words) same ∙ raised_first f fs words n low)

pub found : (low : ℕ) (fs : List Frame) (words : ℕ) → LieFrom low fs words → (f : Frame) → Contains fs f → (n : ℕ) → n < f.weight
    → IsFound fs words f n
found low [] words lie f h n less = absurd (contains_none f h)
found low (g ∷ fs) words lie f h n less = elim (contains_cases g f fs h) [
  | inl e ↦
      let here : IsFound (g ∷ fs) words g n = found_first g fs words n (let same : f.weight ≡ g.weight = ap (λ (x : Frame). x.weight) e in omega arith) in
      subst (λ (x : Frame). IsFound (g ∷ fs) words x n) (sym e) here
  | inr i ↦
      let behind : g.base + g.weight ≤ f.base = lies_behind (g.base + g.weight) fs words lie.1 f i in
      let both : IsFound fs words f n = found (g.base + g.weight) fs words lie.1 f i n less in
      let there : lowered (g ∷ fs) (f.base + n) ≡ g.weight + lowered fs (f.base + n) = lowered_later g fs (f.base + n) (omega arith) in
      let begins : lowered (g ∷ fs) f.base ≡ g.weight + lowered fs f.base = lowered_later g fs f.base behind in
      let one = both.0 in
      let same : lowered (g ∷ fs) f.base + n ≡ g.weight + (lowered fs f.base + n) = omega arith in (
        omega arith,
        ap (raised (g ∷ fs) words) same
            ∙ raised_later g fs words (g.weight + (lowered fs f.base + n)) (omega arith)
            ∙ ap (raised fs words) (omega arith) ∙ both.1,
      )
]

-- ---- The row

-- What the reference names lies in the frames, cells too.
abbrev pub LiesInside : NamedProgram → List Frame → Ref → Type 0
LiesInside P fs Free = Unit {0}
LiesInside P fs (Cell cell) = (f : Frame) × Contains fs f × IsInFrame cell f
LiesInside P fs (Node node base) = (f : Frame) × Contains fs f × (f.base ≡ base) × IsInFrame base f
    × ((v : Path × ℕ) → Contains (variables_of (node_term P.skeleton.nodes node.0)) v → IsInFrame (base + 1 + v.1) f)
LiesInside P fs (Number pair) = (f : Frame) × Contains fs f × IsInFrame pair f × IsInFrame (suc pair) f
LiesInside P fs (Half bits) = Unit {0}

module _ (P : NamedProgram) (fs : List Frame) (row : List Ref) (lie : LieFrom 0 fs (length row))
    (inside : (f : Frame) (place : ℕ) → Contains fs f → IsInFrame place f → LiesInside P fs (word_at row place)) where
  abbrev up : ℕ → ℕ
  up p = raised fs (length row) p

  abbrev down : ℕ → ℕ
  down p = lowered fs p

  -- the words of a frame by how far they are from its base
  found_here : (f : Frame) → Contains fs f → (n : ℕ) → n < f.weight → IsFound fs (length row) f n
  found_here f h n less = found 0 fs (length row) lie f h n less

  up_again : (f : Frame) → Contains fs f → (p : ℕ) → IsInFrame p f → up (down p) ≡ p
  up_again f h p i =
      let low = i.0 in
      let less = i.1 in
      let is : f.base + (p - f.base) ≡ p = omega arith in
      let both : IsFound fs (length row) f (p - f.base) = found_here f h (p - f.base) (omega arith) in
      ap (λ (x : ℕ). up (down x)) (sym is) ∙ ap up both.0 ∙ both.1 ∙ is

  -- What is moved down and up again is as it was,
  moved_again : (r : Ref) → LiesInside P fs r → moved up (moved down r) ≡ r
  moved_again Free l = refl
  moved_again (Cell cell) l = ap (λ (x : ℕ). Cell x) (up_again l.0 l.1 cell l.2)
  moved_again (Node node base) l = ap (λ (x : ℕ). Node node x) (up_again l.0 l.1 base l.3)
  moved_again (Number pair) l = ap (λ (x : ℕ). Number x) (up_again l.0 l.1 pair l.2)
  moved_again (Half bits) l = refl

  -- together with what belongs to it.
  moved_together : (r : Ref) → LiesInside P fs r → IsTogether P up (moved down r)
  moved_together Free l = tt
  moved_together (Cell cell) l = tt
  moved_together (Node node base) l = λ v c.
      let f : Frame = l.0 in
      let begins : f.base ≡ base = l.2 in
      let i : IsInFrame (base + 1 + v.1) f = l.4 v c in
      let ends = i.1 in
      let both : IsFound fs (length row) f (1 + v.1) = found_here f l.1 (1 + v.1) (omega arith) in
      let same : down base + 1 + v.1 ≡ down f.base + (1 + v.1) = (let e : down f.base ≡ down base = ap down begins in omega arith) in
      let there : up (down base + 1 + v.1) ≡ f.base + (1 + v.1) = ap up same ∙ both.1 in
      let base_there : up (down base) ≡ base = up_again f l.1 base l.3 in
      omega arith
  moved_together (Number pair) l =
      let f : Frame = l.0 in
      let low = l.2.0 in
      let ends = l.3.1 in
      let is : f.base + (pair - f.base) ≡ pair = omega arith in
      let one : IsFound fs (length row) f (pair - f.base) = found_here f l.1 (pair - f.base) (omega arith) in
      let other : IsFound fs (length row) f (suc (pair - f.base)) = found_here f l.1 (suc (pair - f.base)) (omega arith) in
      let begins : down pair ≡ down f.base + (pair - f.base) = ap down (sym is) ∙ one.0 in
      let same : suc (down pair) ≡ down f.base + suc (pair - f.base) = omega arith in
      let there : up (suc (down pair)) ≡ f.base + suc (pair - f.base) = ap up same ∙ other.1 in
      let pair_there : up (down pair) ≡ pair = up_again f l.1 pair l.2 in
      omega arith
  moved_together (Half bits) l = tt

  abbrev lower : List Ref
  lower = side_by_side fs row

  pub lower_length : length lower ≡ words_of fs
  lower_length = listed_length (words_of fs) (λ (p : ℕ). moved down (word_at row (up p)))

  lower_word : (p : ℕ) → p < words_of fs → word_at lower p ≡ moved down (word_at row (up p))
  lower_word p low = listed_word (words_of fs) (λ (x : ℕ). moved down (word_at row (up x))) p low

  lower_free : (p : ℕ) → words_of fs ≤ p → word_at lower p ≡ Free
  lower_free p past = get_or_past lower p Free (omega (arith, past, lower_length))

  inside_here : (p : ℕ) → p < words_of fs → LiesInside P fs (word_at row (up p))
  inside_here p low = let (f, there, i) = raised_in_frame fs (length row) p low in inside f (up p) there i

  -- So the frames, moved down, are part of the row.
  pub lower_is_part : IsPartOf P (raised fs (length row)) (side_by_side fs row) row
  lower_is_part = record {
    rises = raised_rises 0 fs (length row) lie;
    beyond = λ k.
        let same : up (length lower + k) ≡ up (words_of fs + k) = ap (λ (n : ℕ). up (n + k)) lower_length in
        same ∙ raised_beyond fs (length row) k;
    words = λ p. elim (cases_lt p (words_of fs)) [
      | inl low ↦ sym (moved_again (word_at row (up p)) (inside_here p low)) ∙ ap (moved up) (sym (lower_word p low))
      | inr past ↦
          let is : words_of fs + (p - words_of fs) ≡ p = omega arith in
          let there : up p ≡ length row + (p - words_of fs) = ap up (sym is) ∙ raised_beyond fs (length row) (p - words_of fs) in
          get_or_past row (up p) Free (omega arith) ∙ ap (moved up) (sym (lower_free p past))
    ];
    together = λ p. elim (cases_lt p (words_of fs)) [
      | inl low ↦ subst (λ (r : Ref). IsTogether P up r) (sym (lower_word p low))
          (moved_together (word_at row (up p)) (inside_here p low))
      | inr past ↦ subst (λ (r : Ref). IsTogether P up r) (sym (lower_free p past)) tt
    ];
  }

  -- Each frame lies whole in it,
  pub frame_whole : (f : Frame) → Contains fs f → MovesWhole (raised fs (length row)) (frame_lowered fs f)
  frame_whole f h n less =
      let there = (found_here f h n less).1 in
      let begins = (found_here f h 0 (omega (arith, less))).1 in
      let same : up (down f.base + 0) ≡ up (down f.base) = ap up (omega arith) in
      omega arith

  pub frame_back : (f : Frame) → Contains fs f → 0 < f.weight → raised fs (length row) (lowered fs f.base) ≡ f.base
  frame_back f h some = up_again f h f.base (omega arith, omega (arith, some))

  -- and what its words name lies in these.
  names_lower : (r : Ref) → LiesInside P fs r → NamesFrame P (map (frame_lowered fs) fs) (moved down r)
  names_lower Free l = tt
  names_lower (Cell cell) l = tt
  names_lower (Node node base) l =
      let f : Frame = l.0 in
      let begins : lowered fs f.base ≡ lowered fs base = ap (lowered fs) l.2 in
      let e = l.2 in
      let i = l.3 in (
        frame_lowered fs f,
        contains_image (frame_lowered fs) fs f l.1,
        begins,
        (omega arith, (let w = i.1 in omega arith)),
        λ v c. (let j = l.4 v c in (omega arith, (let w = j.1 in omega arith))),
      )
  names_lower (Number pair) l =
      let f : Frame = l.0 in
      let low = l.2.0 in
      let ends = l.3.1 in
      let is : f.base + (pair - f.base) ≡ pair = omega arith in
      let one : IsFound fs (length row) f (pair - f.base) = found_here f l.1 (pair - f.base) (omega arith) in
      let begins : down pair ≡ down f.base + (pair - f.base) = ap down (sym is) ∙ one.0 in (
        frame_lowered fs f,
        contains_image (frame_lowered fs) fs f l.1,
        (omega arith, omega arith),
        (omega arith, omega arith),
      )
  names_lower (Half bits) l = tt

  pub lower_names : NamesFrames P (map (frame_lowered fs) fs) (side_by_side fs row)
  lower_names p = elim (cases_lt p (words_of fs)) [
    | inl low ↦ subst (λ (r : Ref). NamesFrame P (map (frame_lowered fs) fs) r) (sym (lower_word p low))
        (names_lower (word_at row (up p)) (inside_here p low))
    | inr past ↦ subst (λ (r : Ref). NamesFrame P (map (frame_lowered fs) fs) r) (sym (lower_free p past)) tt
  ]

-- Moved down they fill it.
fill_listed : (low : ℕ) (fs : List Frame) (words : ℕ) → LieFrom low fs words → ((f : Frame) → Contains fs f → 0 < f.weight)
    → (down : ℕ → ℕ) (from : ℕ) → ((f : Frame) → Contains fs f → down f.base ≡ from + lowered fs f.base)
    → Fill from (map (λ (f : Frame). record { base = down f.base; weight = f.weight }) fs) (from + words_of fs)
fill_listed low [] words lie some down from is = omega arith
fill_listed low (f ∷ fs) words lie some down from is =
    let first : Contains (f ∷ fs) f = contains_first f fs in
    let weighs = some f first in
    let begins : lowered (f ∷ fs) f.base ≡ f.base - f.base = lowered_first f fs f.base (omega arith) in
    let there = is f first in
    let rest : Fill (from + f.weight) (map (λ (g : Frame). record { base = down g.base; weight = g.weight }) fs) (from + f.weight + words_of fs) =
    fill_listed (f.base + f.weight) fs words lie.1 (λ g h. some g (contains_more f g fs h)) down (from + f.weight) (λ g h.
    let e = is g (contains_more f g fs h) in
    let behind : f.base + f.weight ≤ g.base = lies_behind (f.base + f.weight) fs words lie.1 g h in
    let d = lowered_later f fs g.base behind in
    omega arith) in (
      omega arith,
      weighs,
      subst (λ (n : ℕ). Fill (from + f.weight) (map (λ (g : Frame). record { base = down g.base; weight = g.weight }) fs) n) (omega arith) rest,
    )

pub lower_fill : (P : NamedProgram) (fs : List Frame) (row : List Ref) (lie : LieFrom 0 fs (length row))
    → ((f : Frame) (place : ℕ) → Contains fs f → IsInFrame place f → LiesInside P fs (word_at row place))
    → ((f : Frame) → Contains fs f → 0 < f.weight) → Fill 0 (map (frame_lowered fs) fs) (length (side_by_side fs row))
lower_fill P fs row lie inside some =
    subst (λ (n : ℕ). Fill 0 (map (frame_lowered fs) fs) n) (omega (arith, lower_length P fs row lie inside))
    (fill_listed 0 fs (length row) lie some (lowered fs) 0 (λ f h. omega arith))
