-- The names of the terms that a text writes are among its words.
use Rattle.std.proofs.Common.{ℕ, ◌≡◌, Bool, true, List, [], ◌∷◌, ◌++◌, map, refl, subst}
use Rattle.and_model.specs.Lines.{Bytes}
use Rattle.and_syntax.specs.Written.{Written, Many}
use Rattle.and_syntax.proofs.Names.{is_writable, AreWritable, AllWritable}
use Rattle.and_language.specs.Words.{Word, Placed}
use Rattle.and_language.specs.Words as words
use Rattle.and_language.specs.Grammar.{Sort, Neck, turnstile, arrow, symbol_of, Level, IsAtom, IsFunctor, IsSum, Reads, Arguments, Elements, IsClause, IsText}
use Rattle.and_language.specs.Grammar.{Statement}
use Rattle.and_language.proofs.Bytes.{IsWritableWord, AreWritableWords}

-- names among words without places
abbrev Writable : List Word → Type 0
Writable [] = Unit {0}
Writable (w ∷ ws) = IsWritableWord w × Writable ws

atom : (a : Word) (c : Bytes) → IsAtom a c → IsWritableWord a → is_writable c ≡ true
atom a c (IsAtom.name _ e) h = h
atom a c (IsAtom.quoted _) h = h
atom a c IsAtom.minus h = refl

functor : (a : Word) (c : Bytes) → IsFunctor a c → IsWritableWord a → is_writable c ≡ true
functor a c (IsFunctor.name _ e) h = h
functor a c (IsFunctor.quoted _) h = h

sum : (a : Word) (c : Bytes) → IsSum a c → IsWritableWord a → is_writable c ≡ true
sum a c (IsSum.name _ e) h = h
sum a c (IsSum.minus b) h = refl

module _ (limited : Bool) where
  mutual
    reads : (n : ℕ) (l : Level) (ws rest : List Word) (w : Written) → Reads limited n l ws rest w → Writable ws → AreWritable w × Writable rest
    reads n l ws rest w (Reads.variable _ x _) h = (tt, h.1)
    reads n l ws rest w (Reads.integer _ z _ low) h = (tt, h.1)
    reads n l ws rest w (Reads.negative _ z _) h = (tt, h.1.1)
    reads n l ws rest w (Reads.atom _ a c _ i) h = ((atom a c i h.0, tt), h.1)
    reads n l ws rest w (Reads.compound _ a c us _ ts i low x) h =
        let r = arguments _ _ us rest ts x h.1.1 in ((functor a c i h.0, r.0), r.1)
    reads n l ws rest w (Reads.bracketed _ b us _ _ low d) h = let r = reads _ _ us (words.close_bracket ∷ rest) w d h.1 in (r.0, r.1.1)
    reads n l ws rest w (Reads.braced _ us _ v low d) h =
        let r = reads _ _ us (words.close_brace ∷ rest) v d h.1 in ((refl, (r.0, tt)), r.1.1)
    reads n l ws rest w (Reads.empty_list _ _ low) h = ((refl, tt), h.1.1)
    reads n l ws rest w (Reads.list _ us _ _ low x) h = elements _ us rest w x h.1
    reads n l ws rest w (Reads.negated _ us _ v low d) h = let r = reads _ _ us rest v d h.1 in ((refl, (r.0, tt)), r.1)
    reads n l ws rest w (Reads.product _ _ us _ c a b d i e) h =
        let x = reads _ _ ws (words.name c ∷ us) a d h in let y = reads _ _ us rest b e x.1.1 in ((x.1.0, (x.0, (y.0, tt))), y.1)
    reads n l ws rest w (Reads.sum _ _ us _ o c a b d i e) h =
        let x = reads _ _ ws (o ∷ us) a d h in let y = reads _ _ us rest b e x.1.1 in ((sum o c i x.1.0, (x.0, (y.0, tt))), y.1)
    reads n l ws rest w (Reads.relation _ _ us _ c a b d i e) h =
        let x = reads _ _ ws (words.name c ∷ us) a d h in let y = reads _ _ us rest b e x.1.1 in ((x.1.0, (x.0, (y.0, tt))), y.1)
    reads n l ws rest w (Reads.conjunction _ _ us _ a b d e) h =
        let x = reads _ _ ws (words.comma ∷ us) a d h in let y = reads _ _ us rest b e x.1.1 in ((refl, (x.0, (y.0, tt))), y.1)
    reads n l ws rest w (Reads.disjunction _ _ us _ a b d e) h =
        let x = reads _ _ ws (words.semicolon ∷ us) a d h in let y = reads _ _ us rest b e x.1.1 in ((refl, (x.0, (y.0, tt))), y.1)
    reads n l ws rest w (Reads.as200 _ _ _ _ d) h = reads _ _ ws rest w d h
    reads n l ws rest w (Reads.as400 _ _ _ _ d) h = reads _ _ ws rest w d h
    reads n l ws rest w (Reads.as500 _ _ _ _ d) h = reads _ _ ws rest w d h
    reads n l ws rest w (Reads.as700 _ _ _ _ d) h = reads _ _ ws rest w d h
    reads n l ws rest w (Reads.as1000 _ _ _ _ d) h = reads _ _ ws rest w d h
    reads n l ws rest w (Reads.as1100 _ _ _ _ d) h = reads _ _ ws rest w d h

    arguments : (n k : ℕ) (ws rest : List Word) (ts : Many) → Arguments limited n k ws rest ts → Writable ws → AllWritable ts × Writable rest
    arguments n k ws rest ts (Arguments.last_argument _ _ _ _ w d) h =
        let r = reads _ _ ws (words.close_bracket ∷ rest) w d h in ((r.0, tt), r.1.1)
    arguments n k ws rest ts (Arguments.next_argument _ _ _ us _ w vs d low x) h =
        let r = reads _ _ ws (words.comma ∷ us) w d h in let s = arguments _ _ us rest vs x r.1.1 in ((r.0, s.0), s.1)

    elements : (n : ℕ) (ws rest : List Word) (w : Written) → Elements limited n ws rest w → Writable ws → AreWritable w × Writable rest
    elements n ws rest w (Elements.last_element _ _ _ a d) h =
        let r = reads _ _ ws (words.close_list ∷ rest) a d h in ((refl, (r.0, ((refl, tt), tt))), r.1.1)
    elements n ws rest w (Elements.tail _ _ us _ a b d e) h =
        let x = reads _ _ ws (words.bar ∷ us) a d h in let y = reads _ _ us (words.close_list ∷ rest) b e x.1.1 in ((refl, (x.0, (y.0, tt))), y.1.1)
    elements n ws rest w (Elements.next_element _ _ us _ a b d e) h =
        let x = reads _ _ ws (words.comma ∷ us) a d h in let y = elements _ us rest b e x.1.1 in ((refl, (x.0, (y.0, tt))), y.1)

  necks : (k : Neck) → is_writable (symbol_of k) ≡ true
  necks turnstile = refl
  necks arrow = refl

  clauses : (ws : List Word) (s : Sort) (w : Written) → IsClause limited ws s w → Writable ws → AreWritable w
  clauses ws s w (IsClause.fact _ _ d) h = (reads _ _ ws (words.end ∷ []) w d h).0
  clauses ws s w (IsClause.rule _ us k a b d e) h =
      let x = reads _ _ ws (words.name (symbol_of k) ∷ us) a d h in
      let y = reads _ _ us (words.end ∷ []) b e x.1.1 in (necks k, (x.0, (y.0, tt)))
  clauses ws s w (IsClause.query us b d) h = let r = reads _ _ us (words.end ∷ []) b d h.1 in (refl, (r.0, tt))

  -- all terms of a text
  abbrev pub AllTerms : List Statement → Type 0
  AllTerms [] = Unit {0}
  AllTerms (s ∷ ss) = AreWritable s.term × AllTerms ss

  unplaced : (ps qs : List Placed) → AreWritableWords (ps ++ qs) → Writable (map (λ (p : Placed). p.word) ps) × AreWritableWords qs
  unplaced [] qs h = (tt, h)
  unplaced (p ∷ ps) qs h = let r = unplaced ps qs h.1 in ((h.0, r.0), r.1)

  pub terms-writable : (ws : List Placed) (ss : List Statement) → IsText limited ws ss → AreWritableWords ws → AllTerms ss
  terms-writable ws ss IsText.nothing h = tt
  terms-writable ws ss (IsText.statement first others rest whole s w us e c t) h =
      let r = unplaced (first ∷ others) rest (subst AreWritableWords e h) in
      (clauses (map (λ (p : Placed). p.word) (first ∷ others)) s w c r.0, terms-writable rest us t r.1)
