-- The steps of a look at a call and a head: what each meets, and what they meet together.
use Rattle.std.proofs.Common.{ℕ, ◌+◌, ◌≡◌, ◌<◌, true, List, [], ◌∷◌, ◌++◌, append-nil, append_assoc, length, map, get_or}
use Rattle.std.proofs.Common.{refl, sym, ap, ◌∙◌, subst, inl, inr, arith}
use Rattle.std.specs.Prelude.{Contains}
use Rattle.std.proofs.lemmas.List.{length-append}
use Rattle.std.proofs.lemmas.List.Elements.{All-contains, All-push, Contains-append_left, Contains-append_right, Contains-append_cases}
use Rattle.and_model.specs.Terms.{Term, Terms, variable, more, is_ground, Substitution, apply, apply_all, framed}
use Rattle.and_model.specs.Solutions.{Equation, Solves}
use Rattle.and_model.specs.declared.reference.Ref.{Ref}
use Rattle.and_model.specs.declared.reference.Ref.TheVariants.{Free}
use Rattle.and_program.specs.Skeletons.{term_list, nth, terms_behind, node_term}
use Rattle.and_laws.proofs.Ordered.{contains_first, contains_more, contains_cases, contains_none}
use Rattle.and_laws.proofs.Solving.{solves_then, solves_join, solves_front, solves_back}
use Rattle.and_laws.proofs.Substitutions.{then, apply_ground}
use Rattle.and_cells.specs.Ranges.{NamedProgram}
use Rattle.and_cells.specs.Rows.{IsSound}
use Rattle.and_cells.specs.Seen.{word_at, Grows, AreFree}
use Rattle.and_cells.specs.Meaning.{cell_variable, equations_of}
use Rattle.and_branch_laws.specs.Judging.{outside}
use Rattle.and_branch_laws.proofs.Lists.{all_left}
use Rattle.and_determinacy.specs.Seeing.{AgreeUpTo, SpeaksOf, SpeakOf, only, LacksEach, ref_term, IsNoted, LeavesOthers, IsGiven}
use Rattle.and_determinacy.specs.Seeing.{IsPart, IsUsable, AreNoted, Meets, AreLacking, IsLacking}
use Rattle.and_determinacy.proofs.Noted.{pushed_noted}
use Rattle.and_determinacy.proofs.SureHeads.{cell_early, ref_early, variable_early, early_later, are_early_later, early_join, early_solves, value_of_ref}
use Rattle.and_determinacy.proofs.SureHeads.{given_then, becomes, noting, is_noting, noting_agrees, noting_given, fresh_noted}

-- the variables of a head in the frame outside
abbrev pub frame : Substitution
frame = λ r k. variable outside k

-- the first cells of a longer list are free where all are
pub free_front : (later : List Ref) (held has gained : List ℕ) → has ≡ held ++ gained → AreFree later has → AreFree later held
free_front later held has gained longer free =
    all_left (λ (cell : ℕ). word_at later cell ≡ Free) held gained (subst (AreFree later) longer free)

pub longer_twice : (held mid has one other : List ℕ) → mid ≡ held ++ one → has ≡ mid ++ other → has ≡ held ++ (one ++ other)
longer_twice held mid has one other first second =
    second ∙ ap (λ (xs : List ℕ). xs ++ other) first ∙ append_assoc held one other

pub among_longer : (held has gained : List ℕ) → has ≡ held ++ gained → (cell : ℕ) → Contains held cell → Contains has cell
among_longer held has gained longer cell c = subst (λ (xs : List ℕ). Contains xs cell) (sym longer) (Contains-append_left held gained cell c)

-- where others are left of a list, they are of a longer one
pub leaves_more : (later : List Ref) (held has gained : List ℕ) → has ≡ held ++ gained → (s : Substitution) → LeavesOthers later held s
    → LeavesOthers later has s
leaves_more later held has gained longer s leaves cell low was not = leaves cell low was (λ c. not (among_longer held has gained longer cell c))

module _ (P : NamedProgram) (row : List Ref) where
  -- ---- Equations

  pub nothing_meets : (held : List ℕ) (given : List Ref) → Meets P row held held given given []
  nothing_meets held given = record {
    gained = [];
    longer = sym (append-nil held);
    taller = omega arith;
    free = λ all. all;
    usable = λ all. all;
    early = tt;
    noted = λ s solves met noted. noted;
    goes = λ later grows sound settled free s is. record { to = s; is = is; keeps = λ ds early solves. solves; solves = tt };
  }

  -- What is met first and then is met together.
  pub both_meet : (held mid has : List ℕ) (given middle gives : List Ref) (es ds : List Equation) → Meets P row held mid given middle es
      → Meets P row mid has middle gives ds → Meets P row held has given gives (es ++ ds)
  both_meet held mid has given middle gives es ds one other =
      let up = one.taller in
      let higher = other.taller in
      let early : SpeakOf (length gives) es = are_early_later (length middle) (length gives) es higher one.early in
      record {
        gained = one.gained ++ other.gained;
        longer = longer_twice held mid has one.gained other.gained one.longer other.longer;
        taller = omega arith;
        free = λ all. other.free (one.free all);
        usable = λ all. other.usable (one.usable all);
        early = early_join (length gives) es ds early other.early;
        noted = λ s solves met noted.
            other.noted s solves (solves_back s es ds met) (one.noted s solves (solves_front s es ds met) noted);
        goes = λ later grows sound settled free s is.
            let first = one.goes later grows sound settled (free_front later mid has other.gained other.longer free) s is in
            let second = other.goes later grows sound settled free first.to first.is in
            record {
              to = second.to;
              is = second.is;
              keeps = λ fs early_too solves.
                  second.keeps fs (are_early_later (length given) (length middle) fs up early_too) (first.keeps fs early_too solves);
              solves = solves_join second.to es ds (second.keeps es one.early first.solves) second.solves;
            };
      }

  -- Other equations are met that follow.
  pub meets_so : (held has : List ℕ) (given gives : List Ref) (es ds : List Equation) → Meets P row held has given gives es
      → (SpeakOf (length gives) es → SpeakOf (length gives) ds)
      → ((later : List Ref) → Grows row later → IsSound P later → (s : Substitution) → IsGiven P later has gives s → Solves s es → Solves s ds)
      → ((s : Substitution) → Solves s (equations_of P row) → AreNoted P given s → Solves s ds → Solves s es)
      → Meets P row held has given gives ds
  meets_so held has given gives es ds meets early follows back = record {
    gained = meets.gained;
    longer = meets.longer;
    taller = meets.taller;
    free = meets.free;
    usable = meets.usable;
    early = early meets.early;
    noted = λ s solves met noted. meets.noted s solves (back s solves noted met) noted;
    goes = λ later grows sound settled free s is.
        let on = meets.goes later grows sound settled free s is in
        record {
          to = on.to;
          is = on.is;
          keeps = on.keeps;
          solves = follows later grows sound on.to on.is on.solves;
        };
  }

  -- ---- A variable is noted

  pub variable_meets : (held : List ℕ) (given : List Ref) (part : Ref) → IsPart P (length row) part
      → Meets P row held held given (given ++ part ∷ []) ((ref_term P part, variable outside (length given)) ∷ [])
  variable_meets held given part fits =
      let n : ℕ = length given in
      let pushed : length (given ++ part ∷ []) ≡ n + 1 = length-append given (part ∷ []) in
      let new : ℕ = length (given ++ part ∷ []) in
      record {
        gained = [];
        longer = sym (append-nil held);
        taller = omega (arith, pushed);
        free = λ all. all;
        usable = λ all. All-push (IsUsable P (length row)) given part all (inr fits);
        early = (ref_early P new part, variable_early new n (omega (arith, pushed)), tt);
        noted = λ s solves met noted. pushed_noted P given part s (inr met.0) noted;
        goes = λ later grows sound settled free s is.
            let x : Term = apply s (ref_term P part) in
            let z : Substitution = noting n x s in
            record {
              to = z;
              is = noting_given P later held given s is part x sound (value_of_ref P (word_at later) s (length row) part fits);
              keeps = λ ds early solves. early_solves n s z ds (noting_agrees n x s) early solves;
              solves = (sym ((ref_early P n part).same s z (noting_agrees n x s)) ∙ sym (is_noting n x s), tt);
            };
      }

  -- ---- Terms that lack cells

  pub nothing_lacks : (held : List ℕ) (given : List Ref) → AreLacking P row held held given given []
  nothing_lacks held given = record {
    gained = [];
    longer = sym (append-nil held);
    taller = omega arith;
    free = λ all. all;
    usable = λ all. all;
    early = λ h c. absurd (contains_none h c);
    noted = λ s noted. noted;
    lacks = λ later grows sound settled free s is. (is, λ h c. absurd (contains_none h c));
  }

  pub lacks_fewer : (held mid gained : List ℕ) → mid ≡ held ++ gained → (t : Term) → LacksEach mid t → LacksEach held t
  lacks_fewer held mid gained longer t lacks = record { stays = λ cell c. lacks.stays cell (among_longer held mid gained longer cell c) }

  pub both_lack : (held mid has : List ℕ) (given middle gives : List Ref) (hs : List ℕ) (h : ℕ) → AreLacking P row held mid given middle hs
      → AreLacking P row mid has middle gives (h ∷ []) → AreLacking P row held has given gives (hs ++ h ∷ [])
  both_lack held mid has given middle gives hs h one other =
      let up = one.taller in
      let higher = other.taller in
      record {
        gained = one.gained ++ other.gained;
        longer = longer_twice held mid has one.gained other.gained one.longer other.longer;
        taller = omega arith;
        free = λ all. other.free (one.free all);
        usable = λ all. other.usable (one.usable all);
        early = λ k c. elim (Contains-append_cases hs (h ∷ []) k c) [
          | inl before ↦ early_later (length middle) (length gives) (framed outside (node_term P.skeleton.nodes k)) higher (one.early k before)
          | inr last ↦ other.early k last
        ];
        noted = λ s noted. other.noted s (one.noted s noted);
        lacks = λ later grows sound settled free s is.
            let first = one.lacks later grows sound settled (free_front later mid has other.gained other.longer free) s is in
            let second = other.lacks later grows sound settled free s first.0 in (
              second.0,
              λ k c. elim (Contains-append_cases hs (h ∷ []) k c) [
                | inl before ↦ first.1 k before
                | inr last ↦ lacks_fewer held mid one.gained one.longer (apply s (framed outside (node_term P.skeleton.nodes k))) (second.1 k last)
              ],
            );
      }

  only_one : (h : ℕ) (Q : ℕ → Type 0) → Q h → (k : ℕ) → Contains (h ∷ []) k → Q k
  only_one h Q q k c = elim (contains_cases h k [] c) [ inl e ↦ subst Q (sym e) q | inr i ↦ absurd (contains_none k i) ]

  abbrev head_term : ℕ → Term
  head_term h = framed outside (node_term P.skeleton.nodes h)

  -- A constant does,
  pub constant_lacks : (held : List ℕ) (given : List Ref) (h : ℕ) → is_ground (node_term P.skeleton.nodes h) ≡ true
      → AreLacking P row held held given given (h ∷ [])
  constant_lacks held given h ground =
      let t : Term = node_term P.skeleton.nodes h in
      let same : framed outside t ≡ t = apply_ground frame t ground in
      let fixed : (s : Substitution) → apply s (framed outside t) ≡ t = λ s. ap (apply s) same ∙ apply_ground s t ground in
      record {
        gained = [];
        longer = sym (append-nil held);
        taller = omega arith;
        free = λ all. all;
        usable = λ all. all;
        early = only_one h (λ (k : ℕ). SpeaksOf (length given) (head_term k)) (record { same = λ s z agree. fixed s ∙ sym (fixed z) });
        noted = λ s noted. noted;
        lacks = λ later grows sound settled free s is. (
          is,
          only_one h (λ (k : ℕ). LacksEach held (apply s (head_term k)))
              (record { stays = λ cell c u. ap (apply (only cell u)) (fixed s) ∙ apply_ground (only cell u) t ground ∙ sym (fixed s) }),
        );
      }

  variable_stays : (held : List ℕ) (s : Substitution) (k : ℕ) → s outside k ≡ variable outside k → LacksEach held (s outside k)
  variable_stays held s k fresh = record { stays = λ cell c u. ap (apply (only cell u)) fresh ∙ sym fresh }

  -- and so does a variable that is itself, seen for the first time
  pub fresh_lacks : (held : List ℕ) (given : List Ref) (h : ℕ) → node_term P.skeleton.nodes h ≡ variable [] (length given)
      → AreLacking P row held held given (given ++ Free ∷ []) (h ∷ [])
  fresh_lacks held given h shape =
      let n : ℕ = length given in
      let pushed : length (given ++ Free ∷ []) ≡ n + 1 = length-append given (Free ∷ []) in
      let new : ℕ = length (given ++ Free ∷ []) in
      let is_variable : head_term h ≡ variable outside n = ap (framed outside) shape in
      record {
        gained = [];
        longer = sym (append-nil held);
        taller = omega (arith, pushed);
        free = λ all. all;
        usable = λ all. All-push (IsUsable P (length row)) given Free all (inl refl);
        early = only_one h (λ (k : ℕ). SpeaksOf new (head_term k))
            (subst (SpeaksOf new) (sym is_variable) (variable_early new n (omega (arith, pushed))));
        noted = λ s noted. pushed_noted P given Free s (inl refl) noted;
        lacks = λ later grows sound settled free s is. (
          fresh_noted P later held given s is Free refl,
          only_one h (λ (k : ℕ). LacksEach held (apply s (head_term k)))
              (subst (λ (t : Term). LacksEach held (apply s t)) (sym is_variable) (variable_stays held s n (is.unseen n (omega arith)))),
        );
      }

  -- or again.
  pub itself_lacks : (held : List ℕ) (given : List Ref) (h k : ℕ) → node_term P.skeleton.nodes h ≡ variable [] k → k < length given
      → get_or given k Free ≡ Free → AreLacking P row held held given given (h ∷ [])
  itself_lacks held given h k shape low none_given =
      let n : ℕ = length given in
      let is_variable : head_term h ≡ variable outside k = ap (framed outside) shape in
      record {
        gained = [];
        longer = sym (append-nil held);
        taller = omega arith;
        free = λ all. all;
        usable = λ all. all;
        early = only_one h (λ (j : ℕ). SpeaksOf n (head_term j)) (subst (SpeaksOf n) (sym is_variable) (variable_early n k low));
        noted = λ s noted. noted;
        lacks = λ later grows sound settled free s is. (
          is,
          only_one h (λ (j : ℕ). LacksEach held (apply s (head_term j)))
              (subst (λ (t : Term). LacksEach held (apply s t)) (sym is_variable)
              (variable_stays held s k (noted_free later s k (subst (IsNoted P later s k) none_given (is.seen k low))))),
        );
      }
    where
      noted_free : (later : List Ref) (s : Substitution) (k : ℕ) → IsNoted P later s k Free → s outside k ≡ variable outside k
      noted_free later s k (inl fresh) = fresh.1
      noted_free later s k (inr told) = absurd (cc)

  -- ---- A free cell is filled

  -- where each argument lacks the cells the whole does
  pub all_lack : (held : List ℕ) (s : Substitution) (cell : ℕ) (u : Term) → Contains held cell → (hs : List ℕ)
      → ((h : ℕ) → Contains hs h → LacksEach held (apply s (head_term h)))
      → apply_all (only cell u) (apply_all s (apply_all frame (term_list (map (nth (terms_behind [] P.skeleton.nodes)) hs))))
      ≡ apply_all s (apply_all frame (term_list (map (nth (terms_behind [] P.skeleton.nodes)) hs)))
  all_lack held s cell u c [] each = refl
  all_lack held s cell u c (h ∷ hs) each =
      let ts : Terms = apply_all s (apply_all frame (term_list (map (nth (terms_behind [] P.skeleton.nodes)) hs))) in
      ap (λ (t : Term). more t (apply_all (only cell u) ts)) ((each h (contains_first h hs)).stays cell c u)
      ∙ ap (λ (us : Terms). more (apply s (head_term h)) us) (all_lack held s cell u c hs (λ k i. each k (contains_more h k hs i)))

  pub all_early : (n : ℕ) (s z : Substitution) → AgreeUpTo n s z → (hs : List ℕ) → ((h : ℕ) → Contains hs h → SpeaksOf n (head_term h))
      → apply_all s (apply_all frame (term_list (map (nth (terms_behind [] P.skeleton.nodes)) hs)))
      ≡ apply_all z (apply_all frame (term_list (map (nth (terms_behind [] P.skeleton.nodes)) hs)))
  all_early n s z agree [] each = refl
  all_early n s z agree (h ∷ hs) each =
      ap (λ (t : Term). more t (apply_all s (apply_all frame (term_list (map (nth (terms_behind [] P.skeleton.nodes)) hs)))))
      ((each h (contains_first h hs)).same s z agree)
      ∙ ap (λ (us : Terms). more (apply z (head_term h)) us) (all_early n s z agree hs (λ k i. each k (contains_more h k hs i)))

  -- The cell becomes a term that lacks it, as all that is held.
  pub cell_filled : (x : Term) (held has : List ℕ) (given gives : List Ref) (cell : ℕ) → cell < length row → word_at row cell ≡ Free
      → (Contains held cell → ⊥) → IsLacking P row (held ++ cell ∷ []) has given gives x → Meets P row held has given gives ((cell_variable cell, x) ∷ [])
  cell_filled x held has given gives cell low was_free new are =
      let mid : List ℕ = held ++ cell ∷ [] in
      let there : Contains mid cell = Contains-append_right held (cell ∷ []) cell (contains_first cell []) in
      let among : Contains has cell = among_longer mid has are.gained are.longer cell there in
      record {
        gained = (cell ∷ []) ++ are.gained;
        longer = longer_twice held mid has (cell ∷ []) are.gained refl are.longer;
        taller = are.taller;
        free = λ all. are.free (All-push (λ (c : ℕ). word_at row c ≡ Free) held cell all was_free);
        usable = are.usable;
        early = (cell_early (length gives) cell, are.early, tt);
        noted = λ s solves met noted. are.noted s noted;
        goes = λ later grows sound settled free s is.
            let long = grows.longer in
            let begun : IsGiven P later mid given s = record {
              solves = is.solves;
              others = leaves_more later held mid (cell ∷ []) refl s is.others;
              unseen = is.unseen;
              seen = is.seen;
            } in
            let (now, lacks) = are.lacks later grows sound settled free s begun in
            let was : s [] cell ≡ cell_variable cell =
            is.others cell (omega arith) (All-contains (λ (c : ℕ). word_at later c ≡ Free) has cell free among) new in
            record {
              to = then s (only cell (apply s x));
              is = given_then P later has gives s now cell (apply s x) among;
              keeps = λ ds early_too solves. solves_then s (only cell (apply s x)) ds solves;
              solves = (becomes s cell x mid was there lacks, tt);
            };
      }

  -- What the arguments make lacks what each of them lacks.
  pub whole_lacks : (x : Term) (hs : List ℕ) (held has : List ℕ) (given gives : List Ref)
      → ((s : Substitution) → ((h : ℕ) → Contains hs h → LacksEach held (apply s (head_term h))) → LacksEach held (apply s x))
      → (((h : ℕ) → Contains hs h → SpeaksOf (length gives) (head_term h)) → SpeaksOf (length gives) x)
      → AreLacking P row held has given gives hs → IsLacking P row held has given gives x
  whole_lacks x hs held has given gives whole early are = record {
    gained = are.gained;
    longer = are.longer;
    taller = are.taller;
    free = are.free;
    usable = are.usable;
    early = early are.early;
    noted = are.noted;
    lacks = λ later grows sound settled free s is. let both = are.lacks later grows sound settled free s is in (both.0, whole s both.1);
  }
