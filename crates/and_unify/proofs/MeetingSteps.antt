-- Two references that a pair leads to, and what becomes of them step by step.
use Rattle.std.proofs.Common.{ℕ, ◌≡◌, ◌≢◌, ◌<◌, ◌⊎◌, true, false, refl, sym, subst, ◌∙◌, inl, inr, true≢false, arith}
use Rattle.and_model.specs.Store.{is_half}
use Rattle.and_model.specs.declared.reference.Ref.{Ref}
use Rattle.and_model.specs.declared.reference.Ref.TheVariants.{Free, Cell, Node, Number, Half}
use Rattle.and_cells.specs.Ranges.{NamedProgram, IsInRange, IsInRangeOrHalf}
use Rattle.and_cells.specs.Seen.{Seen, Knows, Finds, Sets, OnlyReads, LeadsTo, here, onward, IsWrittenIfNumber}
use Rattle.and_cells.proofs.Chains.{reads_nothing, reads_more, finds_reads, leads_later, written_later, written_since_known, held_in_range}
use Rattle.and_cells.specs.Parts.{IsStructure}
use Rattle.and_cells.proofs.References.{cells_behind, held_behind}
use Rattle.and_unify.specs.Pairs.{AreApart}
use Rattle.and_unify.specs.Heads.{IsEnd, HasHead}
use Rattle.and_unify.specs.Meeting.{AreOfOneShape, IsToBeSet, GoesOn, Lead, MeetAlike, MeetFree, MeetStructures, MeetApart}
use Rattle.and_unify.specs.declared.heads.Head.{Head}
use Rattle.and_unify.specs.declared.heads.Head.TheVariants as head
use Rattle.and_unify.proofs.MeetingHeads.{head_later, heads_apart, numbers_alike}

leads_then : (s : Seen) (a b c : Ref) → LeadsTo s a b → LeadsTo s b c → LeadsTo s a c
leads_then s a b c (here r) rest = rest
leads_then s a b c (onward cell r to knows leads) rest = onward cell r c knows (leads_then s r to c leads rest)

-- where only looks are made, two references stay where they are
pub lead_here : (one other : Ref) (old new : Seen) → OnlyReads old new → Lead one other old new one other
lead_here one other old new reads = record { reads = reads; left_leads = here one; right_leads = here other }

pub lead_on : (left right p q one other : Ref) (old mid new : Seen) → Lead left right old mid p q → Lead p q mid new one other
    → Lead left right old new one other
lead_on left right p q one other old mid new a b = record {
  reads = reads_more old mid new a.reads b.reads;
  left_leads = leads_then new left p one (leads_later mid new left p b.reads.keeps a.left_leads) b.left_leads;
  right_leads = leads_then new right q other (leads_later mid new right q b.reads.keeps a.right_leads) b.right_leads;
}

pub alike_on : (P : NamedProgram) (left right p q : Ref) (old mid new : Seen) → Lead left right old mid p q → MeetAlike P p q mid new
    → MeetAlike P left right old new
alike_on P left right p q old mid new lead met = record {
  one = met.one;
  other = met.other;
  lead = lead_on left right p q met.one met.other old mid new lead met.lead;
  alike = met.alike;
}

pub free_on : (P : NamedProgram) (left right p q : Ref) (cell : ℕ) (old mid new : Seen) → Lead left right old mid p q → MeetFree P p q cell mid new
    → MeetFree P left right cell old new
free_on P left right p q cell old mid new lead met = record {
  one = met.one;
  other = met.other;
  to = met.to;
  before = met.before;
  lead = lead_on left right p q met.one met.other old mid met.before lead met.lead;
  differ = met.differ;
  ends = met.ends;
  below = subst (λ n. cell < n) lead.reads.words met.below;
  in_range = subst (λ n. IsInRange P n met.to) lead.reads.words met.in_range;
  written = met.written;
  sets = met.sets;
}

pub structures_on : (P : NamedProgram) (left right p q one other : Ref) (old mid new : Seen) → Lead left right old mid p q
    → MeetStructures P p q mid new one other
    → MeetStructures P left right old new one other
structures_on P left right p q one other old mid new lead met = record {
  lead = lead_on left right p q one other old mid new lead met.lead;
  shape = subst (λ n. AreOfOneShape P n one other) lead.reads.words met.shape;
}

pub apart_on : (P : NamedProgram) (left right p q one other : Ref) (old mid new : Seen) → Lead left right old mid p q → MeetApart P p q mid new one other
    → MeetApart P left right old new one other
apart_on P left right p q one other old mid new lead met = record { lead = lead_on left right p q one other old mid new lead met.lead; apart = met.apart }

-- one reference twice, which is no word of a pair
pub alike_here : (P : NamedProgram) (one other : Ref) (s : Seen) → one ≡ other → is_half one ≡ false → MeetAlike P one other s s
alike_here P one other s same whole = record { one = one; other = other; lead = lead_here one other s s (reads_nothing s); alike = inl (same, whole) }

end_whole : (r : Ref) → IsEnd r → is_half r ≡ false
end_whole Free end = absurd end
end_whole (Cell cell) end = absurd end
end_whole (Node node base) end = refl
end_whole (Number pair) end = refl
end_whole (Half bits) end = absurd end

-- one number or structure twice
pub alike_end : (P : NamedProgram) (one other : Ref) (s : Seen) → one ≡ other → IsEnd one → MeetAlike P one other s s
alike_end P one other s same end = alike_here P one other s same (end_whole one end)

pub apart_here : (P : NamedProgram) (one other p q : Ref) (old new : Seen) → one ≡ p → other ≡ q → OnlyReads old new → AreApart P new one other
    → MeetApart P one other old new p q
apart_here P one other p q old new first second reads apart =
    subst (MeetApart P one other old new p) second
    (subst (λ r. MeetApart P one other old new r other) first (record { lead = lead_here one other old new reads; apart = apart }))

-- a word of a pair is apart from all
pub either_half : (P : NamedProgram) (s : Seen) (one other : Ref) → (is_half one ≡ true) ⊎ (is_half other ≡ true) → AreApart P s one other
either_half P s one other (inl first) = inl first
either_half P s one other (inr second) = inr (inl second)

-- What was read of two references that are no cells.
pub record Compared (P : NamedProgram) (one other : Ref) (left right : Head) (old mid new : Seen) : Type 0 where
  pub first_reads : OnlyReads old mid
  pub first : HasHead P mid one left
  pub second_reads : OnlyReads mid new
  pub second : HasHead P new other right

pub both_read : (P : NamedProgram) (one other : Ref) (left right : Head) (old mid new : Seen) → Compared P one other left right old mid new → OnlyReads old new
both_read P one other left right old mid new c = reads_more old mid new c.first_reads c.second_reads

pub first_later : (P : NamedProgram) (one other : Ref) (left right : Head) (old mid new : Seen) → Compared P one other left right old mid new
    → HasHead P new one left
first_later P one other left right old mid new c = head_later P mid new one left c.second_reads.keeps c.first

pub apart_compared : (P : NamedProgram) (one other p q : Ref) (left right : Head) (old mid new : Seen) → Compared P one other left right old mid new
    → left ≢ right → one ≡ p → other ≡ q
    → MeetApart P one other old new p q
apart_compared P one other p q left right old mid new c differ is_one is_other =
    apart_here P one other p q old new is_one is_other (both_read P one other left right old mid new c)
    (heads_apart P new one other left right (first_later P one other left right old mid new c) c.second differ)

pub alike_compared : (P : NamedProgram) (one other : Ref) (left right : Head) (z : _) (old mid new : Seen) → Compared P one other left right old mid new
    → left ≡ right → left ≡ head.Number z
    → MeetAlike P one other old new
alike_compared P one other left right z old mid new c same number = record {
  one = one;
  other = other;
  lead = lead_here one other old new (both_read P one other left right old mid new c);
  alike = numbers_alike P new one other left right z number (sym same ∙ number) (first_later P one other left right old mid new c) c.second;
}

pub structures_compared : (P : NamedProgram) (one other p q : Ref) (left right : Head) (name : _) (count : ℕ) (old mid new : Seen)
    → Compared P one other left right old mid new
    → left ≡ right → left ≡ head.Name name count → one ≡ p → other ≡ q → IsInRange P old.words one → IsInRange P old.words other
    → MeetStructures P one other old new p q
structures_compared P one other p q left right name count old mid new c same named is_one is_other one_in_range other_in_range =
    let a : IsStructure P one name.0 count = subst (HasHead P new one) named (first_later P one other left right old mid new c) in
    let b : IsStructure P other name.0 count = subst (HasHead P new other) (sym same ∙ named) c.second in
    let here : MeetStructures P one other old new one other = record {
      lead = lead_here one other old new (both_read P one other left right old mid new c);
      shape = record {
        name = name.0;
        count = count;
        left_is = a;
        right_is = b;
        left_in_range = one_in_range;
        right_in_range = other_in_range;
      };
    } in
    subst (MeetStructures P one other old new p) is_other (subst (λ r. MeetStructures P one other old new r other) is_one here)

pub whole_in_range : (P : NamedProgram) (words : ℕ) (r : Ref) → is_half r ≡ false → IsInRangeOrHalf P words r → IsInRange P words r
whole_in_range P words Free whole fits = absurd fits
whole_in_range P words (Cell cell) whole fits = fits
whole_in_range P words (Node node base) whole fits = fits
whole_in_range P words (Number pair) whole fits = fits
whole_in_range P words (Half bits) whole fits = absurd (true≢false whole)

to_differs : (cell : ℕ) (from to : Ref) → IsToBeSet cell from to → from ≢ to
to_differs cell from to set same = let below = set.falls cell (sym same ∙ set.is) in omega arith

-- the left side was set to the right side
pub free_left : (P : NamedProgram) (one other : Ref) (cell as_told : ℕ) (old new : Seen) → IsToBeSet cell one other → IsInRangeOrHalf P old.words one
    → IsInRangeOrHalf P old.words other → IsWrittenIfNumber old other
    → Sets cell other old new → cell ≡ as_told → MeetFree P one other as_told old new
free_left P one other cell as_told old new set own fits written sets told = subst (λ c. MeetFree P one other c old new) told (record {
  one = one;
  other = other;
  to = other;
  before = old;
  lead = lead_here one other old old (reads_nothing old);
  differ = to_differs cell one other set;
  ends = inl (set.is, refl);
  below = subst (IsInRangeOrHalf P old.words) set.is own;
  in_range = whole_in_range P old.words other set.no_half fits;
  written = written;
  sets = sets;
})

-- and the other way round
pub free_right : (P : NamedProgram) (one other : Ref) (cell as_told : ℕ) (old new : Seen) → IsToBeSet cell other one → IsInRangeOrHalf P old.words other
    → IsInRangeOrHalf P old.words one → IsWrittenIfNumber old one
    → Sets cell one old new → cell ≡ as_told → MeetFree P one other as_told old new
free_right P one other cell as_told old new set own fits written sets told = subst (λ c. MeetFree P one other c old new) told (record {
  one = one;
  other = other;
  to = one;
  before = old;
  lead = lead_here one other old old (reads_nothing old);
  differ = λ e. to_differs cell other one set (sym e);
  ends = inr (set.is, refl);
  below = subst (IsInRangeOrHalf P old.words) set.is own;
  in_range = whole_in_range P old.words one set.no_half fits;
  written = written;
  sets = sets;
})

-- a cell was found set
pub goes_on : (P : NamedProgram) (from to as_told : Ref) (cell : ℕ) (old new : Seen) → from ≡ Cell cell → Finds P cell to old new → to ≡ as_told
    → GoesOn P from as_told old new
goes_on P from to as_told cell old new is finds told = subst (λ r. GoesOn P from r old new) told (record { cell = cell; is = is; finds = finds })

-- Two references to which a pair led by looks alone.
pub record Standing (P : NamedProgram) (left right : Ref) (old now : Seen) (one other : Ref) : Type 0 where
  pub lead : Lead left right old now one other
  pub one_in_range : IsInRangeOrHalf P now.words one
  pub other_in_range : IsInRangeOrHalf P now.words other
  pub one_written : IsWrittenIfNumber now one
  pub other_written : IsWrittenIfNumber now other

found_in_range : (P : NamedProgram) (from to : Ref) (old new : Seen) → IsInRangeOrHalf P old.words from → GoesOn P from to old new
    → IsInRangeOrHalf P new.words to
found_in_range P from to old new fits goes =
    let below : goes.cell < old.words = subst (IsInRangeOrHalf P old.words) goes.is fits in
    subst (λ n. IsInRangeOrHalf P n to) (sym goes.finds.words) (held_in_range P old.words goes.cell to below goes.finds.is_set goes.finds.fits)

found_known : (P : NamedProgram) (from to : Ref) (old new : Seen) → (goes : GoesOn P from to old new) → Knows new goes.cell to
found_known P from to old new goes = (goes.finds.adds goes.cell to).1 (inr (refl, refl))

found_leads : (P : NamedProgram) (from to : Ref) (old new : Seen) → GoesOn P from to old new → LeadsTo new from to
found_leads P from to old new goes = subst (λ r. LeadsTo new r to) (sym goes.is) (onward goes.cell to to (found_known P from to old new goes) (here to))

-- the left side goes on to what its cell was found set to
pub standing_left : (P : NamedProgram) (left right : Ref) (old now new : Seen) (one other to : Ref) → Standing P left right old now one other
    → GoesOn P one to now new
    → Standing P left right old new to other
standing_left P left right old now new one other to s goes =
    let reads = finds_reads P goes.cell to now new goes.finds in record {
      lead = lead_on left right one other to other old now new s.lead
          (record { reads = reads; left_leads = found_leads P one to now new goes; right_leads = here other });
      one_in_range = found_in_range P one to now new s.one_in_range goes;
      other_in_range = subst (λ n. IsInRangeOrHalf P n other) (sym reads.words) s.other_in_range;
      one_written = written_since_known new goes.cell to (found_known P one to now new goes);
      other_written = written_later now new other reads.keeps s.other_written;
    }

-- and so does the right side
pub standing_right : (P : NamedProgram) (left right : Ref) (old now new : Seen) (one other to : Ref) → Standing P left right old now one other
    → GoesOn P other to now new
    → Standing P left right old new one to
standing_right P left right old now new one other to s goes =
    let reads = finds_reads P goes.cell to now new goes.finds in record {
      lead = lead_on left right one other one to old now new s.lead
          (record { reads = reads; left_leads = here one; right_leads = found_leads P other to now new goes });
      one_in_range = subst (λ n. IsInRangeOrHalf P n one) (sym reads.words) s.one_in_range;
      other_in_range = found_in_range P other to now new s.other_in_range goes;
      one_written = written_later now new one reads.keeps s.one_written;
      other_written = written_since_known new goes.cell to (found_known P other to now new goes);
    }

-- there are fewer behind what a cell was found set to
pub behind_falls : (P : NamedProgram) (from to : Ref) (old new : Seen) → GoesOn P from to old new → cells_behind to < cells_behind from
behind_falls P from to old new goes = subst (λ r. cells_behind to < cells_behind r) (sym goes.is) (held_behind P old.words goes.cell to goes.finds.fits)

-- Looks along one chain led to this.
pub record Followed (P : NamedProgram) (from to : Ref) (old new : Seen) : Type 0 where
  pub reads : OnlyReads old new
  pub leads : LeadsTo new from to
  pub in_range : IsInRangeOrHalf P old.words to
  pub written : IsWrittenIfNumber new to

-- where both chains were followed, the two references stand at their ends
pub both_followed : (P : NamedProgram) (left right one other : Ref) (old mid new : Seen) → Followed P left one old mid → Followed P right other mid new
    → Standing P left right old new one other
both_followed P left right one other old mid new a b = record {
  lead = record { reads = reads_more old mid new a.reads b.reads; left_leads = leads_later mid new left one b.reads.keeps a.leads; right_leads = b.leads };
  one_in_range = subst (λ n. IsInRangeOrHalf P n one) (sym (b.reads.words ∙ a.reads.words)) a.in_range;
  other_in_range = subst (λ n. IsInRangeOrHalf P n other) (sym b.reads.words) b.in_range;
  one_written = written_later mid new one b.reads.keeps a.written;
  other_written = b.written;
}

-- where the left chain was followed, and the right side is a cell that took what it led to
pub taken : (P : NamedProgram) (left right to : Ref) (cell : ℕ) (old mid new : Seen) → right ≡ Cell cell → IsInRange P old.words right
    → Followed P left to old mid → IsToBeSet cell (Cell cell) to
    → Sets cell to mid new → MeetFree P left right cell old new
taken P left right to cell old mid new is fits followed set sets =
    let below : cell < old.words = subst (IsInRange P old.words) is fits in
    let own : IsInRangeOrHalf P mid.words right = subst (IsInRangeOrHalf P mid.words) (sym is) (subst (λ n. cell < n) (sym followed.reads.words) below) in
    let to_fits : IsInRangeOrHalf P mid.words to = subst (λ n. IsInRangeOrHalf P n to) (sym followed.reads.words) followed.in_range in
    free_on P left right to right cell old mid new (record { reads = followed.reads; left_leads = followed.leads; right_leads = here right })
    (free_right P to right cell cell mid new (record { is = is; no_half = set.no_half; falls = set.falls }) own to_fits followed.written sets refl)
