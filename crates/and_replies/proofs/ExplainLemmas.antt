-- From what a search found to what is told of one of its answers.
use Rattle.std.proofs.Common.{ℕ, ◌≡◌, ◌<◌, ◌≤◌, ◌-◌, ◌++◌, false, List, Option, Some, None, Result, Ok, Err, IfOk, inl, inr, [], ◌∷◌, ◌+◌, length, arith}
use Rattle.std.proofs.Common.{refl, sym, ap, subst}
use Rattle.std.proofs.Common.{◌∙◌}
use Rattle.std.specs.Prelude.{get_or}
use Rattle.std.specs.List.{Contains}
use Rattle.std.proofs.lemmas.List.{append-nil, length-append}
use Rattle.and_model.specs.Lines.{Bytes}
use Rattle.and_model.specs.Programs.{Program}
use Rattle.and_model.specs.Listing.{Entry, Listing}
use Rattle.and_source.specs.Source.{SourceProgram}
use Rattle.and_source.specs.Lifted.{lift}
use Rattle.and_source.specs.SourceListing.{SourceListing}
use Rattle.and_lifting.proofs.Listing.{lifting_keeps, exhausted_alike}
use Rattle.and_model.specs.Output.{last_lines}
use Rattle.and_model.specs.Trees.{unfold_code}
use Rattle.and_model.specs.declared.goal
use Rattle.and_model.specs.declared.limits.TheConstants.{MAX_LIMIT}
use Rattle.and_laws.proofs.Listings.{ends_outcome}
use Rattle.and_laws.proofs.Members.{listing_entries}
use Rattle.and_laws.proofs.Unfolding.{code_unfolds, whole_decided}
use Rattle.and_answers.specs.Kept.{last_code, listed, finish_of, finish_with}
use Rattle.and_answers.specs.declared.found.Found.{Found}
use Rattle.and_search_laws.specs.Found.{IsEnd, IsFound, FindsFirst}
use Rattle.and_search_laws.specs.Found as walks
use Rattle.and_proof.specs.Proofs.{HasProof, ProofText}
use Rattle.and_questions.specs.Explained.{IsAt}
use Rattle.and_questions.specs.Lifted.{IsLifted}
use Rattle.and_questions.specs.Explained.{Documents, lacking_status}
use Rattle.and_questions.specs.Replied.{WasExplained}
use Rattle.and_questions.specs.declared.reply.Reply.{Reply}
use Rattle.and_status.specs.declared.status.Status.{Status}
use Rattle.and_status.specs.declared.status.Status.TheVariants.{Answers}

-- what is listed has a proof
listed_has_proof : (P : Program) (limit : ℕ) (ls : List Entry) (e : Entry) → Listing P limit ls → limit ≤ MAX_LIMIT → Contains ls e → HasProof P e.code
listed_has_proof P limit ls e lists small at =
    let w = (listing_entries P limit ls lists e).0 at in (
      w.0,
      subst (λ cs. unfold_code P cs ≡ Some w.0) w.1 (code_unfolds P w.0 (whole_decided w.0 w.2.0)),
      ends_outcome w.0 e.outcome w.2,
      omega (arith, w.3, small),
    )

-- the last of some, among them and more
at_last : (front rest : List Entry) (e : Entry) → get_or ((front ++ e ∷ []) ++ rest) (length front) e ≡ e
at_last [] rest e = refl
at_last (d ∷ front) rest e = at_last front rest e

-- The code of the last of some entries is that of one.
record HasLast (ls : List Entry) (code : List ℕ) : Type 0 where
  front : List Entry
  entry : Entry
  all : ls ≡ front ++ entry ∷ []
  is : entry.code ≡ code

has_last : (ls : List Entry) (code : List ℕ) → last_code ls ≡ Some code → HasLast ls code
has_last [] code e = absurd (cc)
has_last (d ∷ []) code e = record { front = []; entry = d; all = refl; is = cc }
has_last (d ∷ c ∷ ls) code e =
    let more = has_last (c ∷ ls) code e in
    record { front = d ∷ more.front; entry = more.entry; all = ap (λ (es : List Entry). d ∷ es) more.all; is = more.is }

-- There is a last one, where there are some.
pub no_last : {A : Type 0} (ls : List Entry) → last_code ls ≡ None → 1 ≤ length ls → A
no_last [] e some = absurd (omega arith)
no_last (d ∷ []) e some = absurd (cc)
no_last (d ∷ c ∷ ls) e some = no_last (c ∷ ls) e (omega arith)

-- a listing that begins so
record Begins (P : Program) (limit : ℕ) (found : Found) : Type 0 where
  rest : List Entry
  lists : Listing P limit (listed found ++ rest)

begins : (P : Program) (limit count : ℕ) (found : Found) → FindsFirst P limit count found → Begins P limit found
begins P limit count found (inl all) =
    record { rest = []; lists = subst (Listing P limit) (sym (append-nil (listed found))) all.listing }
begins P limit count found (inr some) = record { rest = some.rest; lists = some.listing }

-- The entry that is looked for is the last that was found.
module _ (P : Program) (place limit : ℕ) (found : Found) (code : List ℕ) (first : 1 ≤ place) (few : length (listed found) ≤ place)
    (enough : place ≤ length (listed found)) (last : last_code (listed found) ≡ Some code) (finds : FindsFirst P limit place found) where
  where_it_is : (entry : Entry) × (ls : List Entry) × Listing P limit ls × IsAt ls place entry × (entry.code ≡ code)
  where_it_is =
      let more = begins P limit place found finds in
      let is = has_last (listed found) code last in
      let long : length (listed found) ≡ length is.front + 1 = ap length is.all ∙ length-append is.front (is.entry ∷ []) in
      let whole = length-append (listed found) more.rest in
      let here : place - 1 ≡ length is.front = omega arith in
      let at : get_or (listed found ++ more.rest) (place - 1) is.entry ≡ is.entry =
      ap (λ (n : ℕ). get_or (listed found ++ more.rest) n is.entry) here
      ∙ ap (λ (es : List Entry). get_or (es ++ more.rest) (length is.front) is.entry) is.all ∙ at_last is.front more.rest is.entry in
      (is.entry, listed found ++ more.rest, more.lists, (first, omega arith, at), is.is)

  pub has_proof_at : limit ≤ MAX_LIMIT → HasProof P code
  has_proof_at small =
      let (entry, ls, lists, at, is) = where_it_is in
      subst (λ (c : List ℕ). HasProof P c) is (listed_has_proof P limit ls entry lists small (place - 1, omega (arith, at.0, at.1), at.2))

  pub explains : (S : SourceProgram) (bytes out : Bytes) → IsLifted S P → Documents P bytes code out → WasExplained place limit bytes S Answers out
  explains S bytes out lifted documents =
      let (entry, ls, lists, at, is) = where_it_is in
      let (proof, proves, written) = subst (λ Q. Documents Q bytes code out) lifted.is documents in
      record {
        listing = ls;
        entry = entry;
        proof = proof;
        lists = (lifting_keeps S limit ls lifted.numbered).1 (subst (λ Q. Listing Q limit ls) lifted.is lists);
        is_there = at;
        proves = subst (λ (c : List ℕ). ProofText (lift S) c proof) (sym is) proves;
        written = written;
      }

-- where there is no such entry
lacks_reply : (S : SourceProgram) (P : Program) (place limit : ℕ) (bytes out : Bytes) (f : Found) (status : Status) → IsLifted S P
    → FindsFirst P limit place f → length (listed f) < place → out ≡ last_lines (finish_of f false) → status ≡ lacking_status f.cut
    → WasExplained place limit bytes S status out
lacks_reply S P place limit bytes out f status lifted (inr some) few is said = let enough = some.enough in absurd (omega arith)
lacks_reply S P place limit bytes out f status lifted (inl finds) few is said = by f.cut refl
  where
    found : IsFound (lift S) limit f
    found = subst (λ Q. IsFound Q limit f) lifted.is finds

    lists : SourceListing S limit (listed f)
    lists = (lifting_keeps S limit (listed f) lifted.numbered).1 found.listing

    by : (o : Option goal.Cut.Cut) → f.cut ≡ o → WasExplained place limit bytes S status out
    by None at =
        let end : walks.IsComplete (lift S) limit f = subst (IsEnd (lift S) limit f) at found.end in
        subst (λ s. WasExplained place limit bytes S s out) (sym (said ∙ ap lacking_status at)) (record {
          listing = listed f;
          forks = end.forks;
          failed = end.failed;
          lists = lists;
          few = few;
          exhausted = (exhausted_alike S limit lifted.numbered).1 end.exhausted;
          numbers = end.numbers;
          written = is ∙ ap (λ o. last_lines (finish_with o f.forks f.failed false)) at;
        })
    by (Some cut) at =
        let end : IsEnd (lift S) limit f (Some cut) = subst (IsEnd (lift S) limit f) at found.end in
        subst (λ s. WasExplained place limit bytes S s out) (sym (said ∙ ap lacking_status at)) (record {
          listing = listed f;
          cut = end.0;
          lists = lists;
          few = few;
          over = end.2;
          written = is ∙ ap (λ o. last_lines (finish_with o f.forks f.failed false)) at;
        })

pub lacks : {E : Type 0} (S : SourceProgram) (P : Program) (place limit : ℕ) (bytes : Bytes) (f : Found) (r : Result Reply E) → IsLifted S P
    → FindsFirst P limit place f → length (listed f) < place → IfOk r (λ reply. reply.text ≡ last_lines (finish_of f false))
    → IfOk r (λ reply. reply.status ≡ lacking_status f.cut) → IfOk r (λ reply. WasExplained place limit bytes S reply.status reply.text)
lacks S P place limit bytes f (Ok reply) lifted found few is said =
    lacks_reply S P place limit bytes reply.text f reply.status lifted found few is said
lacks S P place limit bytes f (Err e) lifted found few is said = tt
